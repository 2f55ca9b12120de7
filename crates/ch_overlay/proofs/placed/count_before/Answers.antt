use Rattle.std.proofs.Common.{rules, arith, nat_lt}
use Rattle.std.proofs.lemmas.Bool.Decides.{nat_tests}
use Rattle.std.proofs.lemmas.List.Sorted.{IsPartitionPoint-from_clause, IsPartitionedBy-ltb}
use Rattle.ch_overlay.specs.declared.placed.Placed.{Placed}
use Rattle.ch_overlay.proofs.EntriesByNode.{nodes_rise}
use Rattle.ch_overlay.proofs.placed.count_before.Goals as goal

pub returns-clause-parted : goal.returns-clause-parted
returns-clause-parted c =
    let point = IsPartitionPoint-from_clause (λ (p : Placed). nat_lt p.at c.args.node) c.args.entries.now c.partition_point.result c.partition_point.ensures.partitioned
    (IsPartitionedBy-ltb (λ (p : Placed). p.at) c.args.entries.now c.args.node (nodes_rise c.args.entries.now c.requires)) (λ a r q k. search rules) in
    (λ k d low h. let test = point.0 k d low h in grind (arith, nat_tests, test), λ k d low h. let test = point.1 k d low h in grind (arith, nat_tests, test))
