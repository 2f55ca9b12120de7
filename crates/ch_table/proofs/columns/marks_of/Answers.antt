use Rattle.std.proofs.Common.{◌<◌, ◌∙◌, All, length, get_or, set, take, subst, arith}
use Rattle.std.proofs.lemmas.List.{length-set, take_all}
use Rattle.std.proofs.lemmas.List.Elements.{All-more}
use Rattle.ch_graph.specs.Hierarchy.{rank_of}
use Rattle.ch_table.specs.Laying.{IsMarked}
use Rattle.ch_table.proofs.Marked.{is_marked-set, is_marked-here}
use Rattle.ch_table.proofs.columns.marks_of.Goals as goal

pub targets-preserved : goal.targets-preserved
targets-preserved c =
    let h = c.args.hierarchy.now in
    let marks = c.targets.marks.items in
    let r = c.rank.result in
    let n = c.targets.target-index in
    let r_in : c.rank.result < length c.targets.marks.items = omega (arith, c.rank.ensures, c.nodes.ensures.made.in_range (get_or c.args.targets.now n 0) 0 (c.requires.targets n 0 c.targets-test.true), c.targets.invariant.nodes) in
    record {
      nodes = length-set marks r 1 ∙ c.targets.invariant.nodes;
      ends = All-more (λ t. IsMarked (set marks r 1) (rank_of h t)) c.args.targets.now n 0 c.targets-test.true
          (λ k d low. is_marked-set marks r (rank_of h (get_or (take n c.args.targets.now) k d)) r_in (c.targets.invariant.ends k d low))
          (subst (IsMarked (set marks r 1)) c.rank.ensures (is_marked-here marks r r_in));
    }

pub returns-clause-ends : goal.returns-clause-ends
returns-clause-ends c = subst (All (λ t. IsMarked c.targets.marks.items (rank_of c.args.hierarchy.now t))) (take_all c.targets.target-index c.args.targets.now c.targets-test.false) c.targets.invariant.ends
