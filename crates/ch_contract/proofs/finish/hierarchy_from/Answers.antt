use Rattle.std.proofs.Common.{Ok, ap, sym, subst, ◌∙◌}
use Rattle.ch_graph.specs.Limits.{bound_of}
use Rattle.ch_graph.specs.Hierarchy.{Hierarchy}
use Rattle.ch_contract.specs.Finish.{IsMaking}
use Rattle.ch_contract.proofs.FinishedHierarchy.{finished}
use Rattle.ch_contract.proofs.finish.hierarchy_from.Goals as goal

pub new-requires : goal.new-requires
new-requires c =
    let are = rw c.in-Ok.is at c.requires.parts in
    let bound_is = c.bound-bound.ensures ∙ ap bound_of c.graph.ensures in
    (finished c.reached_hierarchy_is_right.ensures c.reached_hierarchy_is_well_made.ensures c.args.ledger.now c.in-Ok.parts _ c.holds.ensures c.requires.over are bound_is).0

pub returns : goal.returns
returns c =
    let are = rw c.in-Ok.is at c.requires.parts in
    let bound_is = c.bound-bound.ensures ∙ ap bound_of c.graph.ensures in
    subst (λ (h : Hierarchy). IsMaking c.args.ledger.now (Ok h)) (sym c.new.ensures)
    (finished c.reached_hierarchy_is_right.ensures c.reached_hierarchy_is_well_made.ensures c.args.ledger.now c.in-Ok.parts _ c.holds.ensures c.requires.over are bound_is).1
