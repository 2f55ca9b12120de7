use Rattle.std.proofs.Common.{◌≡◌, ◌^◌, IfOk, refl, subst}
use Rattle.std.proofs.lemmas.Result.{IfOk-weaker}
use Rattle.ch_cost.specs.declared.cost.Cost.{Cost}
use Rattle.ch_cost.specs.Cost.{of_walk}
use Rattle.ch_graph.specs.Hierarchy.{Hierarchy, IsWellMade}
use Rattle.ch_query.specs.Ways.{free}
use Rattle.ch_table.specs.Selection.{Selection}
use Rattle.ch_table.specs.Lengths.{IsLengthFromAny, IsExactLength, IsRow}
use Rattle.ch_table.specs.Lengths.Laws.{row-weaker}
use Rattle.ch_table.proofs.Bounds.{walk-bound, free-start}
use Rattle.ch_table.proofs.Rows.{exact-length}
use Rattle.ch_table.proofs.selection.Selection.lengths_from.Goals as goal

pub fill_from-requires-clause-bound : goal.fill_from-requires-clause-bound
fill_from-requires-clause-bound g c = (walk-bound c.args.limit c.of_walk.result c.of_walk.ensures c.requires.limit).0

pub fill_from-requires-clause-limit : goal.fill_from-requires-clause-limit
fill_from-requires-clause-limit g c = (walk-bound c.args.limit c.of_walk.result c.of_walk.ensures c.requires.limit).1

pub returns-clause-exact : goal.returns-clause-exact
returns-clause-exact g c =
    let h = c.args.search.now in
    let targets = c.args.self.now.targets in
    let starts = c.args.starts.now in
    let made = subst (λ (k : Hierarchy). IsWellMade k) c.hierarchy.ensures c.nodes-well_made.ensures.made in
    let row = subst (λ (s : Selection). IfOk c.fill_from.result (λ done. IsRow (IsLengthFromAny h starts c.of_walk.result) s.targets c.args.from c.args.row.now c.fill_from.new.row)) c.self.view_is c.fill_from.ensures.row in
    IfOk-weaker c.fill_from.result (λ done. IsRow (IsLengthFromAny h starts c.of_walk.result) targets c.args.from c.args.row.now c.fill_from.new.row)
    (λ done. c.args.limit ≡ 2 ^ 62 → IsRow (IsExactLength h starts) targets c.args.from c.args.row.now c.fill_from.new.row)
    (λ done own whole. row-weaker (IsLengthFromAny h starts (of_walk c.args.limit 0)) (IsExactLength h starts) h targets c.args.from c.args.row.now c.fill_from.new.row c.requires.selection.ends.targets_in
    (λ t n t_in length. exact-length c.ways_are_walks.ensures.exact h made starts c.requires.starts c.args.limit whole t n (free-start h t (free t) refl t_in) length)
    (subst (λ (b : Cost). IsRow (IsLengthFromAny h starts b) targets c.args.from c.args.row.now c.fill_from.new.row) c.of_walk.ensures own)) row
