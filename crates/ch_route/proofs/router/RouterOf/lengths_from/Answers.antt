use Rattle.std.proofs.Common.{◌≡◌, ◌^◌}
use Rattle.std.proofs.lemmas.Result.{IfOk-weaker}
use Rattle.ch_cost.specs.Cost.{of_walk}
use Rattle.ch_table.specs.Lengths.{IsLengthFromAny, IsRow}
use Rattle.ch_route.specs.Between.{IsRowLengthFrom, IsRowLengthWithin}
use Rattle.ch_route.proofs.RoutesAreLeast.{row-lengths_from, row-lengths_within}
use Rattle.ch_route.proofs.router.RouterOf.lengths_from.Goals as goal

pub returns-clause-row : goal.returns-clause-row
returns-clause-row g c =
    let targets = c.args.selection.now.targets in
    IfOk-weaker c.lengths_from.result (λ done. IsRow (IsLengthFromAny c.self.inside.search c.args.starts.now (of_walk c.args.limit 0)) targets c.args.from c.args.row.now c.lengths_from.new.row)
    (λ done. c.args.limit ≡ 2 ^ 62 → IsRow (IsRowLengthFrom c.args.self.now c.args.starts.now) targets c.args.from c.args.row.now c.lengths_from.new.row)
    (λ done row whole. row-lengths_from c.routes_are_least.ensures.between_lengths c.ways_are_walks.ensures.exact c.args.self.now c.nodes-well_made.ensures.made c.args.starts.now c.requires.starts
    c.self.inside.search c.self.view_is c.args.limit whole targets c.args.from c.args.row.now c.lengths_from.new.row c.requires.selection.ends.targets_in row) c.lengths_from.ensures.row

pub returns-clause-within : goal.returns-clause-within
returns-clause-within g c =
    let targets = c.args.selection.now.targets in
    IfOk-weaker c.lengths_from.result (λ done. IsRow (IsLengthFromAny c.self.inside.search c.args.starts.now (of_walk c.args.limit 0)) targets c.args.from c.args.row.now c.lengths_from.new.row)
    (λ done. IsRow (IsRowLengthWithin c.args.self.now c.args.starts.now c.args.limit) targets c.args.from c.args.row.now c.lengths_from.new.row)
    (λ done row. row-lengths_within c.routes_are_least.ensures.between_lengths c.ways_are_walks.ensures.exact c.args.self.now c.nodes-well_made.ensures.made c.args.starts.now c.requires.starts
    c.routes_are_least.ensures.within_lengths c.right_is_right_by_weight.ensures c.self.inside.search c.self.view_is c.args.limit c.requires.limit targets c.args.from c.args.row.now c.lengths_from.new.row c.requires.selection.ends.targets_in row) c.lengths_from.ensures.row
