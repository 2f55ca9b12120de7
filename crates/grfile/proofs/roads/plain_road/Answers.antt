use Rattle.std.proofs.Common.{sym, ◌∙◌}
use Rattle.grfile.proofs.PlainFields.{road_before}
use Rattle.grfile.proofs.roads.plain_road.Goals as goal

pub returns-in-Ok : goal.returns-in-Ok
returns-in-Ok c = road_before c.args.size c.args.line c.in-Ok.entry c.in_ok-numbers.ensures c.in_ok-from.ensures c.in_ok-to.ensures c.in_ok-weight.ensures (sym c.road_in_range.ensures ∙ c.in-Ok.is)
