use Rattle.std.proofs.Common.{rules}
use Rattle.grfile.proofs.roads.road_in_range.Goals as goal

pub returns : goal.returns
returns c = search rules

pub returns-then-weight-from : goal.returns-then-weight-from
returns-then-weight-from c = search rules
