use Rattle.ch_cost.specs.Cost.Laws.{summable-from_in_limit}
use Rattle.ch_cost.proofs.cost.Cost.plus.Goals as goal

pub plus_wide-requires-clause-first : goal.plus_wide-requires-clause-first
plus_wide-requires-clause-first c = summable-from_in_limit c.requires.first

pub plus_wide-requires-clause-second : goal.plus_wide-requires-clause-second
plus_wide-requires-clause-second c = summable-from_in_limit c.requires.second
