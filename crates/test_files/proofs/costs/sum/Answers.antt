use Rattle.std.proofs.Common.{refl}
use Rattle.test_files.proofs.costs.sum.Goals as goal

pub plus-requires-clause-first : goal.plus-requires-clause-first
plus-requires-clause-first c = c.if-is_in_limit.ensures.0 refl

pub plus-requires-clause-second : goal.plus-requires-clause-second
plus-requires-clause-second c = c.if-is_in_limit-2.ensures.0 refl
