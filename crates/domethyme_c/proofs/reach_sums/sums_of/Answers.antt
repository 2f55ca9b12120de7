use Rattle.std.proofs.Common.{◌∙◌, length, ap, arith}
use Rattle.std.specs.Arc.{arc_value}
use Rattle.domethyme_c.proofs.Tables.{count_of_all}
use Rattle.domethyme_c.proofs.reach_sums.sums_of.Goals as goal

pub sums_over-sums-requires-clause-lengths : goal.sums_over-sums-requires-clause-lengths
sums_over-sums-requires-clause-lengths c =
    let are = c.in_ok-chosen.ensures.targets ∙ c.in_ok-selection.ensures.targets in
    omega (arith, c.requires.lengths, count_of_all (length c.args.engine.now.ranks) (arc_value c.in_ok-chosen.chosen.selection).targets are)
