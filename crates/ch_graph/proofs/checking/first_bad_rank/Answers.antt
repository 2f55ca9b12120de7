use Rattle.std.proofs.lemmas.Grind.{common_steps}
use Rattle.std.proofs.Common.{ℕ, ◌<◌, length, arith}
use Rattle.ch_graph.specs.Checking.{IsNewRank}
use Rattle.ch_graph.proofs.TakenRanks.{ranks_in_range, ranks_once}
use Rattle.ch_graph.proofs.checking.first_bad_rank.Goals as goal

pub returns-clause-none : goal.returns-clause-none
returns-clause-none c =
    let new : (k : ℕ) → k < length c.args.ranks.now → IsNewRank c.args.ranks.now k = λ k within. c.ranks.invariant.before k (omega (arith, within, c.ranks-test.false)) in
    (ranks_in_range c.args.ranks.now new, ranks_once c.args.ranks.now new)

pub returns-then-rank-ranks-clause-none : goal.returns-then-rank-ranks-clause-none
returns-then-rank-ranks-clause-none c = grind (arith, common_steps)

pub ranks-init : goal.ranks-init
ranks-init c = grind (arith, common_steps) steps 200000
