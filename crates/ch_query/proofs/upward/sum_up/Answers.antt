use Rattle.std.proofs.Common.{◌+◌, ◌<◌, length, refl, sym, arith}
use Rattle.ch_query.proofs.ClimbCounts.{count-first, count-at_most}
use Rattle.ch_query.proofs.upward.sum_up.Goals as goal

pub ranks-init : goal.ranks-init
ranks-init c = record {
  nodes = refl;
  sum = sym (count-first c.args.hierarchy.now c.args.side (length c.args.hierarchy.now.links));
  done = λ r low. absurd (omega (arith, low));
  left = λ r from. refl;
  limit = refl;
}

pub overflow_add-sum : goal.overflow_add-sum
overflow_add-sum c =
    let h = c.args.hierarchy.now in
    let rank = c.ranks.rank in
    let low : rank < length c.args.counts.now.items = omega (arith, c.ranks-test.true, c.len-rank-end.ensures) in
    omega (arith, c.ranks.invariant.sum, c.get-sum.ensures, c.ranks.invariant.left rank (omega arith), c.requires.counted.each rank low, count-at_most h c.args.side (rank + 1) (length h.links), c.requires.few)

pub set-requires-clause-fits : goal.set-requires-clause-fits
set-requires-clause-fits c =
    let h = c.args.hierarchy.now in
    let rank = c.ranks.rank in
    let low : rank < length c.args.counts.now.items = omega (arith, c.ranks-test.true, c.len-rank-end.ensures) in
    omega (arith, c.ranks.invariant.sum, c.ranks.invariant.limit, c.get-sum.ensures, c.ranks.invariant.left rank (omega arith), c.requires.counted.each rank low, count-at_most h c.args.side (rank + 1) (length h.links), c.requires.limit)
