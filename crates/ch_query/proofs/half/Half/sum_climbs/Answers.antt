use Rattle.std.proofs.Common.{◌≡◌, ◌+◌, ◌<◌, ◌∙◌, length, get_or, arith}
use Rattle.std.proofs.lemmas.List.{get_or_default, length-set}
use Rattle.ch_graph.specs.Marks.Laws.{label-in, label_settled}
use Rattle.ch_graph.specs.Marks.{mark}
use Rattle.ch_query.specs.declared.climb.Climbed.{Climbed}
use Rattle.ch_query.proofs.ClimbSums.{feet-summed, summed-all, summed-more, summed-none}
use Rattle.ch_query.proofs.half.Half.sum_climbs.Goals as goal

abbrev none : Climbed
none = record { rank = 0; length = 0 }

pub climbs-init : goal.climbs-init
climbs-init c = record { room = c.requires.room; done = summed-none }

pub sum_to-sum-requires-clause-rank_in : goal.sum_to-sum-requires-clause-rank_in
sum_to-sum-requires-clause-rank_in c =
    let one = c.requires.listed.each c.climbs.climbed-index none c.climbs-test.true in
    omega (arith, label-in c.args.marks.now (get_or c.args.climbs.now c.climbs.climbed-index none).rank one.0 (label_settled (mark c.args.marks.now (get_or c.args.climbs.now c.climbs.climbed-index none).rank) one.0 one.1), c.requires.searching.nodes)

pub sum_to-sum-requires-clause-foot : goal.sum_to-sum-requires-clause-foot
sum_to-sum-requires-clause-foot c =
    feet-summed c.requires.listed (get_or c.args.climbs.now c.climbs.climbed-index none) c.climbs-test.true
    (λ (d : Climbed). get_or_default c.args.climbs.now c.climbs.climbed-index d none c.climbs-test.true) c.climbs.invariant.done

pub bounds-sums-climbed : goal.bounds-sums-climbed
bounds-sums-climbed c =
    let one = c.requires.listed.each c.climbs.climbed-index none c.climbs-test.true in
    omega (arith, label-in c.args.marks.now (get_or c.args.climbs.now c.climbs.climbed-index none).rank one.0 (label_settled (mark c.args.marks.now (get_or c.args.climbs.now c.climbs.climbed-index none).rank) one.0 one.1), c.requires.searching.nodes, c.climbs.invariant.room)

pub climbs-preserved : goal.climbs-preserved
climbs-preserved c =
    let own : Climbed = get_or c.args.climbs.now c.climbs.climbed-index none in
    let one = c.requires.listed.each c.climbs.climbed-index none c.climbs-test.true in
    let rank_in : (get_or c.args.climbs.now c.climbs.climbed-index none).rank < length c.climbs.sums = omega (arith, label-in c.args.marks.now (get_or c.args.climbs.now c.climbs.climbed-index none).rank one.0 (label_settled (mark c.args.marks.now (get_or c.args.climbs.now c.climbs.climbed-index none).rank) one.0 one.1), c.requires.searching.nodes, c.climbs.invariant.room) in
    record {
      room = length-set c.climbs.sums own.rank c.sum_to-sum.result ∙ c.climbs.invariant.room;
      done = summed-more c.requires.listed own c.climbs-test.true (λ (d : Climbed). get_or_default c.args.climbs.now c.climbs.climbed-index d none c.climbs-test.true) c.climbs.invariant.done
          c.sum_to-sum.result rank_in c.sum_to-sum.ensures;
    }

pub returns-clause-sums : goal.returns-clause-sums
returns-clause-sums c = summed-all c.requires.listed (omega (arith, c.climbs-test.false, c.climbs.auto.climbed-index-end)) c.climbs.invariant.done
