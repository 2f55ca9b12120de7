use Rattle.std.proofs.Common.{ℕ, ◌+◌, ◌-◌, ◌<◌, ◌∙◌, List, Contains, length, slice_index, sym, subst, arith}
use Rattle.std.proofs.lemmas.List.Elements.{All-contains}
use Rattle.ch_table.proofs.Ends.{AreEndsTo, ends-more}
use Rattle.ch_table.proofs.Ordered.{placed-among}
use Rattle.ch_table.proofs.columns.ends_of.Goals as goal

pub bounds-places-rank : goal.bounds-places-rank
bounds-places-rank c =
    let listed : Contains c.args.ranks.now c.rank.result = subst (Contains c.args.ranks.now) (sym c.rank.ensures) (c.requires.above.ends c.targets.target-index 0 c.targets-test.true) in
    let low : c.rank.result < length c.args.hierarchy.now.ranks = All-contains (λ r. r < length c.args.hierarchy.now.ranks) c.args.ranks.now c.rank.result c.requires.above.in_range listed in
    omega (arith, low, c.requires.placed.count)

pub overflow_sub-places : goal.overflow_sub-places
overflow_sub-places c =
    let listed : Contains c.args.ranks.now c.rank.result = subst (Contains c.args.ranks.now) (sym c.rank.ensures) (c.requires.above.ends c.targets.target-index 0 c.targets-test.true) in
    (placed-among (length c.args.hierarchy.now.ranks) c.args.ranks.now c.args.places.now c.requires.placed c.rank.result listed).0

pub targets-preserved : goal.targets-preserved
targets-preserved c =
    let listed : Contains c.args.ranks.now c.rank.result = subst (Contains c.args.ranks.now) (sym c.rank.ensures) (c.requires.above.ends c.targets.target-index 0 c.targets-test.true) in
    let there = placed-among (length c.args.hierarchy.now.ranks) c.args.ranks.now c.args.places.now c.requires.placed c.rank.result listed in
    subst (λ (ends : List ℕ). AreEndsTo c.args.hierarchy.now c.args.targets.now c.args.ranks.now ends (c.targets.target-index + 1)) (sym c.in_ok-push.ensures.items)
    (ends-more c.args.hierarchy.now c.args.targets.now c.args.ranks.now c.targets.ends.items c.targets.target-index (slice_index c.args.places.now c.rank.result - 1) there.1 (there.2 ∙ c.rank.ensures) c.targets.invariant)
