-- Sums beside labels: as climbs put them, and over one link more.
use Rattle.std.proofs.Common.{ℕ, ◌≡◌, ◌+◌, ◌-◌, ◌*◌, ◌^◌, ◌<◌, ◌≤◌, List, length, get_or, set, replicate, slice_index, All, Some, None, Option, ap, sym, subst, ◌∙◌, inl, inr, arith}
use Rattle.std.proofs.lemmas.Bool.{cases_eq, cases_lt}
use Rattle.ch_cost.specs.declared.cost.Cost.{Cost}
use Rattle.ch_cost.specs.Cost.{length_of}
use Rattle.ch_cost.specs.Cost.Laws.{length_of-at_most}
use Rattle.ch_graph.specs.Hierarchy.{Hierarchy, rank_of}
use Rattle.ch_graph.specs.Walk.{IsLeastOrNone}
use Rattle.ch_query.specs.declared.climb.Climbed.{Climbed}
use Rattle.ch_query.specs.declared.seed.Seed.{Seed}
use Rattle.ch_query.specs.declared.side.Side.TheVariants.{Rise}
use Rattle.ch_query.specs.Climb.{cost_at}
use Rattle.ch_query.specs.Places.{link_at}
use Rattle.ch_query.specs.Sums.{AreSumsOf, IsSummedWay, IsSummedWay.over}
use Rattle.ch_query.specs.Ways.{AreLeastClimbs, IsClimb}
use Rattle.ch_table.specs.Labels.{AreLabels, IsLeastOver, far, label_of, lane_of}
use Rattle.ch_table.specs.Selection.{ArePlaced, Selection}
use Rattle.ch_table.specs.Sums.{AreRaisedSums, AreSmallSums, HaveSums, IsPlaceSummed, IsSumOver}
use Rattle.ch_table.proofs.LaneLabels.{all-far, all-small, lane-here, lane-elsewhere}
use Rattle.ch_table.proofs.StepLinks.{IsLinkOf}

-- where all is far there is nothing to sum
pub sums-none : (h : Hierarchy) (numbers : List ℕ) (starts : ℕ → List Seed) (bound : Cost) (ranks : List ℕ) (lanes : ℕ) (labels sums : List (List ℕ)) → length labels ≡ length ranks → All (λ (row : List ℕ). row ≡ replicate lanes (far bound)) labels
    → HaveSums h numbers starts bound ranks lanes labels sums
sums-none h numbers starts bound ranks lanes labels sums count all = record {
  each = λ lane p lane_in p_in near. absurd (omega (arith, near, all-far labels lanes (far bound) all lane p lane_in (omega (arith, p_in, count))));
}

pub small-none : (nodes : ℕ) (ranks : List ℕ) (lanes : ℕ) (sums : List (List ℕ)) → All (λ (row : List ℕ). row ≡ replicate lanes 0) sums → AreSmallSums nodes ranks sums
small-none nodes ranks lanes sums all lane p = omega (arith, all-small sums lanes 0 all lane p)

-- one place is written
module _ (labels sums : List (List ℕ)) (q : ℕ) (row own : List ℕ) where
  pub sums-set : (h : Hierarchy) (numbers : List ℕ) (starts : ℕ → List Seed) (bound : Cost) (ranks : List ℕ) (lanes : ℕ) → q < length labels → q < length sums → IsPlaceSummed h numbers starts bound (slice_index ranks q) lanes row own
      → HaveSums h numbers starts bound ranks lanes labels sums → HaveSums h numbers starts bound ranks lanes (set labels q row) (set sums q own)
  sums-set h numbers starts bound ranks lanes q_in own_in is was = record {
    each = λ lane p lane_in p_in near. elim (cases_eq p q) [
      | inl here ↦
          let label : lane_of (set labels q row) lane p ≡ slice_index row lane = ap (lane_of (set labels q row) lane) here ∙ lane-here labels q row lane q_in in
          let sum : lane_of (set sums q own) lane p ≡ slice_index own lane = ap (lane_of (set sums q own) lane) here ∙ lane-here sums q own lane own_in in
          let way : IsSummedWay h numbers (starts lane) (slice_index ranks q) (slice_index row lane) (slice_index own lane) = is.each lane lane_in (omega (arith, near, label)) in
          subst (λ m. IsSummedWay h numbers (starts lane) (slice_index ranks p) (lane_of (set labels q row) lane p) m) (sym sum)
          (subst (λ n. IsSummedWay h numbers (starts lane) (slice_index ranks p) n (slice_index own lane)) (sym label)
          (subst (λ x. IsSummedWay h numbers (starts lane) (slice_index ranks x) (slice_index row lane) (slice_index own lane)) (sym here) way))
      | inr other ↦
          let label : lane_of (set labels q row) lane p ≡ lane_of labels lane p = lane-elsewhere labels q row lane p other in
          let sum : lane_of (set sums q own) lane p ≡ lane_of sums lane p = lane-elsewhere sums q own lane p other in
          subst (λ m. IsSummedWay h numbers (starts lane) (slice_index ranks p) (lane_of (set labels q row) lane p) m) (sym sum)
          (subst (λ n. IsSummedWay h numbers (starts lane) (slice_index ranks p) n (lane_of sums lane p)) (sym label) (was.each lane p lane_in p_in (omega (arith, near, label))))
    ];
  }

  pub small-set : (nodes : ℕ) (ranks : List ℕ) → q < length sums → ((lane : ℕ) → slice_index own lane ≤ (nodes + (nodes - slice_index ranks q)) * 2 ^ 36) → AreSmallSums nodes ranks sums → AreSmallSums nodes ranks (set sums q own)
  small-set nodes ranks own_in small was lane p = elim (cases_eq p q) [
    | inl here ↦
        let sum : lane_of (set sums q own) lane p ≡ slice_index own lane = ap (lane_of (set sums q own) lane) here ∙ lane-here sums q own lane own_in in
        omega (arith, sum, small lane, ap (slice_index ranks) here)
    | inr other ↦ omega (arith, lane-elsewhere sums q own lane p other, was lane p)
  ]

-- Over the link of a step
module _ (h : Hierarchy) (numbers : List ℕ) (s : Selection) (p at : ℕ) (is : IsLinkOf h s p at) where
  -- a rank above
  pub link-rises : slice_index s.ranks p < slice_index s.ranks (slice_index s.tails at)
  link-rises = omega (arith, is.leads.foot, is.leads.head, is.leads.climbs.rises)

  module _ {starts : List Seed} {long number : ℕ} (read : long ≡ slice_index s.lengths at) (own : number ≡ slice_index numbers is.link) where
    pub way-over : (n m : ℕ) → IsSummedWay h numbers starts (slice_index s.ranks (slice_index s.tails at)) n m → IsSummedWay h numbers starts (slice_index s.ranks p) (n + long) (m + number)
    way-over n m way =
        let k : ℕ = is.link in
        let more : IsSummedWay h numbers starts (rank_of h (link_at h k).to) (n + length_of (cost_at h k)) (m + slice_index numbers k) = over k is.leads.climbs.within is.leads.head way in
        let length : n + length_of (cost_at h k) ≡ n + long = ap (λ x. n + x) (sym (read ∙ is.long)) in
        let sum : m + slice_index numbers k ≡ m + number = ap (λ x. m + x) (sym own) in
        subst (λ x. IsSummedWay h numbers starts (slice_index s.ranks p) (n + long) x) sum
        (subst (λ x. IsSummedWay h numbers starts (slice_index s.ranks p) x (m + slice_index numbers k)) length
        (subst (λ r. IsSummedWay h numbers starts r (n + length_of (cost_at h k)) (m + slice_index numbers k)) is.leads.foot more))

    -- the label and the sum that go on
    pub summed-over : (most old new n was m sum : ℕ) → IsLeastOver old (n + long) new → IsSumOver old (n + long) was (m + number) sum
        → (old ≤ most → IsSummedWay h numbers starts (slice_index s.ranks p) old was)
        → (n ≤ most → IsSummedWay h numbers starts (slice_index s.ranks (slice_index s.tails at)) n m)
        → new ≤ most → IsSummedWay h numbers starts (slice_index s.ranks p) new sum
    summed-over most old new n was m sum least goes here there near = elim (cases_lt (n + long) old) [
      | inl less ↦
          let label = least.less less in
          let way = way-over n m (there (omega (arith, near, label))) in
          subst (λ x. IsSummedWay h numbers starts (slice_index s.ranks p) new x) (sym (goes.less less)) (subst (λ x. IsSummedWay h numbers starts (slice_index s.ranks p) x (m + number)) (sym label) way)
      | inr more ↦
          let label = least.stays more in
          subst (λ x. IsSummedWay h numbers starts (slice_index s.ranks p) new x) (sym (goes.stays more)) (subst (λ x. IsSummedWay h numbers starts (slice_index s.ranks p) x was) (sym label) (here (omega (arith, near, label))))
    ]

  pub small-over : (nodes old long was other sum number tail : ℕ) → IsSumOver old long was (tail + number) sum → slice_index s.ranks (slice_index s.tails at) < nodes → number ≤ 2 ^ 36
      → was ≤ (nodes + (nodes - slice_index s.ranks p)) * 2 ^ 36 → tail ≤ (nodes + (nodes - slice_index s.ranks (slice_index s.tails at))) * 2 ^ 36 → sum ≤ (nodes + (nodes - slice_index s.ranks p)) * 2 ^ 36
  small-over nodes old long was other sum number tail goes tail_in small here there = elim (cases_lt long old) [
    | inl less ↦ omega (arith, goes.less less, there, small, link-rises, tail_in)
    | inr more ↦ omega (arith, goes.stays more, here)
  ]

-- As climbs put them
pub raised_sums-none : (ranks : List ℕ) (climbs : List Climbed) (kept : List ℕ) (sum : ℕ → ℕ) → AreRaisedSums ranks climbs 0 kept sum
raised_sums-none ranks climbs kept sum = record { each = λ k p d low p_in is. absurd (omega (arith, low)) }

module _ (nodes : ℕ) (ranks placed : List ℕ) (are : ArePlaced nodes ranks placed) (climbs : List Climbed) (n : ℕ) (c : Climbed) (at : (d : Climbed) → get_or climbs n d ≡ c) (kept : List ℕ) where
  pub raised_sums-skips : (sum : ℕ → ℕ) → slice_index placed c.rank ≡ 0 → AreRaisedSums ranks climbs n kept sum → AreRaisedSums ranks climbs (n + 1) kept sum
  raised_sums-skips sum none was = record {
    each = λ k p d low p_in is. elim (cases_lt k n) [
      | inl before ↦ was.each k p d before p_in is
      | inr late ↦
          let last : k ≡ n = omega (arith, low, late) in
          let rank : c.rank ≡ slice_index ranks p = ap (λ (x : Climbed). x.rank) (sym (ap (λ j. get_or climbs j d) last ∙ at d)) ∙ is in
          absurd (omega (arith, none, are.here p p_in, ap (slice_index placed) rank))
    ];
  }

  pub raised_sums-more : (old new : ℕ → ℕ) (place : ℕ) → slice_index placed c.rank ≡ place + 1 → new place ≡ slice_index kept c.rank → ((p : ℕ) → (p ≡ place → ⊥) → new p ≡ old p)
      → AreRaisedSums ranks climbs n kept old → AreRaisedSums ranks climbs (n + 1) kept new
  raised_sums-more old new place is here_now others was = record {
    each = λ k p d low p_in same. elim (cases_eq p place) [
      | inl here ↦ ap new here ∙ (here_now ∙ ap (slice_index kept) (sym rank_here ∙ ap (slice_index ranks) (sym here)))
      | inr other ↦ elim (cases_lt k n) [
        | inl before ↦ others p other ∙ was.each k p d before p_in same
        | inr late ↦
            let last : k ≡ n = omega (arith, low, late) in
            let rank : c.rank ≡ slice_index ranks p = ap (λ (x : Climbed). x.rank) (sym (ap (λ j. get_or climbs j d) last ∙ at d)) ∙ same in
            absurd (other (omega (arith, is, are.here p p_in, ap (slice_index placed) rank)))
      ]
    ];
  }
    where
      there : (slice_index placed c.rank - 1 < length ranks) × (slice_index ranks (slice_index placed c.rank - 1) ≡ c.rank)
      there = are.back c.rank (omega (arith, is))

      same_place : slice_index placed c.rank - 1 ≡ place
      same_place = omega (arith, is)

      rank_here : slice_index ranks place ≡ c.rank
      rank_here = ap (slice_index ranks) (sym same_place) ∙ there.1

-- The label of a climb has the sum that is kept for its rank
module _ (h : Hierarchy) (numbers : List ℕ) (starts : List Seed) (bound : Cost) (ranks : List ℕ) (climbs : List Climbed) (kept : List ℕ) (least : AreLeastClimbs h Rise starts bound climbs) (sums : AreSumsOf h numbers starts kept climbs) where
  pub raised-sum : (label sum : ℕ → ℕ) → AreLabels (IsClimb h Rise starts bound) bound ranks label → AreRaisedSums ranks climbs (length climbs) kept sum
      → (p : ℕ) → p < length ranks → label p ≤ length_of bound → IsSummedWay h numbers starts (slice_index ranks p) (label p) (sum p)
  raised-sum label sum labels raised p p_in near = by_cost (labels p p_in).cost (labels p p_in).least (labels p p_in).is
    where
      by_cost : (v : Option Cost) → IsLeastOrNone (IsClimb h Rise starts bound (slice_index ranks p)) v → label p ≡ label_of bound v → IsSummedWay h numbers starts (slice_index ranks p) (label p) (sum p)
      by_cost None none is = absurd (omega (arith, near, is))
      by_cost (Some c) own is =
          let one = least.all (slice_index ranks p) c own.0 in
          let d : Climbed = record { rank = 0; length = 0 } in
          let k : ℕ = one.0 in
          let rank : (get_or climbs k d).rank ≡ slice_index ranks p = one.2 d in
          let climb = least.each k d one.1 in
          let there : IsClimb h Rise starts bound (slice_index ranks p) climb.cost = subst (λ r. IsClimb h Rise starts bound r climb.cost) rank climb.least.0 in
          let back : IsClimb h Rise starts bound (get_or climbs k d).rank c = subst (λ r. IsClimb h Rise starts bound r c) (sym rank) own.0 in
          let long : (get_or climbs k d).length ≡ label p = omega (arith, climb.long, is, length_of-at_most (own.1 climb.cost there), length_of-at_most (climb.least.1 c back)) in
          let at = sums k d one.1 in
          let same : slice_index kept (get_or climbs k d).rank ≡ sum p = ap (slice_index kept) rank ∙ sym (raised.each k p d one.1 p_in rank) in
          subst (λ m. IsSummedWay h numbers starts (slice_index ranks p) (label p) m) same
          (subst (λ n. IsSummedWay h numbers starts (slice_index ranks p) n (slice_index kept (get_or climbs k d).rank)) long
          (subst (λ r. IsSummedWay h numbers starts r (get_or climbs k d).length (slice_index kept (get_or climbs k d).rank)) rank at.way))

-- one more lane has the sums of its climbs
pub sums-lane : (h : Hierarchy) (numbers : List ℕ) (starts : ℕ → List Seed) (bound : Cost) (ranks : List ℕ) (lanes lane : ℕ) (labels new_labels sums new_sums : List (List ℕ))
    → ((p : ℕ) → p < length ranks → lane_of new_labels lane p ≤ length_of bound → IsSummedWay h numbers (starts lane) (slice_index ranks p) (lane_of new_labels lane p) (lane_of new_sums lane p))
    → ((j p : ℕ) → (j ≡ lane → ⊥) → lane_of new_labels j p ≡ lane_of labels j p) → ((j p : ℕ) → (j ≡ lane → ⊥) → lane_of new_sums j p ≡ lane_of sums j p)
    → HaveSums h numbers starts bound ranks lanes labels sums → HaveSums h numbers starts bound ranks lanes new_labels new_sums
sums-lane h numbers starts bound ranks lanes lane labels new_labels sums new_sums own others sum_others was = record {
  each = λ j p lane_in p_in near. elim (cases_eq j lane) [
    | inl here ↦ subst (λ i. IsSummedWay h numbers (starts i) (slice_index ranks p) (lane_of new_labels i p) (lane_of new_sums i p)) (sym here) (own p p_in (omega (arith, near, ap (λ i. lane_of new_labels i p) here)))
    | inr other ↦
        subst (λ m. IsSummedWay h numbers (starts j) (slice_index ranks p) (lane_of new_labels j p) m) (sym (sum_others j p other))
        (subst (λ n. IsSummedWay h numbers (starts j) (slice_index ranks p) n (lane_of sums j p)) (sym (others j p other)) (was.each j p lane_in p_in (omega (arith, near, others j p other))))
  ];
}
