-- Climbs are put in at the places of their ranks, one by one.
use Rattle.std.proofs.Common.{ℕ, ◌≡◌, ◌+◌, ◌-◌, ◌<◌, ◌≤◌, ◌⊎◌, List, length, get_or, slice_index, Some, None, ap, sym, subst, ◌∙◌, inl, inr, arith}
use Rattle.std.proofs.lemmas.Bool.{cases_eq, cases_lt}
use Rattle.ch_cost.specs.declared.cost.Cost.{Cost}
use Rattle.ch_graph.specs.Hierarchy.{Hierarchy}
use Rattle.ch_query.specs.declared.climb.Climbed.{Climbed}
use Rattle.ch_query.specs.declared.seed.Seed.{Seed}
use Rattle.ch_query.specs.declared.side.Side.TheVariants.{Rise}
use Rattle.ch_query.specs.Ways.{IsClimb, AreLeastClimbs}
use Rattle.ch_table.specs.Labels.{IsLabel, AreLabels, far}
use Rattle.ch_table.specs.Selection.{ArePlaced}

-- the label of a rank is far, and none of the first n climbs leads there; or it is the length of one that does
abbrev pub IsRaised : ℕ → ℕ → List Climbed → ℕ → ℕ → Type 0
IsRaised distant r climbs n label =
    ((label ≡ distant) × ((k : ℕ) (d : Climbed) → k < n → (get_or climbs k d).rank ≡ r → ⊥))
    ⊎ ((k : ℕ) × (k < n) × ((d : Climbed) → (get_or climbs k d).rank ≡ r) × ((d : Climbed) → label ≡ (get_or climbs k d).length))

pub record AreRaised (distant : ℕ) (ranks : List ℕ) (climbs : List Climbed) (n : ℕ) (label : ℕ → ℕ) : Type 0 where
  pub each : (p : ℕ) → p < length ranks → IsRaised distant (slice_index ranks p) climbs n (label p)

pub raised-none : (distant : ℕ) (ranks : List ℕ) (climbs : List Climbed) (label : ℕ → ℕ) → ((p : ℕ) → p < length ranks → label p ≡ distant) → AreRaised distant ranks climbs 0 label
raised-none distant ranks climbs label all = record { each = λ p low. inl (all p low, λ k d before. absurd (omega (arith, before))) }

module _ (distant nodes : ℕ) (ranks placed : List ℕ) (are : ArePlaced nodes ranks placed) (climbs : List Climbed) (n : ℕ) (c : Climbed) (n_in : n < length climbs) (at : (d : Climbed) → get_or climbs n d ≡ c) where
  -- a climb to another rank changes nothing of this one
  other-rank : (r label : ℕ) → (c.rank ≡ r → ⊥) → IsRaised distant r climbs n label → IsRaised distant r climbs (n + 1) label
  other-rank r label apart raised = elim raised [
    | inl none ↦ inl (
      none.0,
      λ k d before is. elim (cases_lt k n) [
        | inl earlier ↦ none.1 k d earlier is
        | inr last ↦
            let same : k ≡ n = omega (arith, before, last) in
            apart (sym (ap (λ (x : Climbed). x.rank) (at d)) ∙ (ap (λ j. (get_or climbs j d).rank) (sym same) ∙ is))
      ],
    )
    | inr one ↦ inr (one.0, omega (arith, one.1), one.2, one.3)
  ]

  -- and one to a rank that has no place none
  pub raised-skips : (label : ℕ → ℕ) → slice_index placed c.rank ≡ 0 → AreRaised distant ranks climbs n label → AreRaised distant ranks climbs (n + 1) label
  raised-skips label none was = record {
    each = λ p low. other-rank (slice_index ranks p) (label p) (λ same. omega (arith, none, are.here p low, ap (slice_index placed) same)) (was.each p low);
  }

  -- it is put in at its place
  pub raised-more : (old new : ℕ → ℕ) (place : ℕ) → slice_index placed c.rank ≡ place + 1 → new place ≡ c.length → ((p : ℕ) → (p ≡ place → ⊥) → new p ≡ old p) → AreRaised distant ranks climbs n old → AreRaised distant ranks climbs (n + 1) new
  raised-more old new place is here_now others was = record {
    each = λ p low. elim (cases_eq p place) [
      | inl here ↦ inr (
        n,
        omega arith,
        λ d. ap (λ (x : Climbed). x.rank) (at d) ∙ sym rank_here ∙ ap (slice_index ranks) (sym here),
        λ d. ap new here ∙ (here_now ∙ ap (λ (x : Climbed). x.length) (sym (at d))),
      )
      | inr other ↦ subst (λ l. IsRaised distant (slice_index ranks p) climbs (n + 1) l) (sym (others p other))
          (other-rank (slice_index ranks p) (old p) (λ same. other (omega (arith, is, are.here p low, ap (slice_index placed) same))) (was.each p low))
    ];
  }
    where
      there : (slice_index placed c.rank - 1 < length ranks) × (slice_index ranks (slice_index placed c.rank - 1) ≡ c.rank)
      there = are.back c.rank (omega (arith, is))

      same_place : slice_index placed c.rank - 1 ≡ place
      same_place = omega (arith, is)

      rank_here : slice_index ranks place ≡ c.rank
      rank_here = ap (slice_index ranks) (sym same_place) ∙ there.1

-- All are: each label is that of the least climb
module _ (h : Hierarchy) (starts : List Seed) (bound : Cost) (ranks : List ℕ) (climbs : List Climbed) (least : AreLeastClimbs h Rise starts bound climbs) where
  raised-label : (r label : ℕ) → IsRaised (far bound) r climbs (length climbs) label → IsLabel (IsClimb h Rise starts bound r) bound label
  raised-label r label raised = elim raised [
    | inl none ↦ record {
      cost = None;
      least = λ c climb.
          let one = least.all r c climb in
          let d : Climbed = record { rank = 0; length = 0 } in
          none.1 one.0 d one.1 (one.2 d);
      is = none.0;
    }
    | inr one ↦
        let d : Climbed = record { rank = 0; length = 0 } in
        let own = least.each one.0 d one.1 in
        record {
          cost = Some own.cost;
          least = (subst (λ q. IsClimb h Rise starts bound q own.cost) (one.2 d) own.least.0, λ c climb. own.least.1 c (subst (λ q. IsClimb h Rise starts bound q c) (sym (one.2 d)) climb));
          is = one.3 d ∙ own.long;
        }
  ]

  pub raised-labels : (n : ℕ) (label : ℕ → ℕ) → length climbs ≤ n → n ≤ length climbs → AreRaised (far bound) ranks climbs n label → AreLabels (IsClimb h Rise starts bound) bound ranks label
  raised-labels n label all within raised p low =
      let whole : n ≡ length climbs = omega (arith, all, within) in
      raised-label (slice_index ranks p) (label p) (subst (λ m. IsRaised (far bound) (slice_index ranks p) climbs m (label p)) whole (raised.each p low))
