-- The labels of ways, from the highest place to the lowest.
use Rattle.std.proofs.Common.{ℕ, ◌≡◌, ◌+◌, ◌-◌, ◌<◌, ◌≤◌, ◌^◌, List, length, get_or, slice_index, Contains, ap, sym, subst, ◌∙◌, inl, inr, arith}
use Rattle.std.proofs.lemmas.Bool.{cases_eq, cases_lt}
use Rattle.std.proofs.lemmas.List.{get_or_default, length-map, get_or-map}
use Rattle.ch_cost.specs.declared.cost.Cost.{Cost}
use Rattle.ch_cost.specs.Cost.{length_of}
use Rattle.ch_graph.specs.Hierarchy.{Hierarchy}
use Rattle.ch_query.specs.declared.fall.Fall.{Fall}
use Rattle.ch_query.specs.declared.seed.Seed.{Seed}
use Rattle.ch_query.specs.declared.side.Side.TheVariants.{Rise, Fall as falling}
use Rattle.ch_query.specs.Climb.{head_rank, cost_at}
use Rattle.ch_query.specs.Ways.{IsClimb, IsWay, fall_along}
use Rattle.ch_table.specs.Labels.{IsLabel, IsLeastOver, AreLabels, AreSwept}
use Rattle.ch_table.specs.Selection.{Selection, IsSelection, IsLaidDown, IsStepOf}
use Rattle.ch_table.proofs.LeastWays.{Comes, comes-none, comes-less, comes-stays, comes-all}

module _ {Has Had : ℕ → Cost → Type 0} {bound : Cost} {ranks : List ℕ} where
  pub swept-none : (label : ℕ → ℕ) (place : ℕ) → length ranks ≤ place → AreLabels Had bound ranks label → AreSwept Has Had bound ranks label place
  swept-none label place whole are = record {
    before = λ p low within. are p within;
    after = λ p from within. absurd (omega (arith, from, within, whole));
  }

  pub swept-more : (old new : ℕ → ℕ) (place : ℕ) → IsLabel (Has (slice_index ranks place)) bound (new place) → ((p : ℕ) → (p ≡ place → ⊥) → new p ≡ old p) → AreSwept Has Had bound ranks old (place + 1) → AreSwept Has Had bound ranks new place
  swept-more old new place label others was = record {
    before = λ p low within.
        let apart : p ≡ place → ⊥ = λ same. omega (arith, same, low) in
        subst (λ m. IsLabel (Had (slice_index ranks p)) bound m) (sym (others p apart)) (was.before p (omega (arith, low)) within);
    after = λ p from within. elim (cases_eq p place) [
      | inl here ↦ subst (λ q. IsLabel (Has (slice_index ranks q)) bound (new q)) (sym here) label
      | inr other ↦ subst (λ m. IsLabel (Has (slice_index ranks p)) bound m) (sym (others p other)) (was.after p (omega (arith, from, other)) within)
    ];
  }

  pub swept-all : (label : ℕ → ℕ) → AreSwept Has Had bound ranks label 0 → AreLabels Has bound ranks label
  swept-all label swept p within = swept.after p (omega arith) within

-- the link at a place of a selection
pub record IsStepAt (s : Selection) (at : ℕ) : Type 0 where
  pub tails : at < length s.tails
  pub lengths : at < length s.lengths
  pub tail_in : slice_index s.tails at < length s.ranks
  pub short : slice_index s.lengths at ≤ 2 ^ 57

pub step-at : (h : Hierarchy) (s : Selection) (p at : ℕ) → IsSelection h s → p < length s.ranks → slice_index s.first p ≤ at → at < slice_index s.first (p + 1) → IsStepAt s at
step-at h s p at selection p_in from before =
    let laid : IsLaidDown h s.ranks s.first s.tails s.lengths p = selection.laid p p_in in
    let none : Fall = record { tail = 0; length = 0 } in
    let i_in : at - slice_index s.first p < length laid.falls = omega (arith, from, before, laid.next) in
    let here : slice_index s.first p + (at - slice_index s.first p) ≡ at = omega (arith, from) in
    let step : IsStepOf s.ranks s.tails s.lengths p at (get_or laid.falls (at - slice_index s.first p) none) =
    subst (λ x. IsStepOf s.ranks s.tails s.lengths p x (get_or laid.falls (at - slice_index s.first p) none)) here (laid.each (at - slice_index s.first p) none i_in) in
    record {
      tails = omega (arith, before, laid.within);
      lengths = omega (arith, before, laid.within, selection.lengths);
      tail_in = step.tail_in;
      short = omega (arith, step.long, (laid.are.above (at - slice_index s.first p) none i_in).short);
    }

-- The links of one place
module _ (h : Hierarchy) (starts : List Seed) (bound : Cost) (ranks first tails lengths : List ℕ) (label : ℕ → ℕ) (p : ℕ) (p_in : p < length ranks)
    (swept : AreSwept (IsWay h starts bound) (IsClimb h Rise starts bound) bound ranks label (p + 1)) (laid : IsLaidDown h ranks first tails lengths p) where
  -- as many as are listed
  links-count : length laid.falls ≡ length laid.are.links
  links-count = ap length laid.are.along ∙ length-map laid.are.links (fall_along h)

  pub least-none : IsLabel (Comes h starts bound (slice_index ranks p) laid.are.links 0) bound (label p)
  least-none = comes-none h starts bound (slice_index ranks p) laid.are.links (swept.before p (omega arith) p_in)

  -- the link at a place of the selection
  module _ (at : ℕ) (from : slice_index first p ≤ at) (before : at < slice_index first (p + 1)) where
    abbrev pub i : ℕ
    i = at - slice_index first p

    i_in : at - slice_index first p < length laid.falls
    i_in = omega (arith, from, before, laid.next)

    abbrev some_fall : Fall
    some_fall = record { tail = 0; length = 0 }

    step : IsStepOf ranks tails lengths p at (get_or laid.falls i some_fall)
    step =
        let here : slice_index first p + (at - slice_index first p) ≡ at = omega (arith, from) in
        subst (λ x. IsStepOf ranks tails lengths p x (get_or laid.falls i some_fall)) here (laid.each i some_fall i_in)

    fall : get_or laid.falls i some_fall ≡ fall_along h (slice_index laid.are.links i)
    fall = ap (λ (fs : List Fall). get_or fs i some_fall) laid.are.along ∙ get_or-map (fall_along h) laid.are.links i 0 some_fall (subst (λ n. at - slice_index first p < n) links-count i_in)

    tail_label : IsLabel (IsWay h starts bound (head_rank h falling (slice_index laid.are.links i))) bound (label (slice_index tails at))
    tail_label =
        let rank : slice_index ranks (slice_index tails at) ≡ head_rank h falling (slice_index laid.are.links i) = step.tail ∙ ap (λ (f : Fall). f.tail) fall in
        subst (λ r. IsLabel (IsWay h starts bound r) bound (label (slice_index tails at))) rank (swept.after (slice_index tails at) (omega (arith, step.later)) step.tail_in)

    long : slice_index lengths at ≡ length_of (cost_at h (slice_index laid.are.links i))
    long = step.long ∙ ap (λ (f : Fall). f.length) fall

    next : (at - slice_index first p) + 1 ≡ (at + 1) - slice_index first p
    next = omega (arith, from)

    -- the lesser of the label and of the sum over the link
    pub least-over : (old new length : ℕ) → length ≡ slice_index lengths at → IsLeastOver old (label (slice_index tails at) + length) new → IsLabel (Comes h starts bound (slice_index ranks p) laid.are.links i) bound old
        → IsLabel (Comes h starts bound (slice_index ranks p) laid.are.links ((at + 1) - slice_index first p)) bound new
    least-over old new length read over here =
        let is : label (slice_index tails at) + length ≡ label (slice_index tails at) + length_of (cost_at h (slice_index laid.are.links i)) = ap (λ x. label (slice_index tails at) + x) (read ∙ long) in
        subst (λ n. IsLabel (Comes h starts bound (slice_index ranks p) laid.are.links n) bound new) next (elim (cases_lt (label (slice_index tails at) + length) old) [
          | inl less ↦ subst (λ n. IsLabel (Comes h starts bound (slice_index ranks p) laid.are.links (i + 1)) bound n) (sym (over.less less)) (comes-less h starts bound (slice_index ranks p) laid.are.links i here tail_label is less)
          | inr more ↦ subst (λ n. IsLabel (Comes h starts bound (slice_index ranks p) laid.are.links (i + 1)) bound n) (sym (over.stays more)) (comes-stays h starts bound (slice_index ranks p) laid.are.links i here tail_label is more)
        ])

  pub least-all : (at least : ℕ) → at ≤ slice_index first (p + 1) → slice_index first (p + 1) ≤ at → IsLabel (Comes h starts bound (slice_index ranks p) laid.are.links (at - slice_index first p)) bound least → IsLabel (IsWay h starts bound (slice_index ranks p)) bound least
  least-all at least within whole label =
      let count : at - slice_index first p ≡ length laid.are.links = omega (arith, within, whole, laid.next, links-count) in
      comes-all h starts bound (slice_index ranks p) laid.are.links (length laid.are.links)
      (λ j low. laid.are.only j 0 low) (λ k to. let among = laid.are.each k to in (among.0, among.1, get_or_zero among))
      (subst (λ n. IsLabel (Comes h starts bound (slice_index ranks p) laid.are.links n) bound least) count label)
    where
      get_or_zero : {k : ℕ} → (among : Contains laid.are.links k) → slice_index laid.are.links among.0 ≡ k
      get_or_zero {k} among = get_or_default laid.are.links among.0 0 k among.1 ∙ among.2
