-- The links of a selection as links of the hierarchy, and their numbers.
use Rattle.std.proofs.Common.{ℕ, zero, suc, ◌≡◌, ◌+◌, ◌-◌, ◌<◌, ◌≤◌, List, length, get_or, set, slice_index, ap, sym, subst, ◌∙◌, inl, inr, arith}
use Rattle.std.proofs.lemmas.Bool.{cases_eq, cases_lt}
use Rattle.std.proofs.lemmas.List.{get_or-map, get_or-set_same, get_or-set_other, length-map, length-set}
use Rattle.ch_cost.specs.Cost.{length_of}
use Rattle.ch_graph.specs.Hierarchy.{Hierarchy}
use Rattle.ch_query.specs.declared.fall.Fall.{Fall}
use Rattle.ch_query.specs.declared.side.Side.TheVariants.{Fall as falling}
use Rattle.ch_query.specs.Climb.{cost_at, LeadsUp}
use Rattle.ch_query.specs.Ways.{fall_along, FallsTo}
use Rattle.ch_table.specs.Selection.{IsLaidDown, IsSelection, IsStepOf, Selection}
use Rattle.ch_table.specs.Sums.{AreStepNumbers, AreStepNumbersTo}

-- the link of a step
pub record IsLinkOf (h : Hierarchy) (s : Selection) (p at : ℕ) : Type 0 where
  pub link : ℕ
  pub leads : LeadsUp h falling (slice_index s.ranks p) (slice_index s.ranks (slice_index s.tails at)) link
  pub long : slice_index s.lengths at ≡ length_of (cost_at h link)
  pub tail_in : slice_index s.tails at < length s.ranks
  pub within : at < length s.tails

pub link-of : (h : Hierarchy) (s : Selection) (p at : ℕ) → IsSelection h s → p < length s.ranks → slice_index s.first p ≤ at → at < slice_index s.first (p + 1) → IsLinkOf h s p at
link-of h s p at selection p_in from before =
    let laid : IsLaidDown h s.ranks s.first s.tails s.lengths p = selection.laid p p_in in
    let none : Fall = record { tail = 0; length = 0 } in
    let i : ℕ = at - slice_index s.first p in
    let i_in : at - slice_index s.first p < length laid.falls = omega (arith, from, before, laid.next) in
    let here : slice_index s.first p + (at - slice_index s.first p) ≡ at = omega (arith, from) in
    let step : IsStepOf s.ranks s.tails s.lengths p at (get_or laid.falls i none) = subst (λ x. IsStepOf s.ranks s.tails s.lengths p x (get_or laid.falls i none)) here (laid.each i none i_in) in
    let count : length laid.falls ≡ length laid.are.links = ap length laid.are.along ∙ length-map laid.are.links (fall_along h) in
    let link_in : at - slice_index s.first p < length laid.are.links = subst (λ n. at - slice_index s.first p < n) count i_in in
    let fall : get_or laid.falls i none ≡ fall_along h (slice_index laid.are.links i) = ap (λ (fs : List Fall). get_or fs i none) laid.are.along ∙ get_or-map (fall_along h) laid.are.links i 0 none link_in in
    let to : FallsTo h (slice_index s.ranks p) (slice_index laid.are.links i) = laid.are.only i 0 link_in in
    record {
      link = slice_index laid.are.links i;
      leads = record { climbs = to.falls; foot = to.to; head = sym (step.tail ∙ ap (λ (f : Fall). f.tail) fall) };
      long = step.long ∙ ap (λ (f : Fall). f.length) fall;
      tail_in = step.tail_in;
      within = omega (arith, before, laid.within);
    }

-- the links of later places lie behind
first-rises : (h : Hierarchy) (s : Selection) → IsSelection h s → (p d : ℕ) → p + d ≤ length s.ranks → slice_index s.first p ≤ slice_index s.first (p + d)
first-rises h s selection p zero fits =
    let same : p + 0 ≡ p = omega arith in
    omega (arith, ap (slice_index s.first) same)
first-rises h s selection p (suc d) fits =
    let before = first-rises h s selection p d (omega (arith, fits)) in
    let own = (selection.laid (p + d) (omega (arith, fits))).next in
    let same : p + suc d ≡ (p + d) + 1 = omega arith in
    omega (arith, before, own, ap (slice_index s.first) same)

pub first-up : (h : Hierarchy) (s : Selection) → IsSelection h s → (p q : ℕ) → p ≤ q → q ≤ length s.ranks → slice_index s.first p ≤ slice_index s.first q
first-up h s selection p q up fits =
    let same : p + (q - p) ≡ q = omega (arith, up) in
    let rises = first-rises h s selection p (q - p) (omega (arith, up, fits)) in
    omega (arith, rises, ap (slice_index s.first) same)

module _ (h : Hierarchy) (numbers : List ℕ) (s : Selection) (selection : IsSelection h s) where
  pub listed-none : (listed : List ℕ) → length listed ≡ length s.tails → AreStepNumbersTo h numbers s (slice_index s.first 0) listed
  listed-none listed count = record {
    count = count;
    each = λ p at k p_in from before low leads.
        let up = first-up h s selection 0 p (omega arith) (omega (arith, p_in)) in
        absurd (omega (arith, up, from, low));
  }

  pub listed-more : (p at link : ℕ) (listed : List ℕ) → p < length s.ranks → slice_index s.first p ≤ at → at < slice_index s.first (p + 1)
      → ((k : ℕ) → LeadsUp h falling (slice_index s.ranks p) (slice_index s.ranks (slice_index s.tails at)) k → link ≡ k)
      → AreStepNumbersTo h numbers s at listed → AreStepNumbersTo h numbers s (at + 1) (set listed at (slice_index numbers link))
  listed-more p at link listed p_in from before one was = record {
    count = length-set listed at (slice_index numbers link) ∙ was.count;
    each = λ q i k q_in i_from i_before low leads. elim (cases_eq i at) [
      | inl here ↦
          let same : q ≡ p = elim (cases_eq q p) [
            | inl e ↦ e
            | inr other ↦ elim (cases_lt q p) [
              | inl lower ↦
                  let up = first-up h s selection (q + 1) p (omega (arith, lower)) (omega (arith, p_in)) in
                  absurd (omega (arith, up, i_before, here, from))
              | inr higher ↦
                  let up = first-up h s selection (p + 1) q (omega (arith, higher, other)) (omega (arith, q_in)) in
                  absurd (omega (arith, up, i_from, here, before))
            ]
          ] in
          let at_in : at < length listed = omega (arith, was.count, (link-of h s p at selection p_in from before).within) in
          let own : LeadsUp h falling (slice_index s.ranks p) (slice_index s.ranks (slice_index s.tails at)) k =
          subst (λ j. LeadsUp h falling (slice_index s.ranks p) (slice_index s.ranks (slice_index s.tails j)) k) here (subst (λ x. LeadsUp h falling (slice_index s.ranks x) (slice_index s.ranks (slice_index s.tails i)) k) same leads) in
          ap (slice_index (set listed at (slice_index numbers link))) here ∙ (get_or-set_same listed at (slice_index numbers link) 0 at_in ∙ ap (slice_index numbers) (one k own))
      | inr other ↦ get_or-set_other listed at i (slice_index numbers link) 0 other ∙ was.each q i k q_in i_from i_before (omega (arith, low, other)) leads
    ];
  }

  pub listed-all : (listed : List ℕ) → AreStepNumbersTo h numbers s (slice_index s.first (length s.ranks)) listed → AreStepNumbers h numbers s listed
  listed-all listed is = record {
    count = is.count;
    each = λ p at k p_in from before leads.
        let up = first-up h s selection (p + 1) (length s.ranks) (omega (arith, p_in)) (omega arith) in
        is.each p at k p_in from before (omega (arith, before, up)) leads;
  }
