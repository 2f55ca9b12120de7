-- Over one link more, with the link's number beside the label.
use Rattle.std.proofs.Common.{ℕ, ◌≡◌, ◌+◌, ◌-◌, ◌*◌, ◌/◌, ◌%◌, ◌^◌, ◌<◌, ◌≤◌, ◌∙◌, List, length, slice_index, refl, Contains, ap, sym, subst, inl, inr, arith}
use Rattle.std.proofs.lemmas.Bool.{cases_eq, cases_lt}
use Rattle.std.proofs.lemmas.List.Elements.{All-contains, Contains-get_or}
use Rattle.ch_cost.specs.Cost.{length_of}
use Rattle.ch_cost.specs.Cost.Numbers.{lengths-from_within}
use Rattle.ch_graph.specs.Hierarchy.{Hierarchy, IsLinkWellMade, IsWellMade}
use Rattle.ch_query.specs.Climb.{cost_at}
use Rattle.ch_query.specs.Places.{link_at}
use Rattle.ch_table.specs.Labels.{IsLeastOver}
use Rattle.ch_table.specs.Packed.{IsWon, sum_over}
use Rattle.ch_query.specs.declared.seed.Seed.{Seed}
use Rattle.ch_query.specs.Sums.{IsSummedWay}
use Rattle.ch_table.specs.Selection.{IsSelection, Selection}
use Rattle.ch_table.specs.Sums.{AreStepNumbers}
use Rattle.ch_table.proofs.StepLinks.{IsLinkOf, link-of}
use Rattle.ch_table.proofs.SumLanes.{link-rises, way-over}

-- no link is longer than the bound
pub step-short : (h : Hierarchy) (s : Selection) (p at : ℕ) → IsWellMade h → IsLinkOf h s p at → slice_index s.lengths at ≤ length_of h.bound
step-short h s p at made is =
    let among : Contains h.links (link_at h is.link) = Contains-get_or h.links is.link _ is.leads.climbs.within in
    let within = lengths-from_within (cost_at h is.link) h.bound (All-contains (IsLinkWellMade h) h.links (link_at h is.link) made.links among).within in
    omega (arith, is.long, within)

module _ (old sum link new : ℕ) (is : IsLeastOver old (sum * 1024 + link) new) (later : old % 1024 < link) (few : link < 1024) where
  pub packed-over : IsLeastOver (old / 1024) sum (new / 1024)
  packed-over = record {
    less = λ low.
        let small : sum * 1024 + link < old = omega (arith, low, few) in
        let new_is : new ≡ sum * 1024 + link = is.less small in
        omega (arith, new_is, few);
    stays = λ high.
        let great : old ≤ sum * 1024 + link = omega (arith, high, later) in
        ap (λ n. n / 1024) (is.stays great);
  }

  pub packed-low : new % 1024 ≤ link
  packed-low = elim (cases_lt (sum * 1024 + link) old) [
    | inl low ↦
        let new_is : new ≡ sum * 1024 + link = is.less low in
        omega (arith, new_is, few)
    | inr high ↦
        let new_is : new ≡ old = is.stays high in
        omega (arith, new_is, later)
  ]

  -- the link that the label comes over now
  pub won-over : (s : Selection) (label : ℕ → ℕ) (p at : ℕ) → at + 1 ≡ slice_index s.first p + link → sum ≡ label (slice_index s.tails at) + slice_index s.lengths at → IsWon s label p at old → IsWon s label p (at + 1) new
  won-over s label p at here goes was = elim (cases_lt (sum * 1024 + link) old) [
    | inl low ↦
        let new_is : new ≡ sum * 1024 + link = is.less low in
        let link_is : new % 1024 ≡ link = omega (arith, new_is, few) in
        let sum_is : new / 1024 ≡ sum = omega (arith, new_is, few) in
        record {
          own = λ none. absurd (omega (arith, none, link_is, later));
          over = λ i i_is from.
              let same : i ≡ at = omega (arith, i_is, link_is, here) in
              (omega (arith, same), sum_is ∙ (goes ∙ ap (λ j. label (slice_index s.tails j) + slice_index s.lengths j) (omega (arith, same))));
        }
    | inr high ↦
        let new_is : new ≡ old = is.stays high in
        subst (λ x. IsWon s label p (at + 1) x) (omega (arith, new_is)) (record {
          own = was.own;
          over = λ i i_is from. let one = was.over i i_is from in (omega (arith, one.0), one.1);
        })
  ]

-- what is said of the links as they are kept, of the selection
pub over-links : (first tails : List ℕ) (s : Selection) → first ≡ s.first → tails ≡ s.tails → (p packed : ℕ) (numbers : List ℕ) (sums : List (List ℕ)) (lane own : ℕ)
    → ((at : ℕ) → at + 1 ≡ slice_index first p + packed % 1024 → slice_index first p ≤ at → own ≡ sum_over tails numbers sums lane at)
    → (at : ℕ) → at + 1 ≡ slice_index s.first p + packed % 1024 → slice_index s.first p ≤ at → own ≡ sum_over s.tails numbers sums lane at
over-links first tails s first_is tails_are p packed numbers sums lane own over =
    subst (λ (fs : List ℕ). (at : ℕ) → at + 1 ≡ slice_index fs p + packed % 1024 → slice_index fs p ≤ at → own ≡ sum_over s.tails numbers sums lane at) first_is
    (subst (λ (ts : List ℕ). (at : ℕ) → at + 1 ≡ slice_index first p + packed % 1024 → slice_index first p ≤ at → own ≡ sum_over ts numbers sums lane at) tails_are over)

-- The sum beside a label that is packed with its link
module _ (h : Hierarchy) (s : Selection) (selection : IsSelection h s) (p : ℕ) (p_in : p < length s.ranks) (label sum : ℕ → ℕ) (packed own : ℕ) (numbers : List ℕ) (won : IsWon s label p (slice_index s.first (p + 1)) packed)
    (none : packed % 1024 ≡ 0 → own ≡ sum p)
    (some : (at : ℕ) → at + 1 ≡ slice_index s.first p + packed % 1024 → slice_index s.first p ≤ at → own ≡ sum (slice_index s.tails at) + slice_index numbers at) where
  pub won-summed : (all : List ℕ) (starts : List Seed) (most : ℕ) → AreStepNumbers h all s numbers
      → ((q : ℕ) → q < length s.ranks → label q ≤ most → IsSummedWay h all starts (slice_index s.ranks q) (label q) (sum q))
      → packed / 1024 ≤ most → IsSummedWay h all starts (slice_index s.ranks p) (packed / 1024) own
  won-summed all starts most are have near = elim (cases_eq (packed % 1024) 0) [
    | inl zero ↦
        let same : packed / 1024 ≡ label p = won.own zero in
        subst (λ m. IsSummedWay h all starts (slice_index s.ranks p) (packed / 1024) m) (sym (none zero))
        (subst (λ n. IsSummedWay h all starts (slice_index s.ranks p) n (sum p)) (sym same) (have p p_in (omega (arith, near, same))))
    | inr over ↦
        let at : ℕ = (slice_index s.first p + packed % 1024) - 1 in
        let at_is : ((slice_index s.first p + packed % 1024) - 1) + 1 ≡ slice_index s.first p + packed % 1024 = omega (arith, over) in
        let from : slice_index s.first p ≤ (slice_index s.first p + packed % 1024) - 1 = omega (arith, over) in
        let one = won.over at at_is from in
        let is : IsLinkOf h s p at = link-of h s p at selection p_in from one.0 in
        let tail_near : label (slice_index s.tails at) ≤ most = omega (arith, near, one.1) in
        let way = way-over h all s p at is {starts = starts} refl (are.each p at is.link p_in from one.0 is.leads) (label (slice_index s.tails at)) (sum (slice_index s.tails at)) (have (slice_index s.tails at) is.tail_in tail_near) in
        subst (λ m. IsSummedWay h all starts (slice_index s.ranks p) (packed / 1024) m) (sym (some at at_is from))
        (subst (λ n. IsSummedWay h all starts (slice_index s.ranks p) n (sum (slice_index s.tails at) + slice_index numbers at)) (sym one.1) way)
  ]

  pub won-small : (nodes : ℕ) → ((at : ℕ) → slice_index s.first p ≤ at → at < slice_index s.first (p + 1) → slice_index numbers at ≤ 2 ^ 36) → ((q : ℕ) → q < length s.ranks → slice_index s.ranks q < nodes)
      → ((q : ℕ) → sum q ≤ (nodes + (nodes - slice_index s.ranks q)) * 2 ^ 36) → own ≤ (nodes + (nodes - slice_index s.ranks p)) * 2 ^ 36
  won-small nodes low ranks_in small = elim (cases_eq (packed % 1024) 0) [
    | inl zero ↦ omega (arith, none zero, small p)
    | inr over ↦
        let at : ℕ = (slice_index s.first p + packed % 1024) - 1 in
        let at_is : ((slice_index s.first p + packed % 1024) - 1) + 1 ≡ slice_index s.first p + packed % 1024 = omega (arith, over) in
        let from : slice_index s.first p ≤ (slice_index s.first p + packed % 1024) - 1 = omega (arith, over) in
        let one = won.over at at_is from in
        let is : IsLinkOf h s p at = link-of h s p at selection p_in from one.0 in
        let rises : slice_index s.ranks p < slice_index s.ranks (slice_index s.tails at) = link-rises h numbers s p at is in
        omega (arith, some at at_is from, small (slice_index s.tails at), low at from one.0, rises, ranks_in (slice_index s.tails at) is.tail_in)
  ]
