-- Ranks that rise, and their places.
use Rattle.std.proofs.Common.{ℕ, ◌≡◌, ◌+◌, ◌-◌, ◌<◌, ◌≤◌, List, length, set, slice_index, All, AllPairs, Contains, ap, sym, ◌∙◌, inl, inr, arith}
use Rattle.std.proofs.lemmas.Bool.{cases_eq, cases_lt}
use Rattle.std.proofs.lemmas.List.{get_or_default, length-set, get_or-set_same, get_or-set_other}
use Rattle.ch_table.specs.Selection.{ArePlaced}

module _ (ranks : List ℕ) (rising : AllPairs ◌<◌ ranks) where
  pub ranks-rise : (p q : ℕ) → p < q → q < length ranks → slice_index ranks p < slice_index ranks q
  ranks-rise p q before within = rising p q 0 before within

  -- of two places that of the higher rank is later
  pub place-later : (p q : ℕ) → p < length ranks → q < length ranks → slice_index ranks p < slice_index ranks q → p < q
  place-later p q p_in q_in below = elim (cases_lt p q) [
    | inl before ↦ before
    | inr after ↦ elim (cases_eq p q) [
      | inl same ↦ absurd (omega (arith, below, ap (slice_index ranks) same))
      | inr apart ↦ absurd (omega (arith, below, ranks-rise q p (omega (arith, after, apart)) p_in))
    ]
  ]

  pub same_place : (p q : ℕ) → p < length ranks → q < length ranks → slice_index ranks p ≡ slice_index ranks q → p ≡ q
  same_place p q p_in q_in same = elim (cases_lt p q) [
    | inl before ↦ absurd (omega (arith, same, ranks-rise p q before q_in))
    | inr after ↦ elim (cases_eq p q) [
      | inl here ↦ here
      | inr apart ↦ absurd (omega (arith, same, ranks-rise q p (omega (arith, after, apart)) p_in))
    ]
  ]

-- the places of the first n ranks are written
pub record ArePlacedTo (nodes : ℕ) (ranks places : List ℕ) (n : ℕ) : Type 0 where
  pub count : length places ≡ nodes
  pub here : (p : ℕ) → p < n → slice_index places (slice_index ranks p) ≡ p + 1
  pub back : (r : ℕ) → 0 < slice_index places r → (slice_index places r - 1 < n) × (slice_index ranks (slice_index places r - 1) ≡ r)

pub placed-none : (nodes : ℕ) (ranks places : List ℕ) → length places ≡ nodes → ((r : ℕ) → slice_index places r ≡ 0) → ArePlacedTo nodes ranks places 0
placed-none nodes ranks places count none = record {
  count = count;
  here = λ p low. absurd (omega (arith, low));
  back = λ r some. absurd (omega (arith, some, none r));
}

module _ (nodes : ℕ) (ranks : List ℕ) (rising : AllPairs ◌<◌ ranks) (in_range : All (λ r. r < nodes) ranks) where
  pub placed-more : (places : List ℕ) (n : ℕ) → n < length ranks → ArePlacedTo nodes ranks places n → ArePlacedTo nodes ranks (set places (slice_index ranks n) (n + 1)) (n + 1)
  placed-more places n n_in was = record {
    count = length-set places r (n + 1) ∙ was.count;
    here = λ p low. elim (cases_eq p n) [
      | inl last ↦ ap (λ q. slice_index (set places r (n + 1)) (slice_index ranks q)) last ∙ (written ∙ ap (λ q. q + 1) (sym last))
      | inr other ↦
          let apart : slice_index ranks p ≡ r → ⊥ = λ same. other (same_place ranks rising p n (omega (arith, low, other, n_in)) n_in same) in
          get_or-set_other places r (slice_index ranks p) (n + 1) 0 apart ∙ was.here p (omega (arith, low, other))
    ];
    back = λ q some. elim (cases_eq q r) [
      | inl here ↦
          let reads : slice_index (set places r (n + 1)) q ≡ n + 1 = ap (slice_index (set places r (n + 1))) here ∙ written in
          let place : slice_index (set places r (n + 1)) q - 1 ≡ n = omega (arith, reads) in
          (omega (arith, reads), ap (slice_index ranks) place ∙ sym here)
      | inr other ↦
          let reads : slice_index (set places r (n + 1)) q ≡ slice_index places q = get_or-set_other places r q (n + 1) 0 other in
          let before = was.back q (omega (arith, some, reads)) in
          let place : slice_index (set places r (n + 1)) q - 1 ≡ slice_index places q - 1 = ap (λ x. x - 1) reads in
          (omega (arith, place, before.0), ap (slice_index ranks) place ∙ before.1)
    ];
  }
    where
      r : ℕ
      r = slice_index ranks n

      written : slice_index (set places (slice_index ranks n) (n + 1)) (slice_index ranks n) ≡ n + 1
      written = get_or-set_same places (slice_index ranks n) (n + 1) 0 (omega (arith, in_range n 0 n_in, was.count))

  pub placed-all : (places : List ℕ) (n : ℕ) → n ≤ length ranks → length ranks ≤ n → ArePlacedTo nodes ranks places n → ArePlaced nodes ranks places
  placed-all places n within whole is = record {
    count = is.count;
    here = λ p low. is.here p (omega (arith, low, whole));
    back = λ r some. let one = is.back r some in (omega (arith, one.0, within), one.1);
  }

-- a rank that is listed has a place
pub placed-among : (nodes : ℕ) (ranks places : List ℕ) → ArePlaced nodes ranks places → (r : ℕ) → Contains ranks r
    → (0 < slice_index places r) × (slice_index places r - 1 < length ranks) × (slice_index ranks (slice_index places r - 1) ≡ r)
placed-among nodes ranks places placed r among =
    let at : slice_index ranks among.0 ≡ r = get_or_default ranks among.0 0 r among.1 ∙ among.2 in
    let some : 0 < slice_index places r = omega (arith, placed.here among.0 among.1, ap (slice_index places) at) in
    let there = placed.back r some in
    (some, there.0, there.1)
