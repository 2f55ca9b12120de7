-- A row of lengths, written one by one.
use Rattle.std.proofs.Common.{ℕ, ◌≡◌, ◌+◌, ◌-◌, ◌*◌, ◌<◌, ◌≤◌, ◌^◌, List, [], ◌∷◌, drop, get_or, length, set, slice_index, take, All, Option, Some, None, ap, refl, sym, subst, ◌∙◌, inl, inr, arith}
use Rattle.std.proofs.lemmas.Bool.{cases_eq, cases_lt}
use Rattle.std.proofs.Math.Nat.{add-mul, mul-le-mul_right}
use Rattle.std.proofs.lemmas.List.{get_or-drop, get_or-set_same, get_or-set_other, get_or-take, length-drop, length-set, length-take-le}
use Rattle.ch_cost.specs.declared.cost.Cost.{Cost}
use Rattle.ch_cost.specs.Cost.{length_of, of_walk}
use Rattle.ch_cost.specs.Cost.Numbers.{lengths-from_no_longer}
use Rattle.ch_graph.specs.Walk.{IsLeastOrNone}
use Rattle.ch_graph.specs.Hierarchy.{Hierarchy, IsWellMade, rank_of}
use Rattle.ch_query.specs.declared.seed.Seed.{Seed}
use Rattle.ch_query.specs.Seeds.{AreSeeds, IsValueBetween, longest}
use Rattle.ch_query.specs.Ways.{IsWay, free, WaysAreWalks, FreeValueIsValue, LongestIsExact}
use Rattle.ch_table.specs.Labels.{IsLabel, label_of}
use Rattle.ch_table.specs.Lengths.{AreRows, IsLengthFrom, IsLengthFromAny, IsExactLength, IsRow}
use Rattle.ch_table.specs.Lengths.Laws.{row-weaker}
use Rattle.ch_table.specs.declared.table.TheConstants.{NO_LENGTH}

-- the first n are written
pub record IsRowTo (Is : ℕ → ℕ → Type 0) (targets : List ℕ) (from : ℕ) (old new : List ℕ) (n : ℕ) : Type 0 where
  pub room : length new ≡ length old
  pub each : (k : ℕ) → k < n → Is (slice_index targets k) (slice_index new (from + k))
  pub before : (i : ℕ) → i < from → slice_index new i ≡ slice_index old i
  pub after : (i : ℕ) → from + n ≤ i → slice_index new i ≡ slice_index old i

module _ {Is : ℕ → ℕ → Type 0} {targets : List ℕ} {from : ℕ} where
  pub row-none : (row : List ℕ) → IsRowTo Is targets from row row 0
  row-none row = record {
    room = refl;
    each = λ k low. absurd (omega (arith, low));
    before = λ i low. refl;
    after = λ i high. refl;
  }

  pub row-more : (old new : List ℕ) (n x : ℕ) → from + n < length new → Is (slice_index targets n) x → IsRowTo Is targets from old new n → IsRowTo Is targets from old (set new (from + n) x) (n + 1)
  row-more old new n x within is was = record {
    room = length-set new (from + n) x ∙ was.room;
    each = λ k low. elim (cases_eq k n) [
      | inl here ↦
          let read : slice_index (set new (from + n) x) (from + k) ≡ x = ap (λ j. slice_index (set new (from + n) x) (from + j)) here ∙ get_or-set_same new (from + n) x 0 within in
          subst (λ m. Is (slice_index targets k) m) (sym read) (subst (λ j. Is (slice_index targets j) x) (sym here) is)
      | inr other ↦
          let apart : from + k ≡ from + n → ⊥ = λ same. other (omega (arith, same)) in
          subst (λ m. Is (slice_index targets k) m) (sym (get_or-set_other new (from + n) (from + k) x 0 apart)) (was.each k (omega (arith, low, other)))
    ];
    before = λ i low.
        let apart : i ≡ from + n → ⊥ = λ same. omega (arith, same, low) in
        get_or-set_other new (from + n) i x 0 apart ∙ was.before i low;
    after = λ i high.
        let apart : i ≡ from + n → ⊥ = λ same. omega (arith, same, high) in
        get_or-set_other new (from + n) i x 0 apart ∙ was.after i (omega (arith, high));
  }

  pub row-all : (old new : List ℕ) (n : ℕ) → n ≤ length targets → length targets ≤ n → IsRowTo Is targets from old new n → IsRow Is targets from old new
  row-all old new n within whole is = record {
    room = is.room;
    each = λ k low. is.each k (omega (arith, low, whole));
    before = is.before;
    after = λ i high. is.after i (omega (arith, high, within));
  }

-- Row after row
module _ {Is : ℕ → ℕ → ℕ → Type 0} {sources targets : List ℕ} {from : ℕ} where
  pub rows-none : (rows : List ℕ) → AreRows Is sources targets from 0 rows rows
  rows-none rows = record {
    room = refl;
    each = λ i k low within. absurd (omega (arith, low));
    before = λ j low. refl;
    after = λ j high. refl;
  }

  -- more rows, those of the next sources
  pub rows-more : (block : List ℕ) (n count : ℕ) (old mid new : List ℕ) → ((i : ℕ) → i < count → slice_index block i ≡ slice_index sources (n + i))
      → AreRows Is block targets (from + n * length targets) count mid new → AreRows Is sources targets from n old mid → AreRows Is sources targets from (n + count) old new
  rows-more block n count old mid new same written was = record {
    room = written.room ∙ was.room;
    each = λ i k low within. elim (cases_lt i n) [
      | inl earlier ↦
          let up : (i + 1) * length targets ≤ n * length targets = mul-le-mul_right (length targets) (omega (arith, earlier)) in
          let row : (i + 1) * length targets ≡ i * length targets + length targets = omega (arith, add-mul i 1 (length targets)) in
          let place : from + (i * length targets + k) < from + n * length targets = omega (arith, up, row, within) in
          subst (Is (slice_index sources i) (slice_index targets k)) (sym (written.before (from + (i * length targets + k)) place)) (was.each i k earlier within)
      | inr here ↦
          let j : ℕ = i - n in
          let j_in : i - n < count = omega (arith, low, here) in
          let whole : n + (i - n) ≡ i = omega (arith, here) in
          let source : slice_index block (i - n) ≡ slice_index sources i = same (i - n) j_in ∙ ap (slice_index sources) whole in
          let rows : i * length targets ≡ n * length targets + (i - n) * length targets = ap (λ x. x * length targets) (sym whole) ∙ add-mul n (i - n) (length targets) in
          let place : (from + n * length targets) + ((i - n) * length targets + k) ≡ from + (i * length targets + k) = omega (arith, rows) in
          subst (λ x. Is (slice_index sources i) (slice_index targets k) (slice_index new x)) place
          (subst (λ s. Is s (slice_index targets k) (slice_index new ((from + n * length targets) + ((i - n) * length targets + k)))) source (written.each (i - n) k j_in within))
    ];
    before = λ j low. written.before j (omega (arith, low)) ∙ was.before j low;
    after = λ j high.
        let rows : (n + count) * length targets ≡ n * length targets + count * length targets = add-mul n count (length targets) in
        written.after j (omega (arith, high, rows)) ∙ was.after j (omega (arith, high, rows));
  }

  -- a single row of them
  pub rows-one : (n : ℕ) (old mid new : List ℕ) → IsRow (Is (slice_index sources n)) targets (from + n * length targets) mid new → AreRows Is sources targets from n old mid → AreRows Is sources targets from (n + 1) old new
  rows-one n old mid new row was = rows-more (slice_index sources n ∷ []) n 1 old mid new single one was
    where
      single : (i : ℕ) → i < 1 → slice_index (slice_index sources n ∷ []) i ≡ slice_index sources (n + i)
      single i low =
          let first : 0 ≡ i = omega (arith, low) in
          let place : n ≡ n + i = omega (arith, low) in
          subst (λ x. slice_index (slice_index sources n ∷ []) x ≡ slice_index sources (n + i)) first (ap (slice_index sources) place)

      one : AreRows Is (slice_index sources n ∷ []) targets (from + n * length targets) 1 mid new
      one = record {
        room = row.room;
        each = λ i k low within.
            let first : 0 ≡ i = omega (arith, low) in
            let place : (from + n * length targets) + k ≡ (from + n * length targets) + (0 * length targets + k) = omega arith in
            subst (λ x. Is (slice_index (slice_index sources n ∷ []) x) (slice_index targets k) (slice_index new ((from + n * length targets) + (x * length targets + k)))) first
            (subst (λ x. Is (slice_index sources n) (slice_index targets k) (slice_index new x)) place (row.each k within));
        before = row.before;
        after = λ j high. row.after j (omega (arith, high));
      }

-- The label of a target's rank is its length
module _ (walks : WaysAreWalks) (h : Hierarchy) (made : IsWellMade h) (starts : List Seed) (begins : AreSeeds h starts) (bound : Cost) (t : ℕ) (t_in : t < length h.ranks) where
  pub value-from : (v : Option Cost) → IsLeastOrNone (IsWay h starts bound (rank_of h t)) v → IsValueBetween h starts (free t ∷ []) bound v
  value-from None none = λ c walk. none c ((walks h starts bound t made begins t_in c).1 walk)
  value-from (Some c) least = ((walks h starts bound t made begins t_in c).0 least.0, λ d walk. least.1 d ((walks h starts bound t made begins t_in d).1 walk))

  module _ (label : ℕ) (is : IsLabel (IsWay h starts bound (rank_of h t)) bound label) where
    pub written-none : length_of bound < label → IsLengthFromAny h starts bound t NO_LENGTH
    written-none distant = by_cost is.cost is.least is.is
      where
        by_cost : (v : Option Cost) → IsLeastOrNone (IsWay h starts bound (rank_of h t)) v → label ≡ label_of bound v → IsLengthFromAny h starts bound t NO_LENGTH
        by_cost None none same = record { cost = None; is = value-from None none; written = refl }
        by_cost (Some c) least same = absurd (omega (arith, distant, same, lengths-from_no_longer c bound least.0.short))

    pub written-some : label ≤ length_of bound → IsLengthFromAny h starts bound t label
    written-some near = by_cost is.cost is.least is.is
      where
        by_cost : (v : Option Cost) → IsLeastOrNone (IsWay h starts bound (rank_of h t)) v → label ≡ label_of bound v → IsLengthFromAny h starts bound t label
        by_cost None none same = absurd (omega (arith, near, same))
        by_cost (Some c) least same = record { cost = Some c; is = value-from (Some c) least; written = same }

-- From one start at no cost, within the bound of the hierarchy, it is that of the value
pub free-length : FreeValueIsValue → (h : Hierarchy) (s : ℕ) (start : Seed) (bound : Cost) → start ≡ free s → bound ≡ h.bound → (t n : ℕ) → IsLengthFromAny h (start ∷ []) bound t n → IsLengthFrom h s t n
free-length values h s start bound is is_bound t n length =
    let free_start : IsLengthFromAny h (free s ∷ []) bound t n = subst (λ (p : Seed). IsLengthFromAny h (p ∷ []) bound t n) is length in
    let both : IsLengthFromAny h (free s ∷ []) h.bound t n = subst (λ (c : Cost). IsLengthFromAny h (free s ∷ []) c t n) is_bound free_start in
    record { cost = both.cost; is = values h s t both.cost both.is; written = both.written }

-- and within the greatest length that of the distance
pub exact-length : LongestIsExact → (h : Hierarchy) → IsWellMade h → (starts : List Seed) → AreSeeds h starts → (limit : ℕ) → limit ≡ 2 ^ 62
    → (t n : ℕ) → AreSeeds h (free t ∷ []) → IsLengthFromAny h starts (of_walk limit 0) t n → IsExactLength h starts t n
exact-length exact h made starts begins limit is t n stops length =
    let longer : IsLengthFromAny h starts longest t n = subst (λ m. IsLengthFromAny h starts (of_walk m 0) t n) is length in
    record { cost = longer.cost; is = exact h starts (free t ∷ []) longer.cost made begins stops longer.is; written = longer.written }

pub row-from : FreeValueIsValue → (h : Hierarchy) (s : ℕ) (bound : Cost) → bound ≡ h.bound → (targets : List ℕ) (from : ℕ) (old new : List ℕ) → All (λ t. t < length h.ranks) targets → IsRow (IsLengthFromAny h (free s ∷ []) bound) targets from old new → IsRow (IsLengthFrom h s) targets from old new
row-from values h s bound is targets from old new targets_in =
    row-weaker (IsLengthFromAny h (free s ∷ []) bound) (IsLengthFrom h s) h targets from old new targets_in (λ t n t_in length. free-length values h s (free s) bound refl is t n length)

-- The sources from one on, so many
module _ (sources : List ℕ) (done count : ℕ) (within : done + count ≤ length sources) where
  pub block-count : length (take ((done + count) - done) (drop done sources)) ≡ count
  block-count =
      let left : length (drop done sources) ≡ length sources - done = length-drop done sources in
      let fits : (done + count) - done ≤ length (drop done sources) = omega (arith, left, within) in
      let all : length (take ((done + count) - done) (drop done sources)) ≡ (done + count) - done = length-take-le ((done + count) - done) (drop done sources) fits in
      omega (arith, all)

  pub block-at : (i d : ℕ) → i < count → get_or (take ((done + count) - done) (drop done sources)) i d ≡ get_or sources (done + i) d
  block-at i d low =
      let before : i < (done + count) - done = omega (arith, low) in
      get_or-take ((done + count) - done) (drop done sources) i d before ∙ get_or-drop done sources i d
