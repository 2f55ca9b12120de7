-- Entries in order, and those for one node.
use Rattle.std.proofs.Common.{ℕ, ◌≡◌, ◌≢◌, ◌+◌, ◌-◌, ◌<◌, ◌≤◌, ◌⊎◌, ◌↔◌, ◌&&◌, nat_eq, true, Bool, None, List, length, get_or, map, slice_range, Contains, AllPairs, arith, sym, ◌∙◌, ap, subst, inl, inr}
use Rattle.std.specs.List.Sorted.{IsPartitionPoint, IsPermutation, IsNonDecreasingBy}
use Rattle.std.proofs.lemmas.Bool.{cases_lt}
use Rattle.std.proofs.lemmas.Bool.Decides.{nat_tests}
use Rattle.std.proofs.lemmas.List.{get_or-map, length-map, get_or_default}
use Rattle.std.proofs.lemmas.List.Edits.{length-between, get_or-between}
use Rattle.std.proofs.lemmas.List.Sorted.{IsPermutation-map}
use Rattle.std.proofs.lemmas.Map.Made.{IsDistinct-from_AllPairs, AllPairs-from_IsDistinct}
use Rattle.std.proofs.lemmas.Map.Keys.{IsDistinct-IsPermutation}
use Rattle.ch_cost.specs.Cost.{zero_cost}
use Rattle.ch_laws.specs.declared.shortcut.Shortcut.{Shortcut}
use Rattle.ch_laws.specs.Contraction.{IsFor}
use Rattle.ch_laws.specs.declared.entry.Entry.{Entry}
use Rattle.ch_laws.specs.Rows.{Rises}
use Rattle.ch_overlay.specs.declared.placed.Placed.{Placed}
use Rattle.ch_overlay.specs.Placing.{IsInOrder}
use Rattle.ch_overlay.specs.Ranges.{pairs-map}
use Rattle.ch_laws.specs.Members.{contains_place}

-- the ends of an entry
abbrev pub ends : Placed → ℕ × ℕ
ends p = (p.at, p.entry.other)

abbrev same_pair : ℕ × ℕ → ℕ × ℕ → Bool
same_pair a b = nat_eq a.0 b.0 && nat_eq a.1 b.1

pair_is : (a b : ℕ × ℕ) → a.0 ≡ b.0 → a.1 ≡ b.1 → a ≡ b
pair_is a b first second = ap (λ (n : ℕ). (n, a.1)) first ∙ ap (λ (n : ℕ). (b.0, n)) second

pair_test : (a b : ℕ × ℕ) → (same_pair a b ≡ true → a ≡ b) × (a ≡ b → same_pair a b ≡ true)
pair_test a b = (
  λ e.
      let first : a.0 ≡ b.0 = grind (arith, nat_tests, e) in
      let second : a.1 ≡ b.1 = grind (arith, nat_tests, e) in
      pair_is a b first second,
  λ same.
      let first : a.0 ≡ b.0 = ap (λ (p : ℕ × ℕ). p.0) same in
      let second : a.1 ≡ b.1 = ap (λ (p : ℕ × ℕ). p.1) same in
      grind (arith, nat_tests, first, second),
)

swapped : (a b : ℕ) → nat_eq a b ≡ nat_eq b a
swapped a b = grind (arith, nat_tests)

pair_flips : (a b : ℕ × ℕ) → same_pair a b ≡ same_pair b a
pair_flips a b = ap (λ (t : Bool). t && nat_eq a.1 b.1) (swapped a.0 b.0) ∙ ap (λ (t : Bool). nat_eq b.0 a.0 && t) (swapped a.1 b.1)

nothing_placed : Placed
nothing_placed = record { at = 0; entry = record { other = 0; cost = zero_cost; middle = None } }

-- what differs, each two of a list of images, also does so in the list
pub pairs-mapped : {A B : Type 0} (R : B → B → Type 0) (f : A → B) (e : B) (xs : List A) → AllPairs R (map f xs) → AllPairs (λ a b. R (f a) (f b)) xs
pairs-mapped R f e xs pairs i j d less h =
    let long = length-map xs f in
    let first = get_or-map f xs i d e (omega (arith, less, h)) in
    let second = get_or-map f xs j d e h in
    subst (λ y. R y (f (get_or xs j d))) first (subst (λ y. R (get_or (map f xs) i e) y) second (pairs i j e less (omega (arith, h, long))))

-- different entries, sorted, are in order
pub in_order : (xs ys : List Placed) → AllPairs (λ a b. ends a ≢ ends b) xs → IsPermutation xs ys
    → AllPairs (λ a b. (a.at ≤ b.at) × (a.at ≡ b.at → a.entry.other ≤ b.entry.other)) ys → IsInOrder ys
in_order xs ys apart moved sorted i j d less h =
    let first = IsDistinct-from_AllPairs pair_test (map ends xs) (pairs-map (λ a b. a ≢ b) ends xs apart) in
    let second = IsDistinct-IsPermutation same_pair pair_flips (map ends xs) (map ends ys) (IsPermutation-map ends xs ys moved) first in
    let differ = pairs-mapped (λ a b. a ≢ b) ends (0, 0) ys (AllPairs-from_IsDistinct pair_test (map ends ys) second) i j d less h in
    let both = sorted i j d less h in
    stands (get_or ys i d) (get_or ys j d) differ both
  where
    stands : (a b : Placed) → ends a ≢ ends b → (a.at ≤ b.at) × (a.at ≡ b.at → a.entry.other ≤ b.entry.other) → (a.at < b.at) ⊎ ((a.at ≡ b.at) × (a.entry.other < b.entry.other))
    stands a b differ both = elim (cases_lt a.at b.at) [
      | inl below ↦ inl below
      | inr past ↦
          let same : a.at ≡ b.at = omega (arith, both.0, past) in
          let up = both.1 same in
          let other : a.entry.other ≢ b.entry.other = λ is. differ (pair_is (ends a) (ends b) same is) in
          inr (same, omega (arith, up, other))
    ]

-- the entries of different shortcuts differ
pub places_differ : (place : Shortcut → Placed) → ((p q : Shortcut) → ends (place p) ≡ ends (place q) → IsFor p q.from q.to) → (put : List Shortcut)
    → AllPairs (λ p q. IsFor p q.from q.to → ⊥) put → AllPairs (λ a b. ends a ≢ ends b) (map place put)
places_differ place same put once =
    pairs-map (λ a b. ends a ≢ ends b) place put (λ i j d less h is. once i j d less h (same (get_or put i d) (get_or put j d) is))

-- nodes of entries in order don't fall
pub nodes_rise : (es : List Placed) → IsInOrder es → IsNonDecreasingBy (λ p. p.at) es
nodes_rise es order i j d low h = elim (cases_lt i j) [
  | inl less ↦ elim (order i j d less h) [ inl below ↦ omega (arith, below) | inr both ↦ omega (arith, both.0) ]
  | inr past ↦
      let same : i ≡ j = omega (arith, low, past) in
      subst (λ n. (get_or es i d).at ≤ (get_or es n d).at) same (omega arith)
]

-- The entries of one node lie together

abbrev placed : ℕ → Entry → Placed
placed n e = record { at = n; entry = e }

module _ (es : List Placed) (order : IsInOrder es) (node first end : ℕ) (first_in : first ≤ length es) (end_in : end ≤ length es)
    (below : IsPartitionPoint (λ p. p.at < node) (λ p. node ≤ p.at) es first) (upto : IsPartitionPoint (λ p. p.at ≤ node) (λ p. node < p.at) es end) where
  pub first_before_end : first ≤ end
  first_before_end = elim (cases_lt end first) [
    | inl past ↦
        let low = below.0 end nothing_placed (omega arith) past in
        let high = upto.1 end nothing_placed (omega arith) (omega (arith, past, first_in)) in
        absurd (omega (arith, low, high))
    | inr fine ↦ fine
  ]

  here : (k : ℕ) (d : Placed) → first ≤ k → k < end → (get_or es k d).at ≡ node
  here k d low high = let least = below.1 k d low (omega (arith, high, end_in)) in let most = upto.0 k d (omega arith) high in omega (arith, least, most)

  group_at : (found : List Entry) → found ≡ map (λ p. p.entry) (slice_range es first end) → (k : ℕ) (d : Entry) → k < length found → get_or found k d ≡ (get_or es (first + k) nothing_placed).entry
  group_at found is k d h =
      let long = length-between es first end end_in in
      let images = length-map (slice_range es first end) (λ (p : Placed). p.entry) in
      let inside : k < length (slice_range es first end) = omega (arith, h, ap length is, images) in
      ap (λ xs. get_or xs k d) is
      ∙ get_or-map (λ (p : Placed). p.entry) (slice_range es first end) k nothing_placed d inside
      ∙ ap (λ (p : Placed). p.entry) (get_or-between es first end k nothing_placed (omega (arith, inside, long, first_before_end)))

  group_long : (found : List Entry) → found ≡ map (λ p. p.entry) (slice_range es first end) → length found + first ≡ end
  group_long found is =
      omega (arith, ap length is, length-map (slice_range es first end) (λ (p : Placed). p.entry), length-between es first end end_in, first_before_end)

  pub group_rises : (found : List Entry) → found ≡ map (λ p. p.entry) (slice_range es first end) → Rises found
  group_rises found is i j d less h =
      let long = group_long found is in
      let low = group_at found is i d (omega (arith, less, h)) in
      let high = group_at found is j d h in
      let first_here = here (first + i) nothing_placed (omega arith) (omega (arith, less, h, long)) in
      let second_here = here (first + j) nothing_placed (omega arith) (omega (arith, h, long)) in
      let rising : (get_or es (first + i) nothing_placed).entry.other < (get_or es (first + j) nothing_placed).entry.other =
      elim (order (first + i) (first + j) nothing_placed (omega (arith, less)) (omega (arith, h, long, end_in))) [
        | inl under ↦ absurd (omega (arith, under, first_here, second_here))
        | inr both ↦ both.1
      ] in
      subst (λ (a : Entry). a.other < (get_or found j d).other) (sym low) (subst (λ (a : Entry). (get_or es (first + i) nothing_placed).entry.other < a.other) (sym high) rising)

  placed_is : (p : Placed) (e : Entry) → p.at ≡ node → p.entry ≡ e → p ≡ record { at = node; entry = e }
  placed_is p e at entry = ap (λ (n : ℕ). placed n p.entry) at ∙ ap (λ (f : Entry). placed node f) entry

  pub group_all : (found : List Entry) → found ≡ map (λ p. p.entry) (slice_range es first end) → (e : Entry) → Contains found e ↔ Contains es (record { at = node; entry = e })
  group_all found is e = (
    λ h.
        let long = group_long found is in
        let at : (get_or es (first + h.0) nothing_placed).entry ≡ e = sym (group_at found is h.0 e h.1) ∙ h.2 in
        let inside : first + h.0 < length es = omega (arith, h.1, long, end_in) in
        let same = placed_is (get_or es (first + h.0) nothing_placed) e (here (first + h.0) nothing_placed (omega arith) (omega (arith, h.1, long))) at in
        contains_place es (first + h.0) nothing_placed (record { at = node; entry = e }) inside same,
    λ h.
        let there = h.2 in
        let at_node : (get_or es h.0 (record { at = node; entry = e })).at ≡ node = ap (λ (p : Placed). p.at) there in
        let low : first ≤ h.0 = elim (cases_lt h.0 first) [
          | inl under ↦ let less = below.0 h.0 (record { at = node; entry = e }) (omega arith) under in absurd (omega (arith, less, at_node))
          | inr fine ↦ fine
        ] in
        let high : h.0 < end = elim (cases_lt h.0 end) [
          | inl fine ↦ fine
          | inr past ↦ let more = upto.1 h.0 (record { at = node; entry = e }) past h.1 in absurd (omega (arith, more, at_node))
        ] in
        let long = group_long found is in
        let k : h.0 - first < length found = omega (arith, low, high, long) in
        let sum : first + (h.0 - first) ≡ h.0 = omega (arith, low) in
        let entry : get_or found (h.0 - first) e ≡ e =
        group_at found is (h.0 - first) e k
        ∙ ap (λ n. (get_or es n nothing_placed).entry) sum
        ∙ ap (λ (p : Placed). p.entry) (get_or_default es h.0 nothing_placed (record { at = node; entry = e }) h.1 ∙ there) in
        contains_place found (h.0 - first) e e k entry,
  )
