-- The ranks of a hierarchy: each number below the number of nodes is the rank of one node.
use Rattle.std.proofs.Common.{ℕ, ◌≡◌, ◌≢◌, ◌<◌, ◌≤◌, ◌⊎◌, suc, true, false, eqb, List, [], ◌∷◌, length, get_or, All, arith, sym, inl, inr}
use Rattle.std.specs.List.{list_any}
use Rattle.std.proofs.lemmas.Bool.{cases_eq, cases_lt}
use Rattle.std.proofs.lemmas.Bool.Decides.{nat_tests, Decides-eqb}
use Rattle.std.proofs.lemmas.List.Elements.{All-nil, All-cons, All-tail, All-head}
use Rattle.std.proofs.lemmas.List.Kept.{AllPairs-cons}
use Rattle.std.proofs.lemmas.Map.Made.{IsDistinct-from_AllPairs}
use Rattle.std.proofs.lemmas.Map.Steps.{length-le_from_distinct_below}
use Rattle.ch_graph.specs.Hierarchy.{Hierarchy, IsWellMade, rank_of}

pub rank_below : {h : Hierarchy} → IsWellMade h → {x : ℕ} → x < length h.ranks → rank_of h x < length h.ranks
rank_below made {x} low = made.in_range x 0 low

-- two nodes of one rank are one node
pub same_node : {h : Hierarchy} → IsWellMade h → {x y : ℕ} → x < length h.ranks → y < length h.ranks → rank_of h x ≡ rank_of h y → x ≡ y
same_node made {x} {y} x_in y_in same = elim (cases_eq x y) [
  | inl e ↦ e
  | inr other ↦ elim (cases_lt x y) [
    | inl before ↦ absurd (made.once x y 0 before y_in same)
    | inr after ↦ absurd (made.once y x 0 (omega arith) x_in (sym same))
  ]
]

-- a number that is in a list, or is apart from each of its elements
found_or_apart : (r : ℕ) (xs : List ℕ) → ((x : ℕ) × (x < length xs) × (get_or xs x 0 ≡ r)) ⊎ All (λ n. r ≢ n) xs
found_or_apart r [] = inr (All-nil (λ n. r ≢ n))
found_or_apart r (n ∷ ns) = elim (cases_eq r n) [
  | inl here ↦ inl (0, omega arith, sym here)
  | inr other ↦ elim (found_or_apart r ns) [
    | inl later ↦ inl (suc later.0, omega (arith, later.1), later.2)
    | inr never ↦ inr (All-cons (λ n. r ≢ n) n ns other never)
  ]
]

any_below : {n : ℕ} (xs : List ℕ) → All (λ r. r < n) xs → (q : ℕ) → list_any (eqb q) xs ≡ true → q < n
any_below [] all q among = absurd (cc)
any_below {n} (x ∷ xs) all q among = elim (cases_eq q x) [
  | inl here ↦ omega (arith, here, All-head (λ r. r < n) x xs all)
  | inr other ↦
      let apart : eqb q x ≡ false = grind (arith, nat_tests, other) in
      any_below xs (All-tail (λ r. r < n) x xs all) q (rw apart at among)
]

-- n different numbers below n are all of these
pub rank_taken : {h : Hierarchy} → IsWellMade h → {r : ℕ} → r < length h.ranks → (x : ℕ) × (x < length h.ranks) × (rank_of h x ≡ r)
rank_taken {h} made {r} low = elim (found_or_apart r h.ranks) [
  | inl found ↦ found
  | inr apart ↦
      let distinct = AllPairs-cons (λ q n. q ≢ n) r h.ranks apart made.once in
      let few : length (r ∷ h.ranks) ≤ length h.ranks = length-le_from_distinct_below (r ∷ h.ranks) (length h.ranks) (IsDistinct-from_AllPairs Decides-eqb (r ∷ h.ranks) distinct) (any_below (r ∷ h.ranks) (All-cons (λ n. n < length h.ranks) r h.ranks low made.in_range)) in
      absurd (omega (arith, few))
]
