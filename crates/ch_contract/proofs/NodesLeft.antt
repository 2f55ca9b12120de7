-- Whether all nodes are contracted, by how many are.
use Rattle.std.proofs.Common.{ℕ, zero, suc, ◌≡◌, ◌≢◌, ◌<◌, ◌≤◌, ◌⊎◌, true, eqb, List, [], ◌∷◌, is_none, length, All, AllPairs, Contains, arith, sym, subst, refl, ◌∙◌, inl, inr}
use Rattle.std.specs.List.{list_any}
use Rattle.std.proofs.lemmas.Bool.{cases_Bool, cases_lt}
use Rattle.std.proofs.lemmas.Bool.Decides.{nat_tests}
use Rattle.std.proofs.lemmas.List.{get_or_default}
use Rattle.std.proofs.lemmas.List.Elements.{All-cons}
use Rattle.std.proofs.lemmas.List.Kept.{AllPairs-cons}
use Rattle.std.proofs.lemmas.Map.Steps.{le-length_from_below}
use Rattle.ch_laws.specs.Contraction.{IsAlive, IsOver}
use Rattle.ch_laws.specs.Members.{contains_cases}
use Rattle.ch_overlay.specs.Overlay.{Overlay, IsOverlay, row_at, state_of}
use Rattle.ch_overlay.specs.Ranges.{distinct_below-few}
use Rattle.ch_contract.proofs.SweptNodes.{waits-from_none, gone-from_some, alive-from_none}

-- an element is found
contains-any : (xs : List ℕ) (q : ℕ) → Contains xs q → list_any (eqb q) xs ≡ true
contains-any [] q among = absurd (omega (arith, among.1))
contains-any (x ∷ xs) q among = elim (contains_cases x xs q among) [
  | inl here ↦ let test : eqb q x ≡ true = grind (arith, nat_tests, here) in rw test refl
  | inr later ↦ elim (cases_Bool (eqb q x)) [
    | inl same ↦ rw same refl
    | inr other ↦ rw other (contains-any xs q later)
  ]
]

module _ (o : Overlay) (is : IsOverlay o) where
  -- where as many are contracted as there are nodes, each is
  pub over-from_count : length o.rows ≤ length o.order → IsOver (state_of o)
  over-from_count full = λ x inside. elim (cases_Bool (is_none (row_at o.rows x).rank)) [
    | inr some ↦ gone-from_some (is.rows x inside) some
    | inl none ↦
        let waits = waits-from_none (is.rows x inside) none in
        let apart : All (λ y. x ≢ y) o.order = λ k d h same. waits (k, h, get_or_default o.order k x d h ∙ sym same) in
        let once : AllPairs (λ y z. y ≢ z) (x ∷ o.order) = AllPairs-cons (λ y z. y ≢ z) x o.order apart is.once in
        let low : All (λ y. y < length o.rows) (x ∷ o.order) = All-cons (λ y. y < length o.rows) x o.order inside is.plain.in_range in
        absurd (omega (arith, full, distinct_below-few (x ∷ o.order) (length o.rows) once low))
  ]

  -- the first nodes are contracted, or one of them isn't
  find_left : (n : ℕ) → n ≤ length o.rows → ((x : ℕ) × IsAlive (state_of o) x) ⊎ ((x : ℕ) → x < n → Contains o.order x)
  find_left zero few = inr (λ x none. absurd (omega (arith, none)))
  find_left (suc n) few = elim (find_left n (omega (arith, few))) [
    | inl left ↦ inl left
    | inr gone ↦ elim (cases_Bool (is_none (row_at o.rows n).rank)) [
      | inl none ↦ inl (n, alive-from_none o is n (omega (arith, few)) none)
      | inr some ↦ inr (λ x low. elim (cases_lt x n) [
        | inl before ↦ gone x before
        | inr past ↦ let here : n ≡ x = omega (arith, low, past) in subst (λ y. Contains o.order y) here (gone-from_some (is.rows n (omega (arith, few))) some)
      ])
    ]
  ]

  -- and where fewer are, one isn't
  pub left-from_count : length o.order < length o.rows → (x : ℕ) × IsAlive (state_of o) x
  left-from_count few = elim (find_left (length o.rows) (omega arith)) [
    | inl left ↦ left
    | inr gone ↦ absurd (omega (arith, few, le-length_from_below o.order (length o.rows) (λ q low. contains-any o.order q (gone q low))))
  ]
