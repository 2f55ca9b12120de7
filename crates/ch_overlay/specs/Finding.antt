-- Laws of answered rows: which one is found for a node.
use Rattle.std.specs.Prelude.{ℕ, ◌≡◌, ◌≢◌, List, [], ◌∷◌, Some, None, AllPairs, Contains, nat_eq, refl}
use Rattle.std.proofs.Common.{true, false, arith, sym, subst, ◌∙◌, inl, inr}
use Rattle.std.proofs.lemmas.Bool.{cases_eq}
use Rattle.std.proofs.lemmas.Bool.Decides.{nat_tests}
use Rattle.ch_laws.specs.Rows.{Row}
use Rattle.ch_laws.specs.Members.{contains_first, contains_later, contains_cases, pairs_first, pairs_later}
use Rattle.ch_overlay.specs.declared.source.Seen.{Seen}
use Rattle.ch_overlay.specs.Source.{row_in, row_of}

row-same : (a b : Row) → Some a ≡ Some b → a ≡ b
row-same a b e = cc

no-row : (a : Row) → None ≡ Some a → ⊥
no-row a e = absurd (cc)

-- the row that is found for a node is one of the list
pub row_among : (seen : List Seen) (x : ℕ) (r : Row) → row_of seen x ≡ Some r → (s : Seen) × Contains seen s × (s.node ≡ x) × (row_in s ≡ r)
row_among [] x r is = absurd (no-row r is)
row_among (s ∷ seen) x r is = elim (cases_eq s.node x) [
  | inl e ↦ (s, contains_first s seen, e, row-same (row_in s) r (sym (cond_here s seen x e) ∙ is))
  | inr other ↦
      let rest = row_among seen x r (sym (cond_there s seen x other) ∙ is) in
      (rest.0, contains_later s seen rest.0 rest.1, rest.2, rest.3)
]
  where
    cond_here : (s : Seen) (seen : List Seen) (x : ℕ) → s.node ≡ x → row_of (s ∷ seen) x ≡ Some (row_in s)
    cond_here s seen x e =
        let test : nat_eq s.node x ≡ true = grind (arith, nat_tests, e) in
        rw test refl

    cond_there : (s : Seen) (seen : List Seen) (x : ℕ) → s.node ≢ x → row_of (s ∷ seen) x ≡ row_of seen x
    cond_there s seen x other =
        let test : nat_eq s.node x ≡ false = grind (arith, nat_tests, other) in
        rw test refl

-- and of a list with one row for each node each is found
pub row_found : (seen : List Seen) → AllPairs (λ a b. a.node ≢ b.node) seen → (s : Seen) → Contains seen s → row_of seen s.node ≡ Some (row_in s)
row_found [] once s among = absurd (omega (arith, among.1))
row_found (t ∷ seen) once s among = elim (contains_cases t seen s among) [
  | inl here ↦ subst (λ (u : Seen). row_of (t ∷ seen) u.node ≡ Some (row_in u)) here (first t)
  | inr later ↦
      let apart : t.node ≢ s.node = pairs_first (λ (a b : Seen). a.node ≢ b.node) t seen once s later in
      let test : nat_eq t.node s.node ≡ false = grind (arith, nat_tests, apart) in
      rw test (row_found seen (pairs_later (λ (a b : Seen). a.node ≢ b.node) t seen once) s later)
]
  where
    first : (t : Seen) → row_of (t ∷ seen) t.node ≡ Some (row_in t)
    first t =
        let test : nat_eq t.node t.node ≡ true = grind (arith, nat_tests) in
        rw test refl
