-- The inner nodes of a way.
use Rattle.std.proofs.Common.{ℕ, ◌≡◌, ◌≢◌, List, [], ◌∷◌, ◌++◌, length, Contains, refl, arith, ap, sym, subst, ◌∙◌, inl, inr}
use Rattle.ch_cost.specs.declared.cost.Cost.{Cost}
use Rattle.ch_graph.specs.Walk.{Along, Walk, visited, Walk.stay, Walk.go}
use Rattle.ch_laws.specs.Members.{contains_cases, contains_later}
use Rattle.ch_laws.specs.Moving.{heads, moved, tails, too-long}
use Rattle.ch_contract.specs.Drafts.{IsInner}

not-last : (n last : ℕ) (xs : List ℕ) → [] ≡ xs ++ last ∷ [] → ⊥
not-last n last [] e = absurd (cc)
not-last n last (x ∷ xs) e = absurd (cc)

nothing : (xs : List ℕ) → length xs ≡ 0 → xs ≡ []
nothing [] e = refl
nothing (x ∷ xs) e = absurd (omega (arith, e))

module _ (A : ℕ → ℕ → Cost → Type 0) where
  -- the last node of a walk is where it ends
  ends_at : {x z : ℕ} {c : Cost} (w : Walk A x z c) (front : List ℕ) (last : ℕ) → x ∷ visited w ≡ front ++ last ∷ [] → last ≡ z
  ends_at (stay {x = x}) [] last e = sym (heads x last [] [] e)
  ends_at (stay {x = x}) (n ∷ front) last e = absurd (not-last n last front (tails x n [] (front ++ last ∷ []) e))
  ends_at (go {x = x} {y = y} arc rest) [] last e = absurd (too-long x y last (visited rest) e)
  ends_at (go {x = x} {y = y} arc rest) (n ∷ front) last e = ends_at rest front last (tails x n _ _ e)

  -- a walk between two nodes goes over an arc
  goes_on : {x z : ℕ} {c : Cost} (w : Walk A x z c) → x ≢ z → visited w ≡ [] → ⊥
  goes_on stay apart e = apart refl
  goes_on (go {y = y} arc rest) apart e = absurd (cc)

  -- an arc leaves each node but the last
  leaves : {x z : ℕ} {c : Cost} (w : Walk A x z c) (front : List ℕ) (last : ℕ) → x ∷ visited w ≡ front ++ last ∷ [] → (n : ℕ) → Contains front n → (t : ℕ) × (d : Cost) × A n t d
  leaves (stay {x = x}) [] last e n among = absurd (omega (arith, among.1))
  leaves (stay {x = x}) (m ∷ front) last e n among = absurd (not-last m last front (tails x m [] (front ++ last ∷ []) e))
  leaves (go {x = x} {y = y} arc rest) [] last e n among = absurd (omega (arith, among.1))
  leaves (go {x = x} {y = y} {c = c} arc rest) (m ∷ front) last e n among = elim (contains_cases m front n among) [
    | inl here ↦ (y, c, subst (λ (k : ℕ). A k y c) (heads x m _ _ e ∙ here) arc)
    | inr later ↦ leaves rest front last (tails x m _ _ e) n later
  ]

module _ (A : ℕ → ℕ → Cost → Type 0) (nodes : List ℕ) (u w : ℕ) (c : Cost) (inner : List ℕ) (along : Along A nodes u w c) (is : IsInner nodes inner) where
  -- an arc leaves each inner node
  pub inner_leaves : (n : ℕ) → Contains inner n → (t : ℕ) × (d : Cost) × A n t d
  inner_leaves n among = elim is [
    | inl short ↦ absurd (omega (arith, ap length short.1, among.1))
    | inr h ↦ leaves A along.0 (h.0 ∷ inner) h.1 (sym along.1 ∙ h.2) n (contains_later h.0 inner n among)
  ]

  module _ (apart : u ≢ w) where
    whole : nodes ≡ u ∷ inner ++ w ∷ []
    whole = elim is [
      | inl short ↦ absurd (goes_on A along.0 apart (nothing (visited along.0) (omega (arith, short.0, ap length along.1))))
      | inr h ↦
          let first : h.0 ≡ u = heads h.0 u _ _ (sym h.2 ∙ along.1) in
          let all : nodes ≡ u ∷ inner ++ h.1 ∷ [] = h.2 ∙ ap (λ (n : ℕ). n ∷ inner ++ h.1 ∷ []) first in
          all ∙ ap (λ (n : ℕ). u ∷ inner ++ n ∷ []) (ends_at A along.0 (u ∷ inner) h.1 (sym along.1 ∙ all))
    ]

    -- a way whose nodes but the last have the same arcs elsewhere leads there too
    pub inner_moved : (B : ℕ → ℕ → Cost → Type 0) → ((y t : ℕ) (d : Cost) → Contains (u ∷ inner) y → A y t d → B y t d) → Along B (u ∷ inner ++ w ∷ []) u w c
    inner_moved B to =
        let other = moved A B along.0 (u ∷ inner) w (sym along.1 ∙ whole) to in
        (other.0, sym whole ∙ along.1 ∙ ap (λ (ys : List ℕ). u ∷ ys) (sym other.1))
