-- Entries of a list that rises.
use Rattle.std.proofs.Common.{ℕ, ◌≡◌, ◌<◌, ◌+◌, List, [], ◌∷◌, ◌++◌, length, get_or, Contains, refl, ap, sym, subst, ◌∙◌, arith, inl, inr}
use Rattle.std.proofs.lemmas.Bool.{cases_eq, cases_lt}
use Rattle.std.proofs.lemmas.List.{get_or_append_left, get_or_default, get_or_push, length_push}
use Rattle.ch_cost.specs.declared.cost.Cost.{Cost}
use Rattle.ch_laws.specs.declared.entry.Entry.{Entry}
use Rattle.ch_laws.specs.Rows.{Rises, Lists}

-- there is one entry for a node
pub one_entry : (es : List Entry) → Rises es → (a b : Entry) → Contains es a → Contains es b → a.other ≡ b.other → a ≡ b
one_entry es rises a b first second same =
    let i = first.0 in
    let j = second.0 in
    let left : get_or es i a ≡ a = first.2 in
    let right : get_or es j a ≡ b = get_or_default es j a b second.1 ∙ second.2 in
    let here : (get_or es i a).other ≡ a.other = ap (λ (e : Entry). e.other) left in
    let there : (get_or es j a).other ≡ b.other = ap (λ (e : Entry). e.other) right in
    elim (cases_eq i j) [
      | inl e ↦ sym left ∙ subst (λ (k : ℕ). get_or es i a ≡ get_or es k a) e refl ∙ right
      | inr apart ↦ elim (cases_lt i j) [
        | inl less ↦ absurd (omega (arith, rises i j a less second.1, here, there, same))
        | inr past ↦ absurd (omega (arith, rises j i a (omega (arith, apart, past)) first.1, here, there, same))
      ]
    ]

-- so there is one cost
pub one_cost : (es : List Entry) → Rises es → (y : ℕ) (c d : Cost) → Lists es y c → Lists es y d → c ≡ d
one_cost es rises y c d first second =
    let same : first.entry ≡ second.entry = one_entry es rises first.entry second.entry first.among second.among (first.other ∙ sym second.other) in
    sym first.costs ∙ ap (λ (e : Entry). e.cost) same ∙ second.costs

-- and each is below the last
pub last_is_past : (outs : List Entry) (out : Entry) → Rises (outs ++ out ∷ []) → (e : Entry) → Contains outs e → e.other < out.other
last_is_past outs out rises e among =
    let long : length (outs ++ out ∷ []) ≡ length outs + 1 = length_push outs out in
    let first : get_or (outs ++ out ∷ []) among.0 e ≡ e = get_or_append_left outs (out ∷ []) e among.0 among.1 ∙ among.2 in
    let last : get_or (outs ++ out ∷ []) (length outs) e ≡ out = get_or_push outs out e (length outs) refl in
    subst (λ (a : Entry). a.other < out.other) first (subst (λ (b : Entry). (get_or (outs ++ out ∷ []) among.0 e).other < b.other) last (rises among.0 (length outs) e among.1 (omega arith)))
