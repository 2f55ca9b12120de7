-- In a well made hierarchy a pair of nodes has one link, and a link unfolds to one list alone.
use Rattle.std.proofs.Common.{ℕ, ◌≡◌, ◌<◌, List, ◌++◌, get_or, arith, ap, subst, sym, refl, ◌∙◌, inl, inr}
use Rattle.std.proofs.lemmas.Bool.{cases_lt}
use Rattle.std.proofs.lemmas.List.{get_or_default}
use Rattle.ch_graph.specs.declared.link.Link.{Link}
use Rattle.ch_graph.specs.Hierarchy.{Hierarchy, IsLink, Unfolds, Unfolds.whole, Unfolds.halves, ComesBefore, IsWellMade}
use Rattle.ch_graph.specs.Unfolding.{LinksUnfold}
use Rattle.ch_graph.proofs.Unfolding.{HasUnfolding, link-unfolds}

-- A pair of nodes has one link

pub not_before : {x y : ℕ} (a b : Link) → a.from ≡ x → a.to ≡ y → b.from ≡ x → b.to ≡ y → ComesBefore a b → ⊥
not_before a b a_from a_to b_from b_to before = elim before [
  | inl less ↦ omega (arith, less)
  | inr same ↦ omega (arith, same.0, same.1)
]

-- the links at two places, of which the first is lower, are not of one pair
not_apart : {h : Hierarchy} → IsWellMade h → {x y : ℕ} {a b : Link} (first : IsLink h x y a) (second : IsLink h x y b) → first.among.0 < second.among.0 → ⊥
not_apart {h} made {x} {y} {a} {b} first second low =
    let before : ComesBefore (get_or h.links first.among.0 a) (get_or h.links second.among.0 a) = made.sorted first.among.0 second.among.0 a low second.among.1 in
    let at_a : ComesBefore a (get_or h.links second.among.0 a) = subst (λ (l : Link). ComesBefore l (get_or h.links second.among.0 a)) first.among.2 before in
    let is_b : get_or h.links second.among.0 a ≡ b = get_or_default h.links second.among.0 a b second.among.1 ∙ second.among.2 in
    not_before a b first.from first.to second.from second.to (subst (λ (l : Link). ComesBefore a l) is_b at_a)

pub same_link : {h : Hierarchy} → IsWellMade h → {x y : ℕ} {a b : Link} → IsLink h x y a → IsLink h x y b → a ≡ b
same_link {h} made {x} {y} {a} {b} first second = elim (cases_lt first.among.0 second.among.0) [
  | inl low ↦ absurd (not_apart made first second low)
  | inr high ↦ elim (cases_lt second.among.0 first.among.0) [
    | inl low ↦ absurd (not_apart made second first low)
    | inr level ↦
        let same : first.among.0 ≡ second.among.0 = omega arith in
        sym first.among.2 ∙ ap (λ k. get_or h.links k a) same ∙ get_or_default h.links second.among.0 a b second.among.1 ∙ second.among.2
  ]
]

-- A link unfolds to one list

pub one_unfolding : {h : Hierarchy} → IsWellMade h → {l : Link} {us vs : List Link} → Unfolds h l us → Unfolds h l vs → us ≡ vs
one_unfolding made (whole none_is) (whole other) = refl
one_unfolding made (whole none_is) (halves middle_is first second left right) = absurd (cc)
one_unfolding made (halves middle_is first second left right) (whole none_is) = absurd (cc)
one_unfolding {h} made (halves {l = l} {a = a} {b = b} {m = m} {ls = ls} {rs = rs} middle_is first second left right) (halves {a = c} {b = d} {m = n} {ls = us} {rs = vs} other third fourth below above) =
    let same : n ≡ m = cc in
    let a_is : c ≡ a = same_link made (subst (λ k. IsLink h l.from k c) same third) first in
    let b_is : d ≡ b = same_link made (subst (λ k. IsLink h k l.to d) same fourth) second in
    let left_is : ls ≡ us = one_unfolding made left (subst (λ (k : Link). Unfolds h k us) a_is below) in
    let right_is : rs ≡ vs = one_unfolding made right (subst (λ (k : Link). Unfolds h k vs) b_is above) in
    ap (λ (k : List Link). k ++ rs) left_is ∙ ap (λ (k : List Link). us ++ k) right_is

pub links_unfold : LinksUnfold
links_unfold h l made among =
    let found : HasUnfolding h l = link-unfolds made l among in
    (found.arcs, found.unfolds, λ others unfolds. one_unfolding made unfolds found.unfolds)
