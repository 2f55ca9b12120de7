-- The tests of links: that each comes after the one before it, and is well made.
use Rattle.std.proofs.Common.{ℕ, zero, suc, ◌≡◌, ◌+◌, ◌<◌, List, length, get_or, Some, AllPairs, inl, inr, sym, ap, subst, ◌∙◌, arith}
use Rattle.std.proofs.lemmas.Bool.{cases_lt}
use Rattle.std.proofs.lemmas.List.{get_or_default}
use Rattle.ch_cost.specs.Cost.{◌⊕◌}
use Rattle.ch_graph.specs.declared.link.Link.{Link}
use Rattle.ch_graph.specs.Hierarchy.{Hierarchy, AreHalves, ComesBefore, IsLinkAt, IsLinkWellMade}
use Rattle.ch_graph.specs.Checking.{HaveSum, IsAllowed, IsLow, IsWellMadeAt}
use Rattle.ch_graph.proofs.LinkPlaces.{place_of}
use Rattle.ch_graph.proofs.OneUnfolding.{not_before}

-- The order

before-trans : (a b c : Link) → ComesBefore a b → ComesBefore b c → ComesBefore a c
before-trans a b c h k = elim h [
  | inl p ↦ elim k [ inl q ↦ inl (omega arith) | inr q ↦ inl (omega (arith, q.0)) ]
  | inr p ↦ elim k [ inl q ↦ inl (omega (arith, p.0)) | inr q ↦ inr (omega (arith, p.0, q.0), omega (arith, p.1, q.1)) ]
]

-- where each link comes after the one before it, it comes after all before it
pub links_sorted : (ls : List Link) → ((k : ℕ) (d : Link) → k + 1 < length ls → ComesBefore (get_or ls k d) (get_or ls (k + 1) d)) → AllPairs ComesBefore ls
links_sorted ls next i zero d less within = absurd (omega arith)
links_sorted ls next i (suc j) d less within =
    let after : j + 1 ≡ suc j = omega arith in
    let here : ComesBefore (get_or ls j d) (get_or ls (suc j) d) = subst (λ n. ComesBefore (get_or ls j d) (get_or ls n d)) after (next j d (omega arith)) in
    elim (cases_lt i j) [
      | inl below ↦ before-trans (get_or ls i d) (get_or ls j d) (get_or ls (suc j) d) (links_sorted ls next i j d below (omega arith)) here
      | inr at ↦ let e : j ≡ i = omega arith in subst (λ m. ComesBefore (get_or ls m d) (get_or ls (suc j) d)) e here
    ]

-- One link

-- among links in order there is one place for two ends
pub one_place : {ls : List Link} (d : Link) {x y i j : ℕ} → AllPairs ComesBefore ls → IsLinkAt ls x y i → IsLinkAt ls x y j → i ≡ j
one_place {ls} d {x} {y} {i} {j} sorted first second = elim (cases_lt i j) [
  | inl low ↦ absurd (not_before (get_or ls i d) (get_or ls j d) (first.from d) (first.to d) (second.from d) (second.to d) (sorted i j d low second.within))
  | inr more ↦ elim (cases_lt j i) [
    | inl low ↦ absurd (not_before (get_or ls j d) (get_or ls i d) (second.from d) (second.to d) (first.from d) (first.to d) (sorted j i d low first.within))
    | inr level ↦ omega arith
  ]
]

module _ (ls : List Link) (l : Link) (m i j : ℕ) (a b c e : Link) (first_at : IsLinkAt ls l.from m i) (second_at : IsLinkAt ls m l.to j) (a_is : a ≡ get_or ls i c) (b_is : b ≡ get_or ls j e) where
  -- the links that were found
  pub have_sum : l.cost ≡ a.cost ⊕ b.cost → HaveSum ls l m
  have_sum sum = record {
    first = i;
    second = j;
    first_at = first_at;
    second_at = second_at;
    sum = λ (d : Link).
        let first : a ≡ get_or ls i d = a_is ∙ get_or_default ls i c d first_at.within in
        let second : b ≡ get_or ls j d = b_is ∙ get_or_default ls j e d second_at.within in
        sum ∙ ap (λ (k : Link). k.cost ⊕ b.cost) first ∙ ap (λ (k : Link). (get_or ls i d).cost ⊕ k.cost) second;
  }

  -- are all that there are
  pub sum_of_found : AllPairs ComesBefore ls → HaveSum ls l m → l.cost ≡ a.cost ⊕ b.cost
  sum_of_found sorted have =
      let at_i : have.first ≡ i = one_place l sorted have.first_at first_at in
      let at_j : have.second ≡ j = one_place l sorted have.second_at second_at in
      let first : get_or ls have.first l ≡ a = ap (λ n. get_or ls n l) at_i ∙ get_or_default ls i l c first_at.within ∙ sym a_is in
      let second : get_or ls have.second l ≡ b = ap (λ n. get_or ls n l) at_j ∙ get_or_default ls j l e second_at.within ∙ sym b_is in
      have.sum l ∙ ap (λ (k : Link). k.cost ⊕ (get_or ls have.second l).cost) first ∙ ap (λ (k : Link). a.cost ⊕ k.cost) second

-- what the tests find of a middle
abbrev pub AreTested : Hierarchy → Link → Type 0
AreTested h l = (m : ℕ) → l.middle ≡ Some m → IsLow h.ranks l m × HaveSum h.links l m

halves_of : (h : Hierarchy) {l : Link} {m : ℕ} → IsLow h.ranks l m → HaveSum h.links l m → (a : Link) × (b : Link) × AreHalves h l m a b
halves_of h {l} low have =
    let a : Link = get_or h.links have.first l in
    let b : Link = get_or h.links have.second l in (
      a,
      b,
      record {
        first = record { among = (have.first, have.first_at.within, get_or_default h.links have.first a l have.first_at.within); from = have.first_at.from l; to = have.first_at.to l };
        second = record { among = (have.second, have.second_at.within, get_or_default h.links have.second b l have.second_at.within); from = have.second_at.from l; to = have.second_at.to l };
        sum = have.sum l;
        below_from = low.below_from;
        below_to = low.below_to;
      },
    )

pub well_made : (h : Hierarchy) {l : Link} → IsAllowed h.version (length h.ranks) h.bound l → AreTested h l → IsLinkWellMade h l
well_made h {l} allowed tested = record {
  from_in = allowed.from_in;
  to_in = allowed.to_in;
  apart = allowed.apart;
  counts = allowed.counts;
  within = allowed.within;
  middle = λ m is. halves_of h (tested m is).0 (tested m is).1;
}

read_at : (ls : List Link) (place : ℕ) {l : Link} (d : Link) → place < length ls → get_or ls place l ≡ l → get_or ls place d ≡ l
read_at ls place {l} d within is = get_or_default ls place d l within ∙ is

sum_of_halves : {h : Hierarchy} {l : Link} {m : ℕ} {a b : Link} → AreHalves h l m a b → HaveSum h.links l m
sum_of_halves {h} {l} {m} {a} {b} halves = record {
  first = halves.first.among.0;
  second = halves.second.among.0;
  first_at = place_of halves.first;
  second_at = place_of halves.second;
  sum = λ (d : Link).
      let first : get_or h.links halves.first.among.0 d ≡ a = read_at h.links halves.first.among.0 d halves.first.among.1 halves.first.among.2 in
      let second : get_or h.links halves.second.among.0 d ≡ b = read_at h.links halves.second.among.0 d halves.second.among.1 halves.second.among.2 in
      halves.sum ∙ ap (λ (k : Link). k.cost ⊕ b.cost) (sym first) ∙ ap (λ (k : Link). (get_or h.links halves.first.among.0 d).cost ⊕ k.cost) (sym second);
}

pub allowed-from_made : {h : Hierarchy} {l : Link} → IsLinkWellMade h l → IsAllowed h.version (length h.ranks) h.bound l
allowed-from_made made = record { from_in = made.from_in; to_in = made.to_in; apart = made.apart; counts = made.counts; within = made.within }

pub tested-from_made : {h : Hierarchy} {l : Link} → IsLinkWellMade h l → AreTested h l
tested-from_made {h} {l} made m is =
    let parts = made.middle m is in
    let halves : AreHalves h l m parts.0 parts.1 = parts.2 in
    (record { below_from = halves.below_from; below_to = halves.below_to }, sum_of_halves halves)

-- Each link

module _ (h : Hierarchy) (place : ℕ) (l c : Link) (within : place < length h.links) (is : l ≡ get_or h.links place c) (before : (k : ℕ) → k < place → IsWellMadeAt h k) where
  pub next_made : IsLinkWellMade h l → (k : ℕ) → k < place + 1 → IsWellMadeAt h k
  next_made made k low = elim (cases_lt k place) [
    | inl less ↦ before k less
    | inr more ↦
        let at : place ≡ k = omega arith in
        subst (IsWellMadeAt h) at (λ (d : Link). subst (IsLinkWellMade h) (is ∙ get_or_default h.links place c d within) made)
  ]
