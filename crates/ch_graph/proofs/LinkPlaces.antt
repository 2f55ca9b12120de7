-- The places of the halves of links: that they are there, and that what is kept of them stays right.
use Rattle.std.proofs.Common.{ℕ, ◌≡◌, ◌<◌, List, [], ◌∷◌, ◌++◌, length, get_or, Some, Contains, inl, inr, arith, ap, subst, sym, ◌∙◌, length-append}
use Rattle.std.proofs.lemmas.Bool.{cases_lt}
use Rattle.std.proofs.lemmas.List.{get_or_append_left, get_or_push, get_or_default}
use Rattle.std.proofs.lemmas.List.Elements.{All-contains}
use Rattle.ch_graph.specs.declared.link.Link.{Link}
use Rattle.ch_graph.specs.declared.link_halves.Parts.{Parts}
use Rattle.ch_graph.specs.declared.link_halves.KeptHalves.{KeptHalves}
use Rattle.ch_graph.specs.Hierarchy.{Hierarchy, IsLink, IsLinkAt, AreHalves, IsLinkWellMade, IsWellMade}
use Rattle.ch_graph.specs.LinkHalves.{ArePartsOf, AreHalvesOf, parts_in}

-- A link with a middle has halves

pub place_of : {h : Hierarchy} {x y : ℕ} {l : Link} (is : IsLink h x y l) → IsLinkAt h.links x y is.among.0
place_of {h} {l} is =
    let same : (d : Link) → get_or h.links is.among.0 d ≡ l = λ (d : Link). get_or_default h.links is.among.0 d l is.among.1 ∙ is.among.2 in
    record {
      within = is.among.1;
      from = λ d. ap (λ (k : Link). k.from) (same d) ∙ is.from;
      to = λ d. ap (λ (k : Link). k.to) (same d) ∙ is.to;
    }

module _ (h : Hierarchy) (made : IsWellMade h) (place : ℕ) (l : Link) (within : place < length h.links) (is : l ≡ get_or h.links place l) (m : ℕ) (by_way : l.middle ≡ Some m) where
  among : Contains h.links l
  among = (place, within, sym is)

  pub first_is_there : ((k : ℕ) → IsLinkAt h.links l.from m k → ⊥) → ⊥
  first_is_there nowhere =
      let parts = (All-contains (IsLinkWellMade h) h.links l made.links among).middle m by_way in
      let both : AreHalves h l m parts.0 parts.1 = parts.2 in
      nowhere both.first.among.0 (place_of both.first)

  pub second_is_there : ((k : ℕ) → IsLinkAt h.links m l.to k → ⊥) → ⊥
  second_is_there nowhere =
      let parts = (All-contains (IsLinkWellMade h) h.links l made.links among).middle m by_way in
      let both : AreHalves h l m parts.0 parts.1 = parts.2 in
      nowhere both.second.among.0 (place_of both.second)

-- What is kept

pub one_more : {links : List Link} {kept : List KeptHalves} {place : ℕ} (last : KeptHalves) {parts : Parts} → length kept ≡ place → AreHalvesOf links kept → ((d : Link) → ArePartsOf links (get_or links place d) parts) → parts_in place last ≡ parts → AreHalvesOf links (kept ++ last ∷ [])
one_more {links} {kept} {place} last count are found is = record {
  each = λ k (d : Link) (e : KeptHalves) k<. elim (cases_lt k (length kept)) [
    | inl low ↦ subst (λ (x : KeptHalves). ArePartsOf links (get_or links k d) (parts_in k x)) (sym (get_or_append_left kept (last ∷ []) e k low)) (are.each k d e low)
    | inr high ↦
        let here : place ≡ k = omega (arith, k<, length-append kept (last ∷ []), count) in
        subst (λ n. ArePartsOf links (get_or links n d) (parts_in n (get_or (kept ++ last ∷ []) n e))) here
        (subst (λ (x : KeptHalves). ArePartsOf links (get_or links place d) (parts_in place x)) (sym (get_or_push kept last e place count))
        (subst (λ (o : Parts). ArePartsOf links (get_or links place d) o) (sym is) (found d)))
  ];
}
