-- In a well made hierarchy every link unfolds, since the lower end of its halves ranks below both of its ends.
use Rattle.std.proofs.Common.{ℕ, zero, suc, ◌≡◌, ◌+◌, ◌<◌, min, List, [], ◌∷◌, ◌++◌, Option, Some, None, Contains, arith, refl, sym, subst}
use Rattle.std.proofs.lemmas.List.Elements.{All-contains}
use Rattle.ch_graph.specs.declared.link.Link.{Link}
use Rattle.ch_graph.specs.Hierarchy.{Hierarchy, rank_of, Unfolds, Unfolds.whole, Unfolds.halves, AreHalves, IsLinkWellMade, IsWellMade}

-- the rank of the lower end
abbrev lower : Hierarchy → Link → ℕ
lower h l = min (rank_of h l.from) (rank_of h l.to)

-- some unfolding of the link
pub record HasUnfolding (h : Hierarchy) (l : Link) : Type 0 where
  pub arcs : List Link
  pub unfolds : Unfolds h l arcs

first_below : (h : Hierarchy) (n : ℕ) {m : ℕ} (l a : Link) → lower h l < suc n → rank_of h m < rank_of h l.from → rank_of h m < rank_of h l.to → a.to ≡ m → lower h a < n
first_below h n l a low below_from below_to to =
    let at_m : rank_of h a.to < rank_of h l.from = subst (λ k. rank_of h k < rank_of h l.from) (sym to) below_from in
    let at_m_too : rank_of h a.to < rank_of h l.to = subst (λ k. rank_of h k < rank_of h l.to) (sym to) below_to in
    omega (arith, low, at_m, at_m_too)

second_below : (h : Hierarchy) (n : ℕ) {m : ℕ} (l b : Link) → lower h l < suc n → rank_of h m < rank_of h l.from → rank_of h m < rank_of h l.to → b.from ≡ m → lower h b < n
second_below h n l b low below_from below_to from =
    let at_m : rank_of h b.from < rank_of h l.from = subst (λ k. rank_of h k < rank_of h l.from) (sym from) below_from in
    let at_m_too : rank_of h b.from < rank_of h l.to = subst (λ k. rank_of h k < rank_of h l.to) (sym from) below_to in
    omega (arith, low, at_m, at_m_too)

module _ {h : Hierarchy} (well : IsWellMade h) where
  unfold_middle : (n : ℕ) → ((l : Link) → Contains h.links l → lower h l < n → HasUnfolding h l) → (l : Link) → Contains h.links l → lower h l < suc n → (o : Option ℕ) → l.middle ≡ o → HasUnfolding h l
  unfold_middle n smaller l among low None none = record { arcs = l ∷ []; unfolds = whole none }
  unfold_middle n smaller l among low (Some m) some =
      let parts = (All-contains (IsLinkWellMade h) h.links l well.links among).middle m some in
      let a : Link = parts.0 in
      let b : Link = parts.1 in
      let halves_of : AreHalves h l m a b = parts.2 in
      let left : HasUnfolding h a = smaller a halves_of.first.among (first_below h n l a low halves_of.below_from halves_of.below_to halves_of.first.to) in
      let right : HasUnfolding h b = smaller b halves_of.second.among (second_below h n l b low halves_of.below_from halves_of.below_to halves_of.second.from) in
      record { arcs = left.arcs ++ right.arcs; unfolds = halves some halves_of.first halves_of.second left.unfolds right.unfolds }

  unfold_below : (n : ℕ) (l : Link) → Contains h.links l → lower h l < n → HasUnfolding h l
  unfold_below zero l among low = absurd (omega (arith, low))
  unfold_below (suc n) l among low = unfold_middle n (unfold_below n) l among low l.middle refl

  pub link-unfolds : (l : Link) → Contains h.links l → HasUnfolding h l
  link-unfolds l among = unfold_below (lower h l + 1) l among (omega arith)
