-- Chains of links: joined, and as walks.
use Rattle.std.proofs.Common.{ℕ, ◌≡◌, List, [], ◌∷◌, ◌++◌, map, refl, sym, ap, subst}
use Rattle.ch_cost.specs.declared.cost.Cost.{Cost}
use Rattle.ch_cost.specs.Cost.{zero_cost, ◌⊕◌}
use Rattle.ch_cost.specs.Cost.Laws.{sum_assoc, zero_cost-sum, sum-zero_cost}
use Rattle.ch_graph.specs.declared.link.Link.{Link}
use Rattle.ch_graph.specs.Walk.{Walk, Walk.stay, Walk.go, Along}
use Rattle.ch_graph.specs.Hierarchy.{Chain, Chain.nothing, Chain.then}
use Rattle.ch_graph.specs.Walk.Laws.{join}

module _ {IsKind : Link → Type 0} where
  -- a chain of equal cost
  pub chain-same : {ls : List Link} {x z : ℕ} {c d : Cost} → c ≡ d → Chain IsKind ls x z c → Chain IsKind ls x z d
  chain-same {ls} {x} {z} same chain = subst (λ (e : Cost). Chain IsKind ls x z e) same chain

  -- two chains, one after the other
  pub chain-join : {ls rs : List Link} {x y z : ℕ} {c d : Cost} → Chain IsKind ls x y c → Chain IsKind rs y z d → Chain IsKind (ls ++ rs) x z (c ⊕ d)
  chain-join {d = d} nothing more = chain-same (sym (zero_cost-sum d)) more
  chain-join {d = e} (then {l = l} {d = d} kind from rest) more = chain-same (sym (sum_assoc l.cost d e)) (then kind from (chain-join rest more))

  -- one link
  pub one_link : (l : Link) → IsKind l → Chain IsKind (l ∷ []) l.from l.to l.cost
  one_link l kind = chain-same (sum-zero_cost l.cost) (then kind refl nothing)

  -- a chain is a walk where each of its links is
  pub chain-walk : {Arc : ℕ → ℕ → Cost → Type 0} → ((l : Link) → IsKind l → Walk Arc l.from l.to l.cost) → {ls : List Link} {x z : ℕ} {c : Cost} → Chain IsKind ls x z c → Walk Arc x z c
  chain-walk each nothing = stay
  chain-walk {Arc = Arc} each (then {l = l} kind from rest) = join (subst (λ n. Walk Arc n l.to l.cost) from (each l kind)) (chain-walk each rest)

  -- where each link is an arc, the walk goes along the heads of the links
  pub chain-along : {Arc : ℕ → ℕ → Cost → Type 0} → ((l : Link) → IsKind l → Arc l.from l.to l.cost) → {ls : List Link} {x z : ℕ} {c : Cost} → Chain IsKind ls x z c → Along Arc (x ∷ map (λ (l : Link). l.to) ls) x z c
  chain-along each nothing = (stay, refl)
  chain-along {Arc = Arc} each (then {l = l} {x = x} kind from rest) =
      let more = chain-along each rest in
      (go (subst (λ n. Arc n l.to l.cost) from (each l kind)) more.0, ap (λ (nodes : List ℕ). x ∷ nodes) more.1)

-- a chain of links of one kind is one of another where each link is
pub chain-weaker : {IsKind IsOther : Link → Type 0} → ((l : Link) → IsKind l → IsOther l) → {ls : List Link} {x z : ℕ} {c : Cost} → Chain IsKind ls x z c → Chain IsOther ls x z c
chain-weaker each nothing = nothing
chain-weaker each (then {l = l} kind from rest) = then (each l kind) from (chain-weaker each rest)

-- what a chain of these links is, by the list
abbrev pub ChainView : (Link → Type 0) → List Link → ℕ → ℕ → Cost → Type 0
ChainView IsKind [] x z c = (x ≡ z) × (zero_cost ≡ c)
ChainView IsKind (l ∷ ls) x z c = (d : Cost) × IsKind l × (l.from ≡ x) × Chain IsKind ls l.to z d × (l.cost ⊕ d ≡ c)

-- and each chain is that
pub chain-view : {IsKind : Link → Type 0} {ls : List Link} {x z : ℕ} {c : Cost} → Chain IsKind ls x z c → ChainView IsKind ls x z c
chain-view nothing = (refl, refl)
chain-view (then {d = d} kind from rest) = (d, kind, from, rest, refl)
