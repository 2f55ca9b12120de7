-- The laws on links named by their places: there are no two lists of them, and the links of a walk join.
use Rattle.std.proofs.Common.{ℕ, ◌≡◌, List, [], ◌∷◌, ◌++◌, Some, ap, subst, sym, refl, ◌∙◌}
use Rattle.ch_cost.specs.declared.cost.Cost.{Cost}
use Rattle.ch_cost.specs.Cost.{◌⊕◌}
use Rattle.ch_graph.specs.declared.link.Link.{Link}
use Rattle.ch_graph.specs.declared.hierarchy.LinkId.{LinkId}
use Rattle.ch_graph.specs.Hierarchy.{Hierarchy, Chain, Chain.nothing, Chain.then}
use Rattle.ch_graph.specs.Unfolding.{AreAt, Joined, PlacesNameLinks, RiseFallJoins}
use Rattle.ch_graph.specs.Hierarchy.Chains.{chain-join}

pub same_links : PlacesNameLinks
same_links h [] [] [] are also = refl
same_links h [] [] (k ∷ ks) are also = absurd also
same_links h [] (l ∷ ls) ks are also = absurd are
same_links h (place ∷ places) [] ks are also = absurd are
same_links h (place ∷ places) (l ∷ ls) [] are also = absurd also
same_links h (place ∷ places) (l ∷ ls) (k ∷ ks) are also =
    let same : Some l ≡ Some k = sym are.0 ∙ also.0 in
    let head : l ≡ k = cc in
    ap (λ (j : Link). j ∷ ls) head ∙ ap (λ (js : List Link). k ∷ js) (same_links h places ls ks are.1 also.1)

-- links of some kind that join are links that join
any_kind : {IsKind : Link → Type 0} {ls : List Link} {x z : ℕ} {c : Cost} → Chain IsKind ls x z c → Chain (λ l. Unit {0}) ls x z c
any_kind nothing = nothing
any_kind (then kind from rest) = then tt from (any_kind rest)

joined-from_chain : (h : Hierarchy) {IsKind : Link → Type 0} (places : List LinkId) {ls : List Link} {x z : ℕ} {c : Cost} → AreAt h places ls → Chain IsKind ls x z c → Joined h x places
joined-from_chain h [] are chain = tt
joined-from_chain h (place ∷ places) are nothing = absurd are
joined-from_chain h (place ∷ places) are (then {l = l} kind from rest) = (l, are.0, from, joined-from_chain h places are.1 rest)

pub rise_fall-joined : RiseFallJoins
rise_fall-joined h places ls s t c are walk =
    let chain : Chain (λ l. Unit {0}) (walk.rise ++ walk.fall) s t (walk.up ⊕ walk.down) = chain-join (any_kind walk.rises) (any_kind walk.falls) in
    joined-from_chain h places (subst (λ (ks : List Link). AreAt h places ks) walk.parts are) chain
