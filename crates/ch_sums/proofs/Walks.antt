-- A rise-fall walk has few links, which are links of the hierarchy.
use Rattle.std.proofs.Common.{ℕ, ◌≡◌, ◌+◌, ◌<◌, ◌≤◌, ◌^◌, List, [], ◌∷◌, length, length-append, All, ap, ◌∙◌, arith}
use Rattle.std.proofs.lemmas.List.Elements.{All-nil, All-cons, All-contains}
use Rattle.std.proofs.lemmas.Option.{slice_get_within}
use Rattle.ch_cost.specs.declared.cost.Cost.{Cost}
use Rattle.ch_graph.specs.declared.link.Link.{Link}
use Rattle.ch_graph.specs.declared.hierarchy.LinkId.{LinkId}
use Rattle.ch_graph.specs.Hierarchy.{Hierarchy, Chain, Chain.nothing, Chain.then, IsRising, IsFalling, IsLinkWellMade, IsWellMade, rank_of}
use Rattle.ch_graph.specs.Unfolding.{AreAt}
use Rattle.ch_query.specs.Places.{IsRiseFallAt}

rank-in : {h : Hierarchy} → IsWellMade h → {x : ℕ} → x < length h.ranks → rank_of h x < length h.ranks
rank-in made {x} low = made.in_range x 0 low

module _ {h : Hierarchy} (made : IsWellMade h) where
  made-link : {l : Link} → (rising : IsRising h l) → IsLinkWellMade h l
  made-link {l} rising = All-contains (IsLinkWellMade h) h.links l made.links rising.among

  rise-few : {links : List Link} {x y : ℕ} {c : Cost} → x < length h.ranks → Chain (IsRising h) links x y c → (rank_of h x + length links ≤ rank_of h y) × (y < length h.ranks)
  rise-few low (nothing {x = x}) = (omega arith, low)
  rise-few low (then {l = l} {x = x} kind from rest) =
      let own = made-link kind in
      let more = rise-few own.to_in rest in
      let rank : rank_of h l.from ≡ rank_of h x = ap (rank_of h) from in
      (omega (arith, more.0, kind.rises, rank), more.1)

  fall-few : {links : List Link} {x y : ℕ} {c : Cost} → x < length h.ranks → Chain (IsFalling h) links x y c → rank_of h y + length links ≤ rank_of h x
  fall-few low (nothing {x = x}) = omega arith
  fall-few low (then {l = l} {x = x} kind from rest) =
      let own = All-contains (IsLinkWellMade h) h.links l made.links kind.among in
      let more = fall-few own.to_in rest in
      let rank : rank_of h l.from ≡ rank_of h x = ap (rank_of h) from in
      omega (arith, more, kind.falls, rank)

  pub walk-few : {places : List LinkId} {s t : ℕ} {c : Cost} → s < length h.ranks → IsRiseFallAt h places s t c → length places ≤ 2 ^ 26
  walk-few {places} low walk =
      let leads = walk.leads in
      let up = rise-few low leads.rises in
      let down = fall-few up.1 leads.falls in
      let top = rank-in made up.1 in
      let parts : length walk.links ≡ length leads.rise + length leads.fall = ap (λ (ls : List Link). length ls) leads.parts ∙ length-append leads.rise leads.fall in
      omega (arith, up.0, down, top, parts, as-many places walk.links walk.are_at, made.few_nodes)
    where
      as-many : (places : List LinkId) (links : List Link) → AreAt h places links → length places ≡ length links
      as-many [] [] are = omega arith
      as-many [] (l ∷ ls) are = absurd are
      as-many (id ∷ ids) [] are = absurd are
      as-many (id ∷ ids) (l ∷ ls) are = let more = as-many ids ls are.1 in omega (arith, more)

-- the places are those of links
pub places-in : (h : Hierarchy) (places : List LinkId) (links : List Link) → AreAt h places links → All (λ (id : LinkId). id.0 < length h.links) places
places-in h [] links are = All-nil (λ (id : LinkId). id.0 < length h.links)
places-in h (id ∷ ids) [] are = absurd are
places-in h (id ∷ ids) (l ∷ ls) are = All-cons (λ (i : LinkId). i.0 < length h.links) id ids (slice_get_within h.links id.0 l are.0) (places-in h ids ls are.1)
