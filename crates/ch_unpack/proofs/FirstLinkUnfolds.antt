-- The arcs that links at places represent, when the first of the links is unfolded.
use Rattle.std.proofs.Common.{ℕ, ◌≡◌, ◌<◌, ◌≤◌, List, [], ◌∷◌, ◌++◌, length, map, None, Contains, get_or, arith, ap, subst, sym, refl, ◌∙◌, append_assoc, length-append}
use Rattle.std.specs.List.{AllZip}
use Rattle.std.proofs.lemmas.List.{get_or_default}
use Rattle.std.proofs.lemmas.Option.{slice_get_within, slice_get-get_or, get_or_from_slice_get}
use Rattle.ch_graph.specs.declared.link.Link.{Link}
use Rattle.ch_graph.specs.declared.hierarchy.LinkId.{LinkId}
use Rattle.ch_graph.specs.declared.link_halves.Parts.{Parts}
use Rattle.ch_graph.specs.declared.link_halves.Parts.TheVariants.{Arc, Shortcut}
use Rattle.ch_graph.specs.Hierarchy.{Hierarchy, IsLink, IsLinkAt, IsWellMade, Unfolds, Unfolds.whole, Unfolds.halves, UnfoldsAll, UnfoldsAll.done, UnfoldsAll.more}
use Rattle.ch_graph.specs.LinkHalves.{ArePartsOf, AreHalvesAt}
use Rattle.ch_graph.specs.Unfolding.{IsAt, LinksUnfold}
use Rattle.ch_unpack.specs.Unpacking.{Unfolded}

-- the nodes that arcs come to
abbrev pub heads : List Link → List ℕ
heads arcs = map (λ (l : Link). l.to) arcs

-- The link at the first place unfolds to the first of the arcs, and those at the others to the rest.
pub record First (h : Hierarchy) (place : LinkId) (places : List LinkId) (arcs : List Link) : Type 0 where
  pub link : Link
  pub us : List Link
  pub vs : List Link
  pub is : IsAt h place link
  pub unfolds : Unfolds h link us
  pub others : Unfolded h places vs
  pub parts : arcs ≡ us ++ vs

first_of : (h : Hierarchy) (place : LinkId) (places : List LinkId) {links arcs : List Link} → AllZip (IsAt h) (place ∷ places) links → UnfoldsAll h links arcs → First h place places arcs
first_of h place places are done = absurd are
first_of h place places are (more {l = l} {ls = ls} {us = us} {vs = vs} unfolds rest) = record {
  link = l;
  us = us;
  vs = vs;
  is = are.0;
  unfolds = unfolds;
  others = record { links = ls; are_at = are.1; unfolds = rest };
  parts = refl;
}

pub first : (h : Hierarchy) (place : LinkId) (places : List LinkId) (arcs : List Link) → Unfolded h (place ∷ places) arcs → First h place places arcs
first h place places arcs all = first_of h place places all.are_at all.unfolds

-- a link before links that unfold
pub before : (h : Hierarchy) (place : LinkId) (places : List LinkId) (l : Link) (us vs : List Link) → IsAt h place l → Unfolds h l us → Unfolded h places vs → Unfolded h (place ∷ places) (us ++ vs)
before h place places l us vs is unfolds others = record { links = l ∷ others.links; are_at = (is, others.are_at); unfolds = more unfolds others.unfolds }

pub within : (h : Hierarchy) (place : LinkId) (places : List LinkId) (arcs : List Link) → Unfolded h (place ∷ places) arcs → place.0 < length h.links
within h place places arcs all = let this : First h place places arcs = first h place places arcs all in slice_get_within h.links place.0 this.link this.is

-- the link at a place is one of the links
pub among_links : (h : Hierarchy) (place : LinkId) (l : Link) → IsAt h place l → Contains h.links l
among_links h place l is = (place.0, slice_get_within h.links place.0 l is, get_or_from_slice_get h.links place.0 l l is)

-- what is said of the link at a place by any default is said of that link
told : (h : Hierarchy) (place : LinkId) (l : Link) (parts : Parts) → IsAt h place l → ((d : Link) → ArePartsOf h.links (get_or h.links place.0 d) parts) → ArePartsOf h.links l parts
told h place l parts is are = subst (λ (k : Link). ArePartsOf h.links k parts) (get_or_from_slice_get h.links place.0 l l is) (are l)

-- An arc stays as it is, and a shortcut is its halves

only_itself : (h : Hierarchy) {l : Link} {us : List Link} → Unfolds h l us → l.middle ≡ None → us ≡ l ∷ []
only_itself h (whole none_is) e = refl
only_itself h (halves middle_is first second left right) e = absurd (cc)

-- the link that is read at a place
found : (h : Hierarchy) (x y : ℕ) (place : LinkId) (d : Link) → IsLinkAt h.links x y place.0 → IsLink h x y (get_or h.links place.0 d)
found h x y place d at = record { among = (place.0, at.within, get_or_default h.links place.0 (get_or h.links place.0 d) d at.within); from = at.from d; to = at.to d }

-- an arc to this node is the first of the arcs
pub record Passed (h : Hierarchy) (to : ℕ) (places : List LinkId) (arcs : List Link) : Type 0 where
  pub rest : List Link
  pub unfolded : Unfolded h places rest
  pub route : heads arcs ≡ to ∷ heads rest

pub pass : (h : Hierarchy) (place : LinkId) (places : List LinkId) (arcs : List Link) (to : ℕ) → Unfolded h (place ∷ places) arcs → ((d : Link) → ArePartsOf h.links (get_or h.links place.0 d) (Arc to)) → Passed h to places arcs
pass h place places arcs to all are =
    let this : First h place places arcs = first h place places arcs all in
    let arc = told h place this.link (Arc to) this.is are in
    let itself : this.us ≡ this.link ∷ [] = only_itself h this.unfolds arc.0 in
    record {
      rest = this.vs;
      unfolded = this.others;
      route = ap heads (this.parts ∙ ap (λ (us : List Link). us ++ this.vs) itself) ∙ ap (λ n. n ∷ heads this.vs) arc.1;
    }

-- the same arcs come from the halves in place of a shortcut, since it unfolds to one list alone
pub split : LinksUnfold → (h : Hierarchy) → IsWellMade h → (place : LinkId) (places : List LinkId) (arcs : List Link) (one two : LinkId) → Unfolded h (place ∷ places) arcs → ((d : Link) → ArePartsOf h.links (get_or h.links place.0 d) (Shortcut one two)) → Unfolded h (one ∷ two ∷ places) arcs
split law h made place places arcs one two all are =
    let this : First h place places arcs = first h place places arcs all in
    let l : Link = this.link in
    let at : AreHalvesAt h.links l one two = told h place l (Shortcut one two) this.is are in
    let a : Link = get_or h.links one.0 l in
    let b : Link = get_or h.links two.0 l in
    let a_is : IsLink h l.from at.middle a = found h l.from at.middle one l at.first_at in
    let b_is : IsLink h at.middle l.to b = found h at.middle l.to two l at.second_at in
    let left = law h a made a_is.among in
    let right = law h b made b_is.among in
    let only = (law h l made (among_links h place l this.is)).2 in
    let same : this.us ≡ left.0 ++ right.0 = only this.us this.unfolds ∙ sym (only (left.0 ++ right.0) (halves at.by_way a_is b_is left.1 right.1)) in
    let behind : Unfolded h (two ∷ places) (right.0 ++ this.vs) = before h two places b right.0 this.vs (slice_get-get_or h.links two.0 l at.second_at.within) right.1 this.others in
    let whole_way : Unfolded h (one ∷ two ∷ places) (left.0 ++ (right.0 ++ this.vs)) = before h one (two ∷ places) a left.0 (right.0 ++ this.vs) (slice_get-get_or h.links one.0 l at.first_at.within) left.1 behind in
    subst (λ (xs : List Link). Unfolded h (one ∷ two ∷ places) xs) (sym (this.parts ∙ ap (λ (us : List Link). us ++ this.vs) same ∙ append_assoc left.0 right.0 this.vs)) whole_way

no_arcs : (h : Hierarchy) {links arcs : List Link} → AllZip (IsAt h) [] links → UnfoldsAll h links arcs → arcs ≡ []
no_arcs h are done = refl
no_arcs h are (more unfolds rest) = absurd are

-- no link unfolds to no arc
pub nothing_left : (h : Hierarchy) (arcs : List Link) → Unfolded h [] arcs → arcs ≡ []
nothing_left h arcs all = no_arcs h all.are_at all.unfolds

-- a link unfolds to one arc or more
some_arc : (h : Hierarchy) {l : Link} {us : List Link} → Unfolds h l us → 0 < length us
some_arc h (whole none_is) = omega arith
some_arc h (halves {ls = ls} {rs = rs} middle_is first second left right) = omega (arith, some_arc h left, length-append ls rs)

-- there are as many arcs as links, or more
pub places_at_most_arcs : (h : Hierarchy) (places : List LinkId) (arcs : List Link) → Unfolded h places arcs → length places ≤ length arcs
places_at_most_arcs h [] arcs all = omega arith
places_at_most_arcs h (place ∷ places) arcs all =
    let this : First h place places arcs = first h place places arcs all in
    omega (arith, places_at_most_arcs h places this.vs this.others, some_arc h this.unfolds, ap (λ (k : List Link). length k) this.parts, length-append this.us this.vs)
