-- A route on its way from links to arcs.
use Rattle.std.proofs.Common.{ℕ, ◌≡◌, ◌+◌, ◌<◌, ◌≤◌, List, [], ◌∷◌, ◌++◌, length, reverse, get_or, arith, ap, subst, sym, refl, ◌∙◌, append_assoc, append-nil, length-append}
use Rattle.std.proofs.lemmas.List.{length-map, length-reverse, reverse-append, reverse-reverse}
use Rattle.ch_graph.specs.declared.link.Link.{Link}
use Rattle.ch_graph.specs.declared.hierarchy.LinkId.{LinkId}
use Rattle.ch_graph.specs.declared.link_halves.Parts.TheVariants.{Arc, Shortcut}
use Rattle.ch_graph.specs.Hierarchy.{Hierarchy, IsWellMade, UnfoldsAll.done}
use Rattle.ch_graph.specs.LinkHalves.{ArePartsOf}
use Rattle.ch_graph.specs.Unfolding.{Joined, LinksUnfold}
use Rattle.ch_unpack.specs.Unpacking.{Unfolded, IsUnpacked, IsTooLong}
use Rattle.ch_unpack.proofs.FirstLinkUnfolds.{heads, among_links, before, within, Passed, pass, split, nothing_left, places_at_most_arcs}

-- The links of the route unfold to arcs. Their heads are the nodes so far and those of the rest, to which the links
-- ahead unfold, the nearest of them last.
pub record IsUnderWay (h : Hierarchy) (source : ℕ) (places : List LinkId) (nodes : List ℕ) (ahead : List LinkId) : Type 0 where
  pub arcs : List Link
  pub unfolded : Unfolded h places arcs
  pub rest : List Link
  pub leads : Unfolded h (reverse ahead) rest
  pub route : nodes ++ heads rest ≡ source ∷ heads arcs

-- The links that join

-- links that join unfold
record JoinedArcs (h : Hierarchy) (places : List LinkId) : Type 0 where
  pub arcs : List Link
  pub unfolded : Unfolded h places arcs

joined_arcs : LinksUnfold → (h : Hierarchy) → IsWellMade h → (x : ℕ) (places : List LinkId) → Joined h x places → JoinedArcs h places
joined_arcs law h made x [] joined = record { arcs = []; unfolded = record { links = []; are_at = tt; unfolds = done } }
joined_arcs law h made x (place ∷ places) joined =
    let l : Link = joined.0 in
    let this = law h l made (among_links h place l joined.1) in
    let others : JoinedArcs h places = joined_arcs law h made l.to places joined.3 in
    record { arcs = this.0 ++ others.arcs; unfolded = before h place places l this.0 others.arcs joined.1 this.1 others.unfolded }

-- The route from its first node to its last

module _ {h : Hierarchy} {source : ℕ} {places : List LinkId} where
  pub set_out : LinksUnfold → IsWellMade h → {nodes : List ℕ} {ahead : List LinkId} → Joined h source places → nodes ≡ source ∷ [] → reverse ahead ≡ places → IsUnderWay h source places nodes ahead
  set_out law made joined nodes_are ahead_is =
      let all : JoinedArcs h places = joined_arcs law h made source places joined in
      record {
        arcs = all.arcs;
        unfolded = all.unfolded;
        rest = all.arcs;
        leads = subst (λ (ps : List LinkId). Unfolded h ps all.arcs) (sym ahead_is) all.unfolded;
        route = ap (λ (xs : List ℕ). xs ++ heads all.arcs) nodes_are;
      }

  -- the links ahead, the nearest first
  nearest_first : {nodes : List ℕ} (next : LinkId) (left : List LinkId) {ahead : List LinkId} → (way : IsUnderWay h source places nodes ahead) → ahead ≡ left ++ next ∷ [] → Unfolded h (next ∷ reverse left) way.rest
  nearest_first next left way ahead_is =
      subst (λ (ps : List LinkId). Unfolded h ps way.rest) (ap (λ (ps : List LinkId). reverse ps) ahead_is ∙ reverse-append left (next ∷ [])) way.leads

  pub next_within : {nodes : List ℕ} (next : LinkId) (left : List LinkId) {ahead : List LinkId} → IsUnderWay h source places nodes ahead → ahead ≡ left ++ next ∷ [] → next.0 < length h.links
  next_within next left way ahead_is = within h next (reverse left) way.rest (nearest_first next left way ahead_is)

  -- an arc leads to its head
  pub pass_on : {nodes : List ℕ} (next : LinkId) (to : ℕ) (left : List LinkId) {ahead : List LinkId} → IsUnderWay h source places nodes ahead → ahead ≡ left ++ next ∷ [] → ((d : Link) → ArePartsOf h.links (get_or h.links next.0 d) (Arc to)) → IsUnderWay h source places (nodes ++ to ∷ []) left
  pass_on {nodes = nodes} next to left way ahead_is are =
      let passed : Passed h to (reverse left) way.rest = pass h next (reverse left) way.rest to (nearest_first next left way ahead_is) are in
      record {
        arcs = way.arcs;
        unfolded = way.unfolded;
        rest = passed.rest;
        leads = passed.unfolded;
        route = append_assoc nodes (to ∷ []) (heads passed.rest) ∙ ap (λ (ys : List ℕ). nodes ++ ys) (sym passed.route) ∙ way.route;
      }

  -- a shortcut is gone along by its halves
  pub turn_off : {nodes : List ℕ} (next : LinkId) (one two : LinkId) (left : List LinkId) {ahead : List LinkId} → LinksUnfold → IsWellMade h
      → IsUnderWay h source places nodes ahead → ahead ≡ left ++ next ∷ [] → ((d : Link) → ArePartsOf h.links (get_or h.links next.0 d) (Shortcut one two)) → IsUnderWay h source places nodes ((left ++ two ∷ []) ++ one ∷ [])
  turn_off next one two left law made way ahead_is are =
      let turned : reverse ((left ++ two ∷ []) ++ one ∷ []) ≡ one ∷ two ∷ reverse left = reverse-append (left ++ two ∷ []) (one ∷ []) ∙ ap (λ (ps : List LinkId). one ∷ ps) (reverse-append left (two ∷ [])) in
      let by_halves : Unfolded h (one ∷ two ∷ reverse left) way.rest = split law h made next (reverse left) way.rest one two (nearest_first next left way ahead_is) are in
      record {
        arcs = way.arcs;
        unfolded = way.unfolded;
        rest = way.rest;
        leads = subst (λ (ps : List LinkId). Unfolded h ps way.rest) (sym turned) by_halves;
        route = way.route;
      }

  -- the arcs are one fewer than the nodes so far and those of the rest
  count : {nodes : List ℕ} {ahead : List LinkId} (way : IsUnderWay h source places nodes ahead) → length nodes + length way.rest ≡ length way.arcs + 1
  count {nodes = nodes} way = omega (arith, ap (λ (ys : List ℕ). length ys) way.route, length-append nodes (heads way.rest), length-map way.rest (λ (l : Link). l.to), length-map way.arcs (λ (l : Link). l.to))

  -- no link is left
  pub arrive : {nodes : List ℕ} → IsUnderWay h source places nodes [] → length nodes ≤ length h.ranks → IsUnpacked h source places nodes
  arrive {nodes = nodes} way in_room =
      let none : way.rest ≡ [] = nothing_left h way.rest way.leads in
      record {
        arcs = way.arcs;
        unfolded = way.unfolded;
        few = omega (arith, in_room, count way, ap (λ (ys : List Link). length ys) none);
        in_order = sym (append-nil nodes) ∙ ap (λ (ys : List Link). nodes ++ heads ys) (sym none) ∙ way.route;
      }

  -- the nodes so far and the links ahead are more than the hierarchy has nodes
  go_too_far : {nodes : List ℕ} {ahead : List LinkId} → IsUnderWay h source places nodes ahead → source < length h.ranks → length h.ranks < length nodes + length ahead → IsTooLong h places
  go_too_far {ahead = ahead} way some_node far =
      let known : length (reverse ahead) ≤ length way.rest = places_at_most_arcs h (reverse ahead) way.rest way.leads in
      record {
        arcs = way.arcs;
        unfolded = way.unfolded;
        many = omega (arith, known, length-reverse ahead, far, some_node, count way);
      }

  -- there are as many links as nodes
  pub too_many_links : LinksUnfold → IsWellMade h → Joined h source places → source < length h.ranks → length h.ranks ≤ length places → IsTooLong h places
  too_many_links law made joined some_node many =
      let way : IsUnderWay h source places (source ∷ []) (reverse places) = set_out law made joined refl (reverse-reverse places) in
      go_too_far way some_node (omega (arith, many, length-reverse places))

  -- a shortcut leads to one node more than there is room for
  pub no_room : {nodes : List ℕ} (next : LinkId) (one two : LinkId) (left : List LinkId) {ahead : List LinkId} → LinksUnfold → IsWellMade h
      → IsUnderWay h source places nodes ahead → ahead ≡ left ++ next ∷ [] → ((d : Link) → ArePartsOf h.links (get_or h.links next.0 d) (Shortcut one two)) → source < length h.ranks → length h.ranks < length nodes + length left + 2 → IsTooLong h places
  no_room next one two left law made way ahead_is are some_node far =
      go_too_far (turn_off next one two left law made way ahead_is are) some_node (omega (arith, far, length-append (left ++ two ∷ []) (one ∷ []), length-append left (two ∷ [])))
