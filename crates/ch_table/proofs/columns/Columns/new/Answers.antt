use Rattle.std.proofs.Common.{ℕ, ◌≡◌, ◌<◌, ◌∙◌, List, length, get_or, slice_index, ap, sym, subst, arith, rules}
use Rattle.std.proofs.lemmas.List.Elements.{All-contains}
use Rattle.ch_graph.specs.Hierarchy.{Hierarchy}
use Rattle.ch_table.specs.Selection.{AreEnds, ArePlaced}
use Rattle.ch_table.specs.Laying.{ArePlacesOf}
use Rattle.ch_table.proofs.LayingDown.{selection-is}
use Rattle.ch_table.proofs.Ordered.{placed-among}
use Rattle.ch_table.proofs.columns.Columns.new.Goals as goal

pub ranks_to_places-requires-clause-ranks : goal.ranks_to_places-requires-clause-ranks
ranks_to_places-requires-clause-ranks g c k d low =
    let ranks = c.in_ok-ranks.field-0.ranks.items in
    let tails = c.in_ok-ranks.field-0.steps.tails.items in
    let nodes : c.nodes-nodes.result ≡ length c.args.search.now.ranks = c.nodes-nodes.ensures.count ∙ ap (λ (h : Hierarchy). length h.ranks) c.hierarchy-hierarchy.ensures in
    let rank_in : get_or tails k d < length c.args.search.now.ranks = All-contains (λ r. r < length c.args.search.now.ranks) ranks (get_or tails k d) c.in_ok-ranks.ensures.above.in_range (c.in_ok-ranks.ensures.closed k d low) in
    omega (arith, rank_in, nodes, c.in_ok-places.ensures.count, ap (λ (xs : List ℕ). length xs) c.deref-4.ensures.value)

pub ranks_to_places-requires-clause-placed : goal.ranks_to_places-requires-clause-placed
ranks_to_places-requires-clause-placed g c k d low =
    let ranks = c.in_ok-ranks.field-0.ranks.items in
    let tails = c.in_ok-ranks.field-0.steps.tails.items in
    let placed = subst (λ (rs : List ℕ). ArePlaced c.nodes-nodes.result rs c.in_ok-places.places.items) c.deref.ensures.value c.in_ok-places.ensures in
    subst (λ (ps : List ℕ). 0 < slice_index ps (get_or tails k d)) (sym c.deref-4.ensures.value) (placed-among c.nodes-nodes.result ranks c.in_ok-places.places.items placed (get_or tails k d) (c.in_ok-ranks.ensures.closed k d low)).0

pub returns-clause-selection : goal.returns-clause-selection
returns-clause-selection g c =
    let ranks = c.in_ok-ranks.field-0.ranks.items in
    let places = c.in_ok-places.places.items in
    let ends = c.in_ok-ends.ends.items in
    let steps = c.in_ok-ranks.field-0.steps in
    let nodes : c.nodes-nodes.result ≡ length c.args.search.now.ranks = c.nodes-nodes.ensures.count ∙ ap (λ (h : Hierarchy). length h.ranks) c.hierarchy-hierarchy.ensures in
    let placed = subst (λ n. ArePlaced n ranks places) nodes (subst (λ (rs : List ℕ). ArePlaced c.nodes-nodes.result rs places) c.deref.ensures.value c.in_ok-places.ensures) in
    let own = subst (λ (h : Hierarchy). AreEnds h c.args.targets.now ranks ends) c.hierarchy-hierarchy.ensures (subst (λ (rs : List ℕ). AreEnds c.hierarchy-hierarchy.result.now c.args.targets.now rs ends) c.deref-2.ensures.value c.in_ok-ends.ensures) in
    let found = subst (λ (ts : List ℕ). ArePlacesOf places steps.tails.items ts) (sym c.in_ok-links.ensures.tails) (subst (λ (ps : List ℕ). ArePlacesOf ps steps.tails.items c.ranks_to_places.new.self.tails.items) c.deref-4.ensures.value c.ranks_to_places.ensures.tails) in
    let kept : c.extend_from_slice.new.self.items ≡ c.args.targets.now = search rules in
    selection-is c.args.search.now c.args.targets.now steps.first.items steps.tails.items steps.lengths.items c.in_ok-ranks.ensures placed own found kept (c.in_ok-links.ensures.first ∙ c.ranks_to_places.ensures.first) (c.in_ok-links.ensures.lengths ∙ c.ranks_to_places.ensures.lengths)
