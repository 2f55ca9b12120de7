use Rattle.std.proofs.Common.{List, map, sym, subst, ◌∙◌}
use Rattle.std.specs.List.Sorted.{IsPermutation}
use Rattle.ch_graph.specs.declared.link.Link.{Link}
use Rattle.ch_graph.specs.Hierarchy.{Hierarchy, hierarchy_of}
use Rattle.ch_turned.specs.Turned.{IsTurned, turned_link}
use Rattle.ch_turned.proofs.Ordered.{turned_of}
use Rattle.ch_turned.proofs.turning.turn.Goals as goal

pub with_index-turned-requires-clause-made : goal.with_index-turned-requires-clause-made
with_index-turned-requires-clause-made c =
    let h = c.args.hierarchy.now in
    let moved = subst (λ (ls : List Link). IsPermutation (map turned_link ls) c.in_ok-links.links.items) c.links.ensures.links c.in_ok-links.ensures.all in
    let turned = turned_of h c.version_of.result c.in_ok-ranks.ranks.items c.in_ok-links.links.items c.bound.result c.version_of.ensures c.in_ok-ranks.ensures moved c.bound.ensures in
    c.turned_is_well_made.ensures h (hierarchy_of c.version_of.result c.in_ok-ranks.ranks.items c.in_ok-links.links.items c.bound.result) turned c.in_ok-links.ensures.order c.links.ensures.made

pub returns : goal.returns
returns c =
    let h = c.args.hierarchy.now in
    let moved = subst (λ (ls : List Link). IsPermutation (map turned_link ls) c.in_ok-links.links.items) c.links.ensures.links c.in_ok-links.ensures.all in
    let turned = turned_of h c.version_of.result c.in_ok-ranks.ranks.items c.in_ok-links.links.items c.bound.result c.version_of.ensures c.in_ok-ranks.ensures moved c.bound.ensures in
    subst (λ (t : Hierarchy). IsTurned h t) (sym (c.in_ok-indexed.ensures ∙ c.with_index-turned.ensures)) turned
