use Rattle.std.proofs.Common.{◌≡◌, slice_index_or, subst, sym, ◌∙◌}
use Rattle.ch_graph.specs.declared.link.Link.{Link}
use Rattle.ch_graph.specs.Hierarchy.{Hierarchy, IsWellMade}
use Rattle.ch_graph.proofs.LinkPlaces.{first_is_there, second_is_there}
use Rattle.ch_graph.proofs.hierarchy.Hierarchy.find_parts.Goals as goal

pub unreachable-requires : goal.unreachable-requires
unreachable-requires c =
    let made : IsWellMade c.args.self.now = subst IsWellMade c.self.view_is c.self.invariant.0 in
    let link : Link = c.index-link.result.now in
    let is : link ≡ slice_index_or c.args.self.now.links c.args.id.0 link = subst (λ (h : Hierarchy). link ≡ slice_index_or h.links c.args.id.0 link) c.self.view_is c.index-link.ensures in
    first_is_there c.args.self.now made c.args.id.0 link c.requires is c.in-Some.middle (sym c.node.ensures ∙ c.in-Some.is) c.in_default-find.ensures.none

pub unreachable-requires-in_default-find-2 : goal.unreachable-requires-in_default-find-2
unreachable-requires-in_default-find-2 c =
    let made : IsWellMade c.args.self.now = subst IsWellMade c.self.view_is c.self.invariant.0 in
    let link : Link = c.index-link.result.now in
    let is : link ≡ slice_index_or c.args.self.now.links c.args.id.0 link = subst (λ (h : Hierarchy). link ≡ slice_index_or h.links c.args.id.0 link) c.self.view_is c.index-link.ensures in
    second_is_there c.args.self.now made c.args.id.0 link c.requires is c.in-Some.middle (sym c.node.ensures ∙ c.in-Some.is) c.in_default-find-2.ensures.none
