use Rattle.std.proofs.Common.{◌≡◌, ◌<◌, List, length, get_or, subst, sym}
use Rattle.std.proofs.lemmas.Option.{slice_get_within, get_or_from_slice_get}
use Rattle.ch_graph.specs.declared.link.Link.{Link}
use Rattle.ch_graph.specs.declared.link_halves.Parts.{Parts}
use Rattle.ch_graph.specs.declared.link_halves.KeptHalves.{KeptHalves}
use Rattle.ch_graph.specs.Hierarchy.{Hierarchy}
use Rattle.ch_graph.specs.LinkHalves.{ArePartsOf, AreHalvesOf, parts_in}
use Rattle.ch_graph.proofs.hierarchy.Hierarchy.parts.Goals as goal

pub returns-in-Some : goal.returns-in-Some
returns-in-Some c = λ (d : Link).
    let place = c.args.id.0 in
    let all : List KeptHalves = c.self.inside.halves in
    let kept : KeptHalves = c.in-Some.kept in
    let are : AreHalvesOf c.args.self.now.links all = subst (λ (h : Hierarchy). AreHalvesOf h.links all) c.self.view_is c.self.invariant.2 in
    let got = sym c.in-Some.ensures in
    let within : place < length all = slice_get_within all place kept got in
    let is : get_or all place kept ≡ kept = get_or_from_slice_get all place kept kept got in
    let told : ArePartsOf c.args.self.now.links (get_or c.args.self.now.links place d) (parts_in place kept) = subst (λ (e : KeptHalves). ArePartsOf c.args.self.now.links (get_or c.args.self.now.links place d) (parts_in place e)) is (are.each place d kept within) in
    subst (λ (o : Parts). ArePartsOf c.args.self.now.links (get_or c.args.self.now.links place d) o) (sym c.parts.ensures) told
