use Rattle.std.proofs.Common.{◌≡◌, List, length, subst, sym, arith}
use Rattle.ch_graph.specs.declared.link.Link.{Link}
use Rattle.ch_graph.specs.declared.link_halves.KeptHalves.{KeptHalves}
use Rattle.ch_graph.specs.LinkHalves.{AreHalvesOf}
use Rattle.ch_graph.proofs.LinkPlaces.{one_more}
use Rattle.ch_graph.proofs.link_halves.LinkHalves.keep.Goals as goal

pub returns-in_ok-push : goal.returns-in_ok-push
returns-in_ok-push c = λ (links : List Link) are found.
    let kept : List KeptHalves = c.self.inside.kept.items in
    let before : AreHalvesOf links kept = subst (AreHalvesOf links) (sym c.self.view_is) are in
    let count : length kept ≡ c.args.id.0 = omega (arith, c.if-id-len.false, c.len.ensures, c.self.inside.kept.ok) in
    subst (AreHalvesOf links) (sym c.in_ok-push.ensures.items) (one_more c.in-Some.kept count before found c.in-Some.ensures)
