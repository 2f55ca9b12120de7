use Rattle.std.proofs.Common.{List, None, get_or}
use Rattle.std.proofs.lemmas.Option.{slice_get-get_or}
use Rattle.ch_cost.specs.Cost.{zero_cost}
use Rattle.ch_graph.specs.declared.link.Link.{Link}
use Rattle.test_files.proofs.checked.route.Goals as goal

-- a link that was found leaves the node that it was looked for from
pub unpack-requires-clause-joined : goal.unpack-requires-clause-joined
unpack-requires-clause-joined c =
    let links : List Link = c.args.hierarchy.now.links in
    let place = c.in_ok-link.link.0 in
    let at = c.in_ok-link.ensures.found in
    let some : Link = record { from = 0; to = 0; cost = zero_cost; middle = None } in
    (get_or links place some, slice_get-get_or links place some at.within, at.from some, tt)
