use Rattle.std.proofs.Common.{List, None, get_or, sym, ◌∙◌}
use Rattle.std.proofs.lemmas.Option.{slice_get-get_or}
use Rattle.ch_cost.specs.Cost.{zero_cost}
use Rattle.ch_graph.specs.declared.link.Link.{Link}
use Rattle.test_files.proofs.routes.route_over.Goals as goal

-- links that were found leave the nodes that they were looked for from, and the second leaves where the first ends
pub unpack-requires-clause-joined : goal.unpack-requires-clause-joined
unpack-requires-clause-joined c =
    let links : List Link = c.args.hierarchy.now.links in
    let there = c.in_ok-there.there.0 in
    let on = c.in_ok-on.on.0 in
    let first = c.in_ok-there.ensures.found in
    let second = c.in_ok-on.ensures.found in
    let some : Link = record { from = 0; to = 0; cost = zero_cost; middle = None } in (
      get_or links there some,
      slice_get-get_or links there some first.within,
      first.from some,
      (get_or links on some, slice_get-get_or links on some second.within, second.from some ∙ sym (first.to some), tt),
    )
