use Rattle.std.proofs.Common.{ap, subst, sym, get_or, List, ◌∙◌, None, ◌<◌, length}
use Rattle.std.proofs.lemmas.List.{get_or_default}
use Rattle.ch_cost.specs.Cost.{zero_cost}
use Rattle.ch_graph.specs.declared.link.Link.{Link}
use Rattle.ch_query.proofs.place.link_at.Goals as goal

pub returns : goal.returns
returns c =
    let within : c.args.at < length c.links.result.now = subst (λ (ls : List Link). c.args.at < length ls) (sym c.links.ensures.links) c.requires in
    c.index-links-at.is ∙ get_or_default c.links.result.now c.args.at _ (record { from = 0; to = 0; cost = zero_cost; middle = None }) within ∙ ap (λ (ls : List Link). get_or ls c.args.at (record { from = 0; to = 0; cost = zero_cost; middle = None })) c.links.ensures.links
