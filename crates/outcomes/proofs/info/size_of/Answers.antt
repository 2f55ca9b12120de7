use Rattle.std.proofs.Common.{List, ap, length, ◌∙◌}
use Rattle.ch_graph.specs.declared.link.Link.{Link}
use Rattle.outcomes.proofs.FileSize.{size}
use Rattle.outcomes.proofs.info.size_of.Goals as goal

pub returns : goal.returns
returns c =
    size c.args.hierarchy.now (c.from-ranks.ensures ∙ c.nodes.ensures.count)
    (c.from-version.ensures ∙ c.version.ensures) (ap (λ (l : List Link). length l) c.links.ensures.links)
