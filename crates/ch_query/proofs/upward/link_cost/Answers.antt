use Rattle.std.proofs.Common.{◌∙◌, ap}
use Rattle.ch_graph.specs.declared.link.Link.{Link}
use Rattle.ch_query.specs.Climb.{cost_at}
use Rattle.ch_query.proofs.upward.link_cost.Goals as goal

pub returns : goal.returns
returns c = c.cost.ensures ∙ ap (λ (l : Link). l.cost) c.link_at.ensures ∙ ap (λ k. cost_at c.args.hierarchy.now k) c.get.ensures
