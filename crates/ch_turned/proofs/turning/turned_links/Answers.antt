use Rattle.std.proofs.Common.{List, subst}
use Rattle.std.specs.List.Sorted.{IsPermutation}
use Rattle.ch_graph.specs.declared.link.Link.{Link}
use Rattle.ch_turned.proofs.Ordered.{in_order}
use Rattle.ch_turned.proofs.turning.turned_links.Goals as goal

pub returns-clause-order : goal.returns-clause-order
returns-clause-order c =
    in_order c.args.links.now c.sorted.result.items c.requires (subst (λ (ls : List Link). IsPermutation ls c.sorted.result.items) c.in_ok-turned.ensures c.sorted.ensures.all) c.sorted.ensures.sorted
