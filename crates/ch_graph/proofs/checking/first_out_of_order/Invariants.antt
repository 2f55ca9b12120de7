use Rattle.std.proofs.Common.{ℕ, ◌+◌, ◌<◌, get_or}
use Rattle.ch_graph.specs.declared.link.Link.{Link}
use Rattle.ch_graph.specs.Hierarchy.{ComesBefore}
use Rattle.ch_graph.proofs.checking.first_out_of_order.Given as goal

abbrev pub invariant-links : goal.invariant-links
invariant-links l = (k : ℕ) (d : Link) → k + 1 < l.place → ComesBefore (get_or l.links k d) (get_or l.links (k + 1) d)
