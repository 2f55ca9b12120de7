use Rattle.std.proofs.Common.{◌<◌, ◌≤◌, ℕ, length, get_or}
use Rattle.ch_graph.specs.declared.link.Link.{Link}
use Rattle.ch_graph.proofs.link_index.first_from.Given as goal

abbrev pub invariant-links : goal.invariant-links
invariant-links l = (l.place ≤ length l.links) × ((k : ℕ) (d : Link) → k < l.place → (get_or l.links k d).from < l.node)
