use Rattle.std.proofs.Common.{ℕ, ◌<◌}
use Rattle.ch_graph.specs.Checking.{IsWellMadeAt}
use Rattle.ch_graph.proofs.checking.first_bad_link.Given as goal

abbrev pub invariant-links : goal.invariant-links
invariant-links l = (k : ℕ) → k < l.place → IsWellMadeAt (record { version = l.version; ranks = l.ranks; links = l.links; bound = l.bound }) k
