use Rattle.std.proofs.Common.{◌<◌, ℕ}
use Rattle.ch_graph.specs.LinkIndex.{IsHeadAt}
use Rattle.ch_graph.proofs.link_index.find_head.Given as goal

abbrev pub invariant-links : goal.invariant-links
invariant-links l = (k : ℕ) → k < l.place → IsHeadAt l.links l.to k → ⊥
