use Rattle.std.proofs.Common.{ℕ, ◌≡◌, ◌<◌, length, slice_index}
use Rattle.ch_witness.specs.Tree.{labels_of, seen_of}
use Rattle.ch_witness.specs.Ways.{IsWayOf, way_at}
use Rattle.ch_witness.proofs.searcher.ways_to.Given as goal

-- the targets so far have their ways
abbrev pub invariant-targets : goal.invariant-targets
invariant-targets l = record {
  many : length l.ways.items ≡ l.target-index;
  ways : (k : ℕ) → k < l.target-index → IsWayOf (seen_of l.fn.tree.steps.items) l.fn.rule.avoid l.fn.rule.from (slice_index l.fn.targets k) (labels_of l.fn.tree.frontier (slice_index l.fn.targets k)) (way_at l.ways.items k);
}
