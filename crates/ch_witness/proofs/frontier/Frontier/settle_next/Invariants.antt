use Rattle.std.proofs.Common.{ℕ, ◌≡◌}
use Rattle.std.specs.BinaryHeap.{heap_len}
use Rattle.ch_witness.specs.Tree.{labels_of}
use Rattle.ch_witness.proofs.frontier.Frontier.settle_next.Given as goal

-- no label was written
abbrev pub invariant-entries : goal.invariant-entries
invariant-entries l = (v : ℕ) → labels_of l.self v ≡ labels_of l.initial.self v

abbrev pub decreases-entries : goal.decreases-entries
decreases-entries l = heap_len l.self.queue
