use Rattle.std.proofs.Common.{◌≡◌, ◌≤◌, vec_len}
use Rattle.std.specs.Vec.{vec_capacity}
use Rattle.ch_multiqueue.proofs.multi_queue.MultiQueue.new.Given as goal

-- there is a lock for each heap so far, and room for all of them
abbrev pub invariant-heaps : goal.invariant-heaps
invariant-heaps l = record {
  made : vec_len l.locks ≡ l.counter;
  room : l.heaps ≤ vec_capacity l.locks;
}
