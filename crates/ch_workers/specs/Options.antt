-- The options with which workers contract the nodes of a graph.
use Rattle.std.specs.Prelude.{ℕ, ◌≡◌, ◌*◌, ◌<◌, ◌≤◌, ◌^◌}
use Rattle.ch_multiqueue.specs.Passes.{Queue}
use Rattle.ch_workers.specs.declared.options.Options.{Options}

-- from the least to the greatest
pub record IsFrom (least greatest n : ℕ) : Type 0 where
  pub above : least ≤ n
  pub below : n ≤ greatest

-- The queue in which nodes wait for the workers: `heaps` heaps for each of them, a pass for each, and the seed of their
-- draws.
abbrev pub queue_of : Options → Queue
queue_of o = record { heaps = o.workers * o.heaps; passes = o.workers; seed = o.seed }

-- each number is in its range, and there is a list for each worker
pub record AreGood (o : Options) (lists : ℕ) : Type 0 where
  pub workers : o.workers ≤ 64
  pub heaps : IsFrom 1 4 o.heaps
  pub settle : IsFrom 1 (2 ^ 16) o.settle
  pub defer : o.defer < 2 ^ 16
  pub turns : IsFrom 1 (2 ^ 40) o.turns
  pub stint : IsFrom 1 (2 ^ 40) o.stint
  pub a_list_each : lists ≡ o.workers

-- a number is outside its range, or there isn't a list for each worker
abbrev pub AreBad : Options → ℕ → Type 0
AreBad o lists = AreGood o lists → ⊥
