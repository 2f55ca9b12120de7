use Rattle.std.proofs.Common.{ℕ, ◌<◌, ◌≤◌, length, slice_index_or}
use Rattle.ch_laws.specs.declared.entry.Entry.{Entry}
use Rattle.test_kit.proofs.rows.rises.Given as goal

-- the entries so far rise
abbrev pub invariant-loop-place : goal.invariant-loop-place
invariant-loop-place l = record {
  begun : 1 ≤ l.place;
  rising : (i j : ℕ) (d : Entry) → i < j → j < l.place → j < length l.entries → (slice_index_or l.entries i d).other < (slice_index_or l.entries j d).other;
}
