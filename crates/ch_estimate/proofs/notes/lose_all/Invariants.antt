use Rattle.std.proofs.Common.{◌≡◌, ℕ, cond, length, take}
use Rattle.ch_estimate.specs.Notes.{note_in, raised, is_among}
use Rattle.ch_estimate.proofs.notes.lose_all.Given as goal

abbrev pub invariant-nodes : goal.invariant-nodes
invariant-nodes l = record {
  room : length l.notes ≡ length l.fn.notes;
  notes : (x : ℕ) → note_in l.notes x ≡ cond (is_among (take l.i l.nodes) x) (raised l.depth (note_in l.fn.notes x)) (note_in l.fn.notes x);
}
