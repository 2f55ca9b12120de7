use Rattle.std.proofs.Common.{◌<◌, ℕ, slice_index_or, sym, subst, arith}
use Rattle.ch_estimate.specs.Notes.{Note, note_in}
use Rattle.ch_estimate.proofs.NotesInOrder.{one_more, still}
use Rattle.ch_estimate.proofs.notes.lose_all.Goals as goal

pub lose-requires-clause-few : goal.lose-requires-clause-few
lose-requires-clause-few c =
    let x = slice_index_or c.args.nodes.now c.nodes.i 0 in
    let e = still c.args.nodes.now c.nodes.i c.args.depth (note_in c.args.notes.now x) (note_in c.nodes.notes x) c.requires.rising c.nodes-test.true (c.nodes.invariant.notes x) in
    subst (λ (n : Note). n.gone < 4294967295) (sym e) (c.requires.few x)

pub nodes-preserved : goal.nodes-preserved
nodes-preserved c = record {
  room = omega (arith, c.lose.ensures.room, c.nodes.invariant.room);
  notes = λ (x : ℕ). one_more c.args.nodes.now c.nodes.i x c.args.depth (note_in c.args.notes.now x) (note_in c.nodes.notes x) (note_in c.lose.new.notes x)
      c.requires.rising c.nodes-test.true (c.nodes.invariant.notes x) (c.lose.ensures.notes x);
}
