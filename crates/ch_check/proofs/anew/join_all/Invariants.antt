use Rattle.std.proofs.Common.{take}
use Rattle.ch_witness.specs.Kept.{kept_of}
use Rattle.ch_check.specs.Pairs.{AreJoined, AreRowsOf}
use Rattle.ch_check.proofs.anew.join_all.Given as goal

abbrev pub invariant-inns : goal.invariant-inns
invariant-inns l = record {
  joined : AreJoined l.task.overlay.now l.task.node l.task.row.now (take l.into-index l.task.row.now.inn) l.buffers.shortcuts.items;
  kept : AreRowsOf l.task.overlay.now (kept_of l.buffers.finder.searcher.rows);
}
