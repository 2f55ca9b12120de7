use Rattle.std.proofs.Common.{take}
use Rattle.ch_overlay.specs.Source.{NamesAlone}
use Rattle.ch_witness.specs.Kept.{kept_of, AllNamed, IsReadOn}
use Rattle.ch_contract.specs.Drafts.{IsDrafted}
use Rattle.ch_contract.proofs.proposing.draft_all.Given as goal

abbrev pub invariant-inns : goal.invariant-inns
invariant-inns g l = record {
  draft : IsDrafted l.fn.task.bound l.fn.task.node l.fn.row (take l.into-index l.into-items) (kept_of l.desk.searcher.rows) l.draft;
  read : IsReadOn g.S.RowSource.bears (g.S.RowSource.shows l.source) (g.S.RowSource.bound_of l.source) (g.S.RowSource.stays l.fn.source l.source) (kept_of l.fn.desk.searcher.rows) (kept_of l.desk.searcher.rows);
  names : AllNamed (g.S.RowSource.whole l.fn.source) (kept_of l.fn.desk.searcher.rows) → NamesAlone (g.S.RowSource.whole l.fn.source) l.fn.row → AllNamed (g.S.RowSource.whole l.source) (kept_of l.desk.searcher.rows);
}
