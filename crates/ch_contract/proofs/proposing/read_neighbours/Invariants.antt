use Rattle.ch_overlay.specs.Source.{NamesAlone}
use Rattle.ch_witness.specs.Kept.{kept_of, AllNamed, IsReadOn}
use Rattle.ch_contract.proofs.proposing.read_neighbours.Given as goal

abbrev pub invariant-inns : goal.invariant-inns
invariant-inns g l = record {
  read : IsReadOn g.S.RowSource.bears (g.S.RowSource.shows l.source) (g.S.RowSource.bound_of l.source) (g.S.RowSource.stays l.initial.source l.source) (kept_of l.initial.rows) (kept_of l.rows);
  names : AllNamed (g.S.RowSource.whole l.initial.source) (kept_of l.initial.rows) → NamesAlone (g.S.RowSource.whole l.initial.source) l.fn.row → AllNamed (g.S.RowSource.whole l.source) (kept_of l.rows);
}
