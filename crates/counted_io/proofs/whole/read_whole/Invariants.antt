use Rattle.counted_io.specs.Handing.{Gathers}
use Rattle.counted_io.specs.Limits.{IsRead}
use Rattle.counted_io.specs.declared.TheConstants.{MOST_CALLS}
use Rattle.counted_io.proofs.whole.read_whole.Given as goal

abbrev pub invariant-pieces : goal.invariant-pieces
invariant-pieces g l = record {
  gathers : Gathers (g.R.Read.remaining l.fn.reader) (g.R.Read.remaining l.reader) l.fn.text.items l.text.items;
  reads : IsRead g.R.StepRead.step MOST_CALLS l.calls.left l.fn.reader l.reader;
}

abbrev pub decreases-pieces : goal.decreases-pieces
decreases-pieces g l = l.calls.left
