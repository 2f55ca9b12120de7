use Rattle.ch_laws.proofs.RowsShown.{rows_are_state}
use Rattle.ch_laws.proofs.rows.rows_are_the_state.Goals as goal

pub returns : goal.returns
returns c = rows_are_state
