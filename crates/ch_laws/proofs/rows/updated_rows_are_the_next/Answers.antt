use Rattle.ch_laws.proofs.RowChanges.{rows_go_on}
use Rattle.ch_laws.proofs.rows.updated_rows_are_the_next.Goals as goal

pub returns : goal.returns
returns c = rows_go_on
