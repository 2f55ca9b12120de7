use Rattle.ch_laws.proofs.StartRows.{rows_start}
use Rattle.ch_laws.proofs.rows.rows_of_least_arcs_are_the_start.Goals as goal

pub returns : goal.returns
returns c = rows_start
