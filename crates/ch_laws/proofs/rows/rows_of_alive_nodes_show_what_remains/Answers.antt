use Rattle.ch_laws.proofs.AliveRows.{row_of_alive}
use Rattle.ch_laws.proofs.rows.rows_of_alive_nodes_show_what_remains.Goals as goal

pub returns : goal.returns
returns c = row_of_alive
