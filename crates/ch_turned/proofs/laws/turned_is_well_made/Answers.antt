use Rattle.ch_turned.proofs.Turned.{turned_is_well_made}
use Rattle.ch_turned.proofs.laws.turned_is_well_made.Goals as goal

pub returns : goal.returns
returns c = turned_is_well_made
