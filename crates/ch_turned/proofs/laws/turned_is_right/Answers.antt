use Rattle.ch_turned.proofs.Turned.{turned_is_right, turned_is_right_by_weight}
use Rattle.ch_turned.proofs.laws.turned_is_right.Goals as goal

pub returns-clause-right : goal.returns-clause-right
returns-clause-right c = turned_is_right

pub returns-clause-by_weight : goal.returns-clause-by_weight
returns-clause-by_weight c = turned_is_right_by_weight
