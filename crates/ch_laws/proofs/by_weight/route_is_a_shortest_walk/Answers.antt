use Rattle.ch_laws.proofs.ByWeight.{route_is_shortest}
use Rattle.ch_laws.proofs.by_weight.route_is_a_shortest_walk.Goals as goal

pub returns : goal.returns
returns c = route_is_shortest
