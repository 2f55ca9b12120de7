use Rattle.ch_turned.proofs.Walks.{turned_is_graph, walks_turn}
use Rattle.ch_turned.proofs.laws.walks_turn.Goals as goal

pub returns-clause-graph : goal.returns-clause-graph
returns-clause-graph c = turned_is_graph

pub returns-clause-walks : goal.returns-clause-walks
returns-clause-walks c = walks_turn
