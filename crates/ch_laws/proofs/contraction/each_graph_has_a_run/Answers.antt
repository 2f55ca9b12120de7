use Rattle.ch_laws.proofs.WholeRun.{has_run}
use Rattle.ch_laws.proofs.contraction.each_graph_has_a_run.Goals as goal

pub returns : goal.returns
returns c = has_run
