use Rattle.grfile.proofs.LineFaults.{graph_size-at}
use Rattle.grfile.proofs.roads.RoadsForm.size.Goals as goal

pub returns-clause-refused : goal.returns-clause-refused
returns-clause-refused c = rw c.graph_size.ensures (graph_size-at c.args.line c.args.fields)
