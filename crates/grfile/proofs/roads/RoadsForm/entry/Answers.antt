use Rattle.grfile.proofs.LineFaults.{road_of-at}
use Rattle.grfile.proofs.roads.RoadsForm.entry.Goals as goal

pub returns-clause-refused : goal.returns-clause-refused
returns-clause-refused c = rw c.road_of.ensures (road_of-at c.args.line c.args.size.nodes c.args.fields)
