use Rattle.grfile.proofs.LineFaults.{pair_of-at}
use Rattle.grfile.proofs.pairs.PairsForm.entry.Goals as goal

pub returns-clause-refused : goal.returns-clause-refused
returns-clause-refused c = rw c.pair_of.ensures (pair_of-at c.args.line c.args.size.nodes c.args.fields)
