use Rattle.grfile.proofs.LineFaults.{pairs_size-at}
use Rattle.grfile.proofs.pairs.PairsForm.size.Goals as goal

pub returns-clause-refused : goal.returns-clause-refused
returns-clause-refused c = rw c.pairs_size.ensures (pairs_size-at c.args.line c.args.self.nodes c.args.fields)
