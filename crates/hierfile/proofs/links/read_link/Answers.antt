use Rattle.hierfile.proofs.PartAfterPart.{takes_waiting}
use Rattle.hierfile.proofs.links.read_link.Goals as goal

pub returns-clause-reads : goal.returns-clause-reads
returns-clause-reads g c = takes_waiting g.R.StepRead.step g.R.Read.remaining _ c.in_ok-need.ensures.reads c.waiting_link.ensures.taken c.waiting_link.ensures.left
