use Rattle.std.proofs.Common.{sym}
use Rattle.ch_contract.proofs.proposal.cost_of.Goals as goal

pub returns-in_default : goal.returns-in_default
returns-in_default c = λ cost listed. c.in_default.ensures.none listed.entry listed.among listed.other

pub returns : goal.returns
returns c = record {
  entry = c.in-Some.entry.now;
  among = c.in-Some.ensures.found.0;
  other = c.in-Some.ensures.found.1;
  costs = sym c.cost.ensures;
}
