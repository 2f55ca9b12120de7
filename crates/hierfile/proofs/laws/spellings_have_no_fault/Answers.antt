use Rattle.hierfile.proofs.SpellingsHaveNoFault.{no_fault}
use Rattle.hierfile.proofs.laws.spellings_have_no_fault.Goals as goal

pub returns : goal.returns
returns c = no_fault
