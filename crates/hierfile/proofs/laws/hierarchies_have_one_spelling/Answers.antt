use Rattle.hierfile.proofs.OneSpelling.{one_spelling}
use Rattle.hierfile.proofs.laws.hierarchies_have_one_spelling.Goals as goal

pub returns : goal.returns
returns c = one_spelling
