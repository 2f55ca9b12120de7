use Rattle.hierfile.proofs.OneSpelling.{is_spelling}
use Rattle.hierfile.proofs.laws.faultless_bytes_are_spellings.Goals as goal

pub returns : goal.returns
returns c = is_spelling
