use Rattle.grfile.proofs.LinesToText.{pairs_sound}
use Rattle.grfile.proofs.laws.spelled_pairs_are_in_range.Goals as goal

pub returns : goal.returns
returns c = pairs_sound
