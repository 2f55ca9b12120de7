use Rattle.std.proofs.Common.{rules}
use Rattle.hierfile.proofs.taken.Taken.mark_if_many.Goals as goal

pub returns-in_ok-marks_of : goal.returns-in_ok-marks_of
returns-in_ok-marks_of c = search rules
