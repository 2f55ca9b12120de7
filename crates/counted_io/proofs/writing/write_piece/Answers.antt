use Rattle.std.proofs.Common.{rules}
use Rattle.counted_io.proofs.writing.write_piece.Goals as goal

pub returns-in-Err-clause-step : goal.returns-in-Err-clause-step
returns-in-Err-clause-step g c = search rules

pub returns-in-Err-clause-bytes : goal.returns-in-Err-clause-bytes
returns-in-Err-clause-bytes g c = search rules
