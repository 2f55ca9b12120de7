use Rattle.std.proofs.Common.{rules}
use Rattle.counted_io.specs.Limits.Laws.{gave_out, read_by}
use Rattle.grfile.proofs.pieces.read_piece.Goals as goal

pub returns-in-Ok-eq0-clause-calls : goal.returns-in-Ok-eq0-clause-calls
returns-in-Ok-eq0-clause-calls g c = read_by g.R.StepRead.step c.args.calls.now.left c.read.new.self.left c.in-Ok-eq0.field-0 c.in-Ok-eq0.ensures.given

pub returns-in-Ok-clause-calls : goal.returns-in-Ok-clause-calls
returns-in-Ok-clause-calls g c = read_by g.R.StepRead.step c.args.calls.now.left c.read.new.self.left c.in-Ok.count c.in-Ok.ensures.given

pub returns-in-Err-clause-gave_out : goal.returns-in-Err-clause-gave_out
returns-in-Err-clause-gave_out g c = gave_out g.R.StepRead.step c.args.calls.now.left c.read.new.self.left c.in-Err.ensures.failed

pub returns-in-Err-clause-refused : goal.returns-in-Err-clause-refused
returns-in-Err-clause-refused g c = search rules
