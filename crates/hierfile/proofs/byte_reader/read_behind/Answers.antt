use Rattle.counted_io.specs.Limits.Laws.{gave_out, read_by}
use Rattle.hierfile.proofs.PartAfterPart.{put_behind, given}
use Rattle.hierfile.proofs.FaultsOfParts.{where_err}
use Rattle.hierfile.proofs.byte_reader.read_behind.Goals as goal

pub returns-clause-ok : goal.returns-clause-ok
returns-clause-ok g c =
    let read = c.in_ok-count.ensures in
    given _ _ _ _ _ read.bytes.0 (put_behind _ c.args.buffer.now c.read.new.buffer c.args.end c.in_ok-count.count c.requires read.within)

pub returns-in_err-count-clause-stopped : goal.returns-in_err-count-clause-stopped
returns-in_err-count-clause-stopped g c = where_err c.from_residual.result (gave_out g.R.StepRead.step c.args.calls.now.left c.read.new.self.left c.in_err-count.ensures.failed)

pub returns-clause-calls : goal.returns-clause-calls
returns-clause-calls g c = read_by g.R.StepRead.step c.args.calls.now.left c.read.new.self.left c.in_ok-count.count c.in_ok-count.ensures.given

pub returns-in_err-count-clause-keeps : goal.returns-in_err-count-clause-keeps
returns-in_err-count-clause-keeps g c = where_err c.from_residual.result c.in_err-count.ensures.bytes
