use Rattle.std.proofs.Common.{add-one}
use Rattle.std.proofs.Math.Seq.{take-length, drop-length}
use Rattle.ch_service.proofs.JoinedLines.{ended_lines-first, ended_lines-last}
use Rattle.ch_service.proofs.joined.line_len.Goals as goal

pub returns-in-Some-clause-line : goal.returns-in-Some-clause-line
returns-in-Some-clause-line c =
    let first = c.in-Some.ensures in
    rw add-one (ended_lines-first c.args.input.now c.in-Some.before first.0.high first.0.before first.1)

pub returns-in-None-clause-line : goal.returns-in-None-clause-line
returns-in-None-clause-line c = rw (take-length, drop-length) (ended_lines-last c.args.input.now c.requires c.in-None.ensures)
