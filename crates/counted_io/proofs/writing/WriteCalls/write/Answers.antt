use Rattle.std.proofs.Common.{arith}
use Rattle.counted_io.proofs.CallAfterCall.{called_to_take, called_to_stop}
use Rattle.counted_io.proofs.FirstBytesTaken.{hands_on_part}
use Rattle.counted_io.proofs.writing.WriteCalls.write.Goals as goal

pub returns-then-taken-bytes-clause-err : goal.returns-then-taken-bytes-clause-err
returns-then-taken-bytes-clause-err g c =
    let taken = c.write_bytes-taken in
    hands_on_part _ _ c.args.bytes.now taken.result c.args.self.now.written c.if-taken-bytes.true taken.ensures.given

pub returns-then-taken-bytes-clause-calls : goal.returns-then-taken-bytes-clause-calls
returns-then-taken-bytes-clause-calls g c = called_to_stop _ _ _ (c.write_bytes-taken.ensures.part c.if-taken-bytes.true)

pub returns-clause-calls : goal.returns-clause-calls
returns-clause-calls g c = called_to_take _ _ _ (c.write_bytes-taken.ensures.all (omega (arith, c.write_bytes-taken.ensures, c.if-taken-bytes)))
