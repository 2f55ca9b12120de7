use Rattle.hierfile.proofs.PartAfterPart.{takes_waiting}
use Rattle.hierfile.proofs.byte_reader.ByteReader.long.Goals as goal

pub returns : goal.returns
returns g c =
    record { reads = takes_waiting g.R.StepRead.step g.R.Read.remaining _ c.in_ok-need.ensures.reads c.waiting_long.ensures.taken c.waiting_long.ensures.left }
