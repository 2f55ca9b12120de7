use Rattle.hierfile.proofs.PartAfterPart.{takes_waiting}
use Rattle.hierfile.proofs.byte_reader.ByteReader.word.Goals as goal

pub returns : goal.returns
returns g c =
    record { reads = takes_waiting g.R.StepRead.step g.R.Read.remaining _ c.in_ok-need.ensures.reads c.waiting_word.ensures.taken c.waiting_word.ensures.left; room = c.waiting_word.ensures.room }
