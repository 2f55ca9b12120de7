use Rattle.std.proofs.Common.{◌≡◌, length}
use Rattle.std.specs.List.{flat_map}
use Rattle.hierfile.specs.Spelling.{word}
use Rattle.hierfile.specs.Fault.{rank_fault}
use Rattle.hierfile.specs.Bytes.{NoneBelow}
use Rattle.hierfile.specs.Taken.{AreTaken}
use Rattle.hierfile.proofs.PartAfterPart.{Takes}
use Rattle.hierfile.proofs.ranks.read_ranks.Given as goal

abbrev pub invariant-nodes : goal.invariant-nodes
invariant-nodes g l =
    let ranks = l.ranks.items in
    record {
      count : length ranks ≡ l.counter;
      came : AreTaken l.nodes l.taken ranks;
      faultless : NoneBelow l.counter (rank_fault l.nodes ranks);
      taken : Takes g.R.StepRead.step g.R.Read.remaining l.fn.input l.input l.fn.reader l.reader (flat_map word ranks);
    }
