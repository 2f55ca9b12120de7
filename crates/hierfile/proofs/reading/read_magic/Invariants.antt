use Rattle.std.proofs.Common.{◌≡◌, take}
use Rattle.hierfile.specs.Spelling.{stem}
use Rattle.hierfile.proofs.PartAfterPart.{Takes}
use Rattle.hierfile.proofs.reading.read_magic.Given as goal

abbrev pub invariant-bytes : goal.invariant-bytes
invariant-bytes g l = record {
  wanted : l.wanted-items ≡ stem;
  taken : Takes g.R.StepRead.step g.R.Read.remaining l.fn.input l.input l.fn.reader l.reader (take l.wanted-index stem);
}
