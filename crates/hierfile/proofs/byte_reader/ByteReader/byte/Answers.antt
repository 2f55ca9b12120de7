use Rattle.std.proofs.Common.{arith}
use Rattle.std.proofs.lemmas.Grind.{common_steps}
use Rattle.hierfile.proofs.PartAfterPart.{hands_back}
use Rattle.hierfile.proofs.byte_reader.ByteReader.byte.Goals as goal

pub index-byte-requires : goal.index-byte-requires
index-byte-requires c = grind (arith, common_steps) steps 200000

pub invariant_of-self : goal.invariant_of-self
invariant_of-self c = grind (arith, common_steps) steps 600000

pub returns : goal.returns
returns g c = record { reads = record { bytes = grind (arith, common_steps); calls = grind (arith, common_steps) steps 200000; fits = λ fits. grind (arith, common_steps) steps 200000 } }

pub returns-then-not-branch : goal.returns-then-not-branch
returns-then-not-branch g c = record { reads = record { bytes = grind (arith, common_steps) steps 200000; calls = grind (arith, common_steps) steps 200000; fits = λ fits. grind (arith, common_steps) steps 200000 } }

pub returns-in_err-has : goal.returns-in_err-has
returns-in_err-has g c = record { reads = hands_back c.from_residual.result _ _ _ c.from_residual.ensures.1 c.in_err-has.ensures.reads }
