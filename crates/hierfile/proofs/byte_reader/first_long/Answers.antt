use Rattle.std.proofs.Common.{arith}
use Rattle.hierfile.proofs.PartAfterPart.{eight_bytes}
use Rattle.hierfile.proofs.byte_reader.first_long.Goals as goal

pub returns : goal.returns
returns c = eight_bytes c.args.bytes.now c.from_be_bytes.result c.requires (λ i. omega (arith, c.type_inv.bytes i)) c.from_be_bytes.ensures
