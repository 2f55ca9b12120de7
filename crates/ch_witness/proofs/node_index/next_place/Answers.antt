use Rattle.std.proofs.Common.{arith}
use Rattle.ch_witness.proofs.FreePlaces.{few_placed}
use Rattle.ch_witness.proofs.node_index.next_place.Goals as goal

pub overflow_cast-result : goal.overflow_cast-result
overflow_cast-result c = omega (arith, few_placed c.requires.placed c.args.node c.requires.room c.requires.absent, c.requires.few)
