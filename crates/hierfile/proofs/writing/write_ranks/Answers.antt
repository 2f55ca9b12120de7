use Rattle.std.proofs.Common.{◌<◌, length, ap, arith}
use Rattle.counted_io.specs.Sinks.Laws.{puts_as, puts_nothing, puts_then}
use Rattle.hierfile.specs.Spelling.{word}
use Rattle.hierfile.proofs.PartAfterPart.{spelled-more}
use Rattle.hierfile.proofs.writing.write_ranks.Goals as goal

pub nodes-init : goal.nodes-init
nodes-init g c = puts_nothing _ _

pub nodes-preserved : goal.nodes-preserved
nodes-preserved g c =
    let within : c.nodes.node < length c.args.hierarchy.now.ranks = omega (arith, c.nodes-node-end.ensures.count) in
    puts_as (spelled-more word c.args.hierarchy.now.ranks c.nodes.node 0 within) (puts_then c.nodes.invariant (puts_as (ap word c.rank.ensures) c.write_word.ensures))
