use Rattle.std.proofs.Common.{List, ap, length, ◌∙◌}
use Rattle.counted_io.specs.Sinks.Laws.{puts_as, puts_then}
use Rattle.ch_cost.specs.Cost.{length_of}
use Rattle.ch_graph.specs.declared.link.Link.{Link}
use Rattle.hierfile.specs.Spelling.{head_bytes, long, word}
use Rattle.hierfile.proofs.writing.write_head.Goals as goal

pub returns : goal.returns
unfolding head_bytes
returns g c =
    let nodes = puts_as (ap word c.nodes.ensures.count) c.write_word.ensures in
    let links = puts_as (ap (λ (l : List Link). long (length l)) c.links.ensures.links) c.write_long.ensures in
    let bound = puts_as (ap long (c.length.ensures ∙ ap length_of c.bound.ensures)) c.write_long-2.ensures in
    puts_then c.put.ensures (puts_then (puts_then nodes links) bound)
