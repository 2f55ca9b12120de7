use Rattle.std.proofs.Common.{ap, ◌∙◌}
use Rattle.ch_cost.specs.Cost.{arcs_of, length_of}
use Rattle.counted_io.specs.Sinks.Laws.{puts_as, puts_then}
use Rattle.hierfile.specs.Spelling.{link_bytes, long, middle_number, word}
use Rattle.hierfile.proofs.writing.write_link.Goals as goal

pub returns : goal.returns
unfolding link_bytes
returns g c =
    let ends = puts_then c.write_word.ensures c.write_word-2.ensures in
    let cost = puts_as (ap long (c.length.ensures ∙ ap length_of c.cost-cost.ensures)) c.write_long.ensures in
    let arcs = puts_as (ap word (c.arcs.ensures ∙ ap arcs_of c.cost-cost.ensures)) c.write_word-3.ensures in
    puts_then (puts_then (puts_then ends cost) arcs) (puts_as (ap word (c.number_of.ensures ∙ ap middle_number c.node.ensures)) c.write_word-4.ensures)
