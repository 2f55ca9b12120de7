use Rattle.std.proofs.Common.{◌≡◌, rules, decimal}
use Rattle.counted_io.specs.Sinks.Laws.{puts_as, puts_then}
use Rattle.ch_answer.proofs.line.put_number.Goals as goal

pub returns : goal.returns
returns g c =
    let digits : c.as_bytes.result.now ≡ decimal c.args.number = search rules in
    puts_then c.put.ensures (puts_as digits c.put-2.ensures)
