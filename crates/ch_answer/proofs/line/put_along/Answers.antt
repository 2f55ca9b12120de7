use Rattle.std.proofs.Common.{ℕ, ◌≡◌, ◌-◌, ◌++◌, ap, append_assoc, length, rules, sym, codes, decimal}
use Rattle.counted_io.specs.Sinks.Laws.{puts_as, puts_then}
use Rattle.ch_answer.proofs.line.put_along.Goals as goal

pub returns : goal.returns
returns g c =
    let arcs : c.saturating_sub.result ≡ length c.args.nodes.now - 1 = search rules in
    let number = puts_as (ap (λ (n : ℕ). codes " " ++ decimal n) arcs) c.put_number-2.ensures in
    let numbers = puts_as (sym (append_assoc (codes " " ++ decimal c.args.length) (codes " ") (decimal (length c.args.nodes.now - 1)))) (puts_then c.put_number.ensures number) in
    puts_then numbers c.put_nodes.ensures
