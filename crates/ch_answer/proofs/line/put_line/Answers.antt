use Rattle.std.proofs.Common.{ℕ, ◌≡◌, ◌∙◌, ap, sym}
use Rattle.counted_io.specs.Sinks.Laws.{puts_as, puts_then}
use Rattle.ch_cost.specs.Cost.{length_of}
use Rattle.ch_answer.specs.Line.{line_of, told, route_fields}
use Rattle.ch_answer.proofs.line.put_line.Goals as goal

pub returns-in-Some : goal.returns-in-Some
returns-in-Some g c =
    let nodes = c.as_slice.result.now in
    let same : route_fields c.length.result nodes ≡ told c.in-Some.route = ap (λ (n : ℕ). route_fields n nodes) c.length.ensures ∙ ap (route_fields (length_of c.route.inside.cost)) c.as_slice.ensures.value ∙ ap told c.route.view_is in
    let line = puts_then (puts_then (puts_then c.put.ensures c.put_nodes.ensures) (puts_as same c.put_along.ensures)) c.put-in-Some.ensures in
    puts_as (ap (line_of c.args.pair) (sym c.in-Some.is)) line

pub returns-in-None : goal.returns-in-None
returns-in-None g c = puts_as (ap (line_of c.args.pair) (sym c.in-None.is)) (puts_then (puts_then c.put-in-None.ensures c.put_nodes-in-None.ensures) c.put-in-None-2.ensures)
