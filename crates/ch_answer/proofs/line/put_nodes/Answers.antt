use Rattle.std.proofs.Common.{ℕ, ◌≡◌, ◌-◌, ◌≤◌, List, length, take, drop, arith, rules, ◌∙◌, ap}
use Rattle.std.proofs.lemmas.List.{length-drop, take_all}
use Rattle.counted_io.specs.Sinks.Laws.{puts_as, puts_nothing, puts_then}
use Rattle.ch_answer.specs.Line.{named}
use Rattle.ch_answer.proofs.NodesOneByOne.{named-more}
use Rattle.ch_answer.proofs.line.put_nodes.Goals as goal

pub pieces-init : goal.pieces-init
pieces-init g c = record { within = omega arith; puts = puts_nothing _ _ }

pub pieces-preserved : goal.pieces-preserved
pieces-preserved g c =
    let order : c.pieces.at ≤ c.min-end.result = omega (arith, c.min-end.ensures, c.pieces-test.true) in
    let start = c.write_nodes-start.result in
    let text : List ℕ = c.write_nodes-start.new.text in
    let size : length text ≡ 352 = search rules in
    let rest : take (352 - start) (drop start text) ≡ drop start text = take_all (352 - start) (drop start text) (omega (arith, size, length-drop start text)) in
    record {
      within = omega (arith, c.min-end.ensures);
      puts = puts_as (named-more c.args.nodes.now c.pieces.at c.min-end.result order) (puts_then c.pieces.invariant.puts (puts_as (rest ∙ c.write_nodes-start.ensures.written) c.put.ensures));
    }

pub returns : goal.returns
returns g c = puts_as (ap named (take_all c.pieces.at c.args.nodes.now (omega (arith, c.pieces-test.false)))) c.pieces.invariant.puts
