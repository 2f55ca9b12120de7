use Rattle.std.proofs.Common.{ℕ, ◌≡◌, ◌+◌, ◌-◌, ◌^◌, ◌<◌, ◌≤◌, ◌++◌, List, length, drop, decimal, arith, rules, sym, ◌∙◌, ap, length-set}
use Rattle.std.proofs.lemmas.Fmt.{length-decimal-le}
use Rattle.std.proofs.lemmas.List.{drop-set, drop_all}
use Rattle.ch_answer.specs.Line.{named}
use Rattle.ch_answer.proofs.NodesOneByOne.{named-before}
use Rattle.ch_answer.proofs.line.write_nodes.Goals as goal

-- a node has at most ten digits
short : (n : ℕ) → n < 2 ^ 32 → length (decimal (n + 1)) ≤ 10
short n fits = length-decimal-le 10 (n + 1) (omega arith) (omega arith) (omega arith)

pub nodes-init : goal.nodes-init
nodes-init c = record {
  within = omega arith;
  room = omega arith;
  size = search rules;
  end = omega arith;
  written = drop_all 352 c.args.text.now (omega (arith, c.told-text)) ∙ ap named (sym (drop_all (length c.args.nodes.now) c.args.nodes.now (omega arith)));
}

pub write_digits-at-requires : goal.write_digits-at-requires
write_digits-at-requires c = (omega (arith, short c.from.result (omega arith), c.nodes.invariant.room, c.nodes-test.true), omega (arith, c.nodes.invariant.size, c.nodes.invariant.end))

pub overflow_sub-at : goal.overflow_sub-at
overflow_sub-at c = omega (arith, short c.from.result (omega arith), c.nodes.invariant.room, c.nodes-test.true, c.write_digits-at.ensures.start)

pub nodes-preserved : goal.nodes-preserved
nodes-preserved c =
    let w = c.write_digits-at in
    let at = w.result in
    let left = c.nodes.left in
    let nodes = c.args.nodes.now in
    let next : left - 1 + 1 ≡ left = omega (arith, c.nodes-test.true) in
    let digits = short c.from.result (omega arith) in
    let first : at - 1 + 1 ≡ at = omega (arith, digits, c.nodes.invariant.room, c.nodes-test.true, w.ensures.start) in
    let size : length w.new.buf ≡ 352 = search rules in
    let text : drop (at - 1 + 1) w.new.buf ≡ decimal (c.from.result + 1) ++ named (drop (left - 1 + 1) nodes) =
    ap (λ n. drop n w.new.buf) first ∙ w.ensures.written ∙ ap (λ (l : List ℕ). decimal (c.from.result + 1) ++ l) (c.nodes.invariant.written ∙ ap (λ n. named (drop n nodes)) (sym next)) in
    record {
      within = omega (arith, c.nodes.invariant.within);
      room = omega (arith, digits, c.nodes.invariant.room, c.nodes-test.true, w.ensures.start);
      size = length-set w.new.buf (at - 1) 32 ∙ size;
      end = omega (arith, c.nodes.invariant.end, w.ensures.start);
      written = drop-set w.new.buf (at - 1) 32 (omega (arith, size, c.nodes.invariant.end, w.ensures.start, first)) ∙ named-before nodes _ (left - 1) c.from.result (omega (arith, next, c.nodes.invariant.within)) c.from.ensures text;
    }
