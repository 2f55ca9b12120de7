use Rattle.std.proofs.Common.{ap, sym, ◌∙◌, Some}
use Rattle.ch_laws.specs.Rows.{Row}
use Rattle.ch_contract.proofs.ReadRows.{none_more, some_here}
use Rattle.ch_contract.proofs.ready.row_for.Goals as goal

pub returns-then-answer-node-clause-some : goal.returns-then-answer-node-clause-some
returns-then-answer-node-clause-some c =
    some_here c.args.seen.now c.seen.answer-index c.answer-item.result c.args.node c.seen-test.true c.answer-item.is c.seen.invariant c.if-answer-node.true
    ∙ ap (λ (r : Row). Some r) (sym c.deref.ensures)

pub seen-preserved : goal.seen-preserved
seen-preserved c = none_more c.args.seen.now c.seen.answer-index c.answer-item.result c.args.node c.seen-test.true c.answer-item.is c.seen.invariant c.if-answer-node.false
