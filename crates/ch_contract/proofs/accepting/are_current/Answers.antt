use Rattle.ch_contract.proofs.CurrentRows.{current_by}
use Rattle.ch_contract.proofs.accepting.are_current.Goals as goal

pub returns : goal.returns
returns c = current_by c.args.ledger.now c.first_old.result (λ o. o.node) (λ o. o.seen) (λ o. o.now) c.is_none.result c.args.rows.now c.is_none.ensures c.first_old.ensures.none c.first_old.ensures.some
