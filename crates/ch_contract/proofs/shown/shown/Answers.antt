use Rattle.std.proofs.Common.{sym, subst, ap, ◌∙◌}
use Rattle.ch_cost.specs.declared.cost.Cost.{Cost}
use Rattle.ch_overlay.specs.Source.{IsBound}
use Rattle.ch_laws.specs.Rows.{row_at}
use Rattle.ch_contract.proofs.LedgerInBook.{row_from_book}
use Rattle.ch_contract.proofs.ShownRows.{names_nodes, ledger_bound}
use Rattle.ch_contract.proofs.shown.shown.Goals as goal

pub returns-then-node-nodes-clause-bound : goal.returns-then-node-nodes-clause-bound
returns-then-node-nodes-clause-bound g c = subst (λ (b : Cost). IsBound b) (sym c.requires.bound) (ledger_bound c.bounds_fit.ensures c.args.ledger.now c.holds.ensures)

pub returns-in_err-seen-clause-bound : goal.returns-in_err-seen-clause-bound
returns-in_err-seen-clause-bound g c = subst (λ (b : Cost). IsBound b) (sym c.requires.bound) (ledger_bound c.bounds_fit.ensures c.args.ledger.now c.holds.ensures)

pub returns-clause-bound : goal.returns-clause-bound
returns-clause-bound g c = subst (λ (b : Cost). IsBound b) (sym c.requires.bound) (ledger_bound c.bounds_fit.ensures c.args.ledger.now c.holds.ensures)

pub returns-clause-names : goal.returns-clause-names
returns-clause-names g c =
    let s = c.in_ok-seen.seen in
    let l = c.args.ledger.now in
    let row = row_from_book g.S.Site.graph g.S.Book.book l c.args.pen.now c.requires s c.in_ok-seen.ensures.record (c.in_ok-seen.ensures.current ∙ ap (λ x. row_at c.args.pen.now.rows x) (sym c.in_ok-seen.ensures.node)) in
    names_nodes l.overlay c.holds.ensures.overlay s row.in_range row.same
