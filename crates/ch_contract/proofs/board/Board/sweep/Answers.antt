use Rattle.std.proofs.Common.{List, length, arith, ap, subst, sym, ◌∙◌}
use Rattle.std.proofs.lemmas.Result.{err_from_is_err_and}
use Rattle.ch_overlay.specs.Overlay.{Overlay, IsOverlay}
use Rattle.ch_contract.specs.declared.contraction.Receipt.{Receipt}
use Rattle.ch_contract.specs.Ledger.{Ledger}
use Rattle.ch_contract.specs.Sweep.{IsPartlySwept}
use Rattle.ch_contract.proofs.SweptNodes.{IsSweptTo, swept-start, unswept, swept-more, swept-all, swept-partly}
use Rattle.ch_contract.proofs.board.Board.sweep.Goals as goal

pub returns-in_err-receipts-clause-refused : goal.returns-in_err-receipts-clause-refused
returns-in_err-receipts-clause-refused g c =
    let exit = err_from_is_err_and c.from_residual.result c.from_residual.ensures.1 in
    rw exit.1 (unswept c.args.self.now)

pub nodes-init : goal.nodes-init
nodes-init g c = record {
  old = subst IsOverlay c.overlay.ensures c.nodes-nodes.ensures.holds;
  count = c.nodes-nodes.ensures.count ∙ ap (λ (o : Overlay). length o.rows) c.overlay.ensures;
  swept = subst (λ (rs : List Receipt). IsSweptTo c.args.self.now 0 rs c.args.self.now) (sym c.in_ok-receipts.ensures.items) (swept-start c.args.self.now);
}

pub returns-in_err-visit-clause-refused : goal.returns-in_err-visit-clause-refused
returns-in_err-visit-clause-refused g c =
    let so_far = c.nodes.invariant in
    let exit = err_from_is_err_and c.from_residual-in_err-visit.result c.from_residual-in_err-visit.ensures.1 in
    rw exit.1 (subst (λ (l : Ledger). IsPartlySwept c.args.self.now l) (sym c.in_err-visit.ensures.err) (swept-partly c.args.self.now c.nodes.self c.nodes.node c.nodes.receipts.items so_far.old so_far.swept (omega arith)))

pub nodes-preserved : goal.nodes-preserved
nodes-preserved g c =
    let so_far = c.nodes.invariant in
    record {
      old = so_far.old;
      count = so_far.count;
      swept = swept-more c.args.self.now c.nodes.self c.nodes.node c.nodes.receipts.items so_far.old (omega arith) so_far.swept c.visit.new.self c.visit.new.receipts.items c.in_ok-visit.ensures.ok;
    }

pub returns-clause-swept : goal.returns-clause-swept
returns-clause-swept g c =
    let so_far = c.nodes.invariant in
    swept-all c.args.self.now c.nodes.self c.nodes.node c.nodes.receipts.items so_far.old so_far.swept (omega arith)
