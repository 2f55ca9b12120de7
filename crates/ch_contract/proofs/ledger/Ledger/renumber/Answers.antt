use Rattle.std.proofs.Common.{◌≤◌, length, ap, subst, sym, ◌∙◌}
use Rattle.std.specs.Vec.{vec_capacity}
use Rattle.ch_overlay.specs.Overlay.{Overlay}
use Rattle.ch_contract.specs.Ledger.{Ledger, IsLedger}
use Rattle.ch_contract.proofs.LedgerInBook.{renumbered}
use Rattle.ch_contract.proofs.ledger.Ledger.renumber.Goals as goal

pub invariant_of-self : goal.invariant_of-self
invariant_of-self c =
    let l : Ledger = record { graph = c.self.inside.graph; overlay = c.self.inside.overlay; log = c.self.inside.log.items } in
    let count = c.requires ∙ ap (λ (k : Ledger). length k.overlay.rows) (sym c.self.view_is) in (
      subst (λ (o : Overlay). IsLedger (record l { overlay = o })) (sym c.renumber.ensures) (renumbered l c.args.versions.now count c.self.invariant.0),
      subst (λ (o : Overlay). length o.rows ≤ vec_capacity c.self.inside.log) (sym c.renumber.ensures) c.self.invariant.1,
    )
