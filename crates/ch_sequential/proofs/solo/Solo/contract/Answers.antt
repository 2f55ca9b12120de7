use Rattle.std.proofs.Common.{List, sym, subst}
use Rattle.ch_laws.specs.declared.shortcut.Shortcut.{Shortcut}
use Rattle.ch_contract.specs.Ledger.{Ledger, AreLawful, IsLedger}
use Rattle.ch_sequential.proofs.solo.Solo.contract.Goals as goal

pub put_in-requires : goal.put_in-requires
put_in-requires g c =
    let l = c.args.self.now in
    let p = c.args.proposal.now in
    let lawful : AreLawful l p.node p.shortcuts = c.agreement_is_lawful.ensures l p (subst (λ (m : Ledger). IsLedger m) c.self.view_is c.holds.ensures) c.rests_on.ensures.holds c.requires in
    subst (λ (put : List Shortcut). AreLawful l c.node.result put) (sym c.shortcuts.ensures) (subst (λ n. AreLawful l n p.shortcuts) (sym c.node.ensures) lawful)
