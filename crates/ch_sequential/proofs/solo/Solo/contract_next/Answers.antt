use Rattle.std.proofs.Common.{List, sym, subst}
use Rattle.ch_laws.specs.declared.shortcut.Shortcut.{Shortcut}
use Rattle.ch_overlay.specs.Overlay.{Overlay}
use Rattle.ch_check.specs.Replay.{IsReplay, MayPut}
use Rattle.ch_contract.specs.Ledger.{Ledger, AreLawful}
use Rattle.ch_sequential.proofs.Ordered.{as_replay, may_be_put}
use Rattle.ch_sequential.proofs.solo.Solo.contract_next.Goals as goal

pub work_out_anew-requires-clause-reached : goal.work_out_anew-requires-clause-reached
work_out_anew-requires-clause-reached g c = (
  c.self.inside.ledger.graph,
  subst (λ (o : Overlay). IsReplay (record { graph = c.self.inside.ledger.graph; overlay = o })) (sym c.overlay.ensures) (as_replay c.self.inside.ledger c.holds.ensures),
)

pub put_in-requires : goal.put_in-requires
put_in-requires g c =
    let put = c.work_out_anew.new.buffers.shortcuts.items in
    subst (λ (ps : List Shortcut). AreLawful c.args.self.now c.args.node ps) (sym c.deref.ensures.value)
    (subst (λ (l : Ledger). AreLawful l c.args.node put) c.self.view_is
    (may_be_put c.self.inside.ledger c.args.node put
    (subst (λ (o : Overlay). MayPut o c.args.node put) c.overlay.ensures c.in_ok-work_out_anew.ensures)))
