use Rattle.std.proofs.Common.{◌≡◌, ℕ, List, length, arith, ap, sym, subst}
use Rattle.ch_laws.specs.declared.shortcut.Shortcut.{Shortcut}
use Rattle.ch_laws.specs.Contraction.{State, Contraction, contracted}
use Rattle.ch_overlay.specs.Overlay.{state_of}
use Rattle.ch_overlay.specs.Order.{order_has_room}
use Rattle.ch_contract.specs.Ledger.{Ledger, IsLedger, IsContracted, receipt_of}
use Rattle.ch_contract.specs.Planned.{Planned, IsPlanned, AreNewVersions}
use Rattle.ch_contract.proofs.PlannedStep.{ledger_with, ledger_entered, contracted_entered}
use Rattle.ch_contract.proofs.LogEntries.{log_length}
use Rattle.ch_contract.proofs.ledger.Ledger.enter.Goals as goal

-- what was planned, by the fields of the ledger and of the plan
moved : (l now : Ledger) (w p : Planned) (node : ℕ) (put : List Shortcut) → l ≡ now → w ≡ p → IsPlanned now node put p → IsPlanned l node put w
moved l now w p node put ledger_is plan_is is = subst (λ (d : Ledger). IsPlanned d node put w) (sym ledger_is) (subst (λ (q : Planned). IsPlanned now node put q) (sym plan_is) is)

-- and the versions for it
numbered : (l now : Ledger) (w p : Planned) (versions : List ℕ) → l ≡ now → w ≡ p → AreNewVersions now p versions → AreNewVersions l w versions
numbered l now w p versions ledger_is plan_is is = subst (λ (d : Ledger). AreNewVersions d w versions) (sym ledger_is) (subst (λ (q : Planned). AreNewVersions now q versions) (sym plan_is) is)

pub apply-requires-clause-planned : goal.apply-requires-clause-planned
apply-requires-clause-planned c =
    let plan = moved _ _ _ _ _ _ c.self.view_is c.planned.view_is c.requires.planned.2 in
    (c.requires.planned.1, plan.change)

pub apply-requires-clause-count : goal.apply-requires-clause-count
apply-requires-clause-count c = (numbered _ _ _ _ _ c.self.view_is c.planned.view_is c.requires.versions).count

pub apply-requires-clause-rising : goal.apply-requires-clause-rising
apply-requires-clause-rising c = c.requires.versions.rising

pub apply-requires-clause-above : goal.apply-requires-clause-above
apply-requires-clause-above c = (numbered _ _ _ _ _ c.self.view_is c.planned.view_is c.requires.versions).above

pub push_reserved-requires : goal.push_reserved-requires
push_reserved-requires c =
    let is = c.self.invariant.0 in
    let plan = moved _ _ _ _ _ _ c.self.view_is c.planned.view_is c.requires.planned.2 in
    let room = order_has_room c.self.inside.overlay c.planned.inside.change.node is.overlay plan.change.plan.alive in
    omega (arith, room, log_length _ is, c.self.inside.log.ok, c.self.invariant.1)

abbrev ledger : goal.After-push_reserved → Ledger
ledger c = record { graph = c.self.inside.graph; overlay = c.self.inside.overlay; log = c.self.inside.log.items }

abbrev what : goal.After-push_reserved → Planned
what c = record { change = c.planned.inside.change; entry = c.planned.inside.entry }

plan : (c : goal.After-push_reserved) → IsPlanned (ledger c) c.requires.planned.0 c.requires.planned.1 (what c)
plan c = moved _ _ _ _ _ _ c.self.view_is c.planned.view_is c.requires.planned.2

made : (c : goal.After-push_reserved) → state_of c.apply.new.self ≡ contracted (state_of c.self.inside.overlay) c.planned.inside.change.node c.requires.planned.1
made c = c.apply.ensures.state c.requires.planned.1 (plan c).change

-- the ledger after, by its fields
after : (c : goal.After-push_reserved) → ledger_with (ledger c) c.apply.new.self (what c).entry ≡ record { graph = c.self.inside.graph; overlay = c.apply.new.self; log = c.push_reserved.new.self.items }
after c = ap (λ (log : List Contraction). record { graph = c.self.inside.graph; overlay = c.apply.new.self; log = log }) (sym c.push_reserved.ensures.items)

pub invariant_of-self : goal.invariant_of-self
invariant_of-self c =
    let nodes : length c.apply.new.self.rows ≡ length c.self.inside.overlay.rows = ap (λ (s : State). s.nodes) (made c) in (
      subst (λ (l : Ledger). IsLedger l) (after c) (ledger_entered c.plan_is_lawful.ensures (ledger c) c.requires.planned.0 c.requires.planned.1 (what c) c.apply.new.self c.self.invariant.0 (plan c) (made c) c.reached_goes_on.ensures c.apply.ensures.holds c.apply.ensures.bound),
      omega (arith, nodes, c.self.invariant.1, c.push_reserved.ensures.capacity),
    )

pub returns-clause-contracted : goal.returns-clause-contracted
returns-clause-contracted c node put is =
    let here : IsPlanned (ledger c) node put (what c) = moved _ _ _ _ _ _ c.self.view_is c.planned.view_is is in
    let done = contracted_entered c.plan_is_lawful.ensures (ledger c) node put (what c) c.apply.new.self c.self.invariant.0 here (c.apply.ensures.state put here.change) c.apply.ensures.renewed in
    let new : Ledger = record { graph = c.self.inside.graph; overlay = c.apply.new.self; log = c.push_reserved.new.self.items } in
    subst (λ (e : Contraction). IsContracted c.args.self.now node put (receipt_of e) new) (sym c.entry.view_is)
    (subst (λ (l : Ledger). IsContracted c.args.self.now node put (receipt_of (what c).entry) l) (after c)
    (subst (λ (l : Ledger). IsContracted l node put (receipt_of (what c).entry) (ledger_with (ledger c) c.apply.new.self (what c).entry)) c.self.view_is done))
