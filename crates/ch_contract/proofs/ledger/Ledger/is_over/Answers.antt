use Rattle.std.proofs.Common.{ℕ, ◌≡◌, ◌≢◌, ◌+◌, ◌<◌, length, arith, sym, subst, inl, inr}
use Rattle.std.proofs.lemmas.Bool.{cases_eq}
use Rattle.std.proofs.lemmas.Bool.Decides.{nat_tests}
use Rattle.ch_laws.specs.Contraction.{IsOver}
use Rattle.ch_overlay.specs.Overlay.{Overlay, IsOverlay, state_of}
use Rattle.ch_contract.specs.Ledger.{Ledger, IsLedger}
use Rattle.ch_contract.specs.Finish.{HasNodesLeft}
use Rattle.ch_contract.proofs.NodesLeft.{over-from_count, left-from_count}
use Rattle.ch_contract.proofs.FinishedHierarchy.{over-leaves_none}
use Rattle.ch_contract.proofs.ledger.Ledger.is_over.Goals as goal

module _ (l : Ledger) (is : IsLedger l) (o : Overlay) (same : o ≡ l.overlay) (n : ℕ) (count : n + length o.order ≡ length o.rows) where
  over : n ≡ 0 → IsOver (state_of l.overlay)
  over none = subst (λ (q : Overlay). IsOver (state_of q)) same (over-from_count o (subst (λ (q : Overlay). IsOverlay q) (sym same) is.overlay) (omega (arith, count, none)))

  left : n ≢ 0 → HasNodesLeft l
  left some = left-from_count l.overlay is.overlay (subst (λ (q : Overlay). length q.order < length q.rows) same (omega (arith, count, some)))

pub returns-clause-over : goal.returns-clause-over
returns-clause-over c = (
  λ yes. over c.args.self.now c.holds.ensures c.overlay.result.now c.overlay.ensures c.alive.result c.alive.ensures (grind (arith, nat_tests, yes)),
  λ all. elim (cases_eq c.alive.result 0) [
    | inl none ↦ grind (arith, nat_tests, none)
    | inr some ↦ absurd (over-leaves_none c.args.self.now all (left c.args.self.now c.holds.ensures c.overlay.result.now c.overlay.ensures c.alive.result c.alive.ensures some))
  ],
)

pub returns-clause-left : goal.returns-clause-left
returns-clause-left c = (
  λ no. left c.args.self.now c.holds.ensures c.overlay.result.now c.overlay.ensures c.alive.result c.alive.ensures (λ none. absurd (grind (arith, nat_tests, no, none))),
  λ waits. elim (cases_eq c.alive.result 0) [
    | inl none ↦ absurd (over-leaves_none c.args.self.now (over c.args.self.now c.holds.ensures c.overlay.result.now c.overlay.ensures c.alive.result c.alive.ensures none) waits)
    | inr some ↦ grind (arith, nat_tests, some)
  ],
)
