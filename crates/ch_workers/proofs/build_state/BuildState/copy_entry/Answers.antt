use Rattle.std.proofs.Common.{◌<◌, ◌≡◌, AllPairs, Some, arith, sym, subst, ap, ◌∙◌}
use Rattle.std.specs.List.{slice_get}
use Rattle.ch_laws.specs.Contraction.{Contraction}
use Rattle.ch_workers.proofs.ListPlaces.{at_get}
use Rattle.ch_workers.proofs.build_state.BuildState.copy_entry.Goals as goal
use Rattle.ch_workers.proofs.build_state.BuildState.copy_entry.Goals.{then-rank-log+in_ok-copy_to, else-rank-log}

pub returns-clause-rising : goal.returns-clause-rising
returns-clause-rising g c = elim c.if-rank-log.branch [
  | then-rank-log+in_ok-copy_to w ↦ λ low.
      let entry : Contraction = w.index-log-rank.result in
      let there : slice_get c.log-log.result.now c.args.rank ≡ Some entry = at_get c.log-log.result.now c.args.rank entry low w.index-log-rank.is in
      let rising : AllPairs (λ x y. x < y) entry.neighbours = c.log-log.ensures.log.rising c.args.rank entry (ap (λ xs. slice_get xs c.args.rank) (sym c.log-log.ensures.entries) ∙ there) in
      subst (λ (e : Contraction). AllPairs (λ x y. x < y) e.neighbours) (sym (w.copy-is ∙ w.in_ok-copy_to.ensures)) rising
  | else-rank-log w ↦ λ low. absurd (omega (arith, low, w.if-rank-log.false))
]
