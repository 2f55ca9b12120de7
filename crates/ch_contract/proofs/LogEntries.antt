-- The log of a ledger: what its entries are, and how many.
use Rattle.std.proofs.Common.{ℕ, zero, suc, ◌≡◌, ◌+◌, ◌<◌, ◌≤◌, List, Some, length, AllPairs, arith, ap, subst, refl, ◌∙◌}
use Rattle.std.specs.List.{slice_get}
use Rattle.std.proofs.lemmas.List.{length_push}
use Rattle.ch_cost.specs.declared.cost.Cost.{Cost}
use Rattle.ch_laws.specs.Contraction.{State, Contraction, Run}
use Rattle.ch_overlay.specs.Ranges.{distinct_below-few}
use Rattle.ch_contract.specs.Ledger.{Ledger, IsLedger, IsLog}

-- what a run says of the entry of each place
record IsEntryOf (old : State) (k : ℕ) (e : Contraction) : Type 0 where
  pub rank : e.rank ≡ length old.order + k
  pub rising : AllPairs (λ x y. x < y) e.neighbours
  pub node : e.node < old.nodes

run-nodes : {bound : Cost} {old new : State} {log : List Contraction} → Run bound old log new → new.nodes ≡ old.nodes
run-nodes Run.rest = refl
run-nodes (Run.next step run) = run-nodes run ∙ step.puts.nodes

run-order : {bound : Cost} {old new : State} {log : List Contraction} → Run bound old log new → length new.order ≡ length old.order + length log
run-order Run.rest = omega arith
run-order {old = old} (Run.next {e = e} step run) =
    let more = ap length step.puts.order ∙ length_push old.order e.node in
    omega (arith, run-order run, more)

run-entry : {bound : Cost} {old new : State} {log : List Contraction} (k : ℕ) (e : Contraction) → Run bound old log new → slice_get log k ≡ Some e → IsEntryOf old k e
run-entry k e Run.rest is = absurd (cc)
run-entry {old = old} zero e (Run.next {e = first} step run) is =
    let same : first ≡ e = cc in
    subst (λ (f : Contraction). IsEntryOf old 0 f) same (record { rank = step.rank ∙ (omega arith); rising = step.rising; node = step.puts.plan.alive.in_range })
run-entry {old = old} (suc k) e (Run.next {e = first} step run) is =
    let later = run-entry k e run is in
    let more = ap length step.puts.order ∙ length_push old.order first.node in
    record { rank = omega (arith, later.rank, more); rising = later.rising; node = subst (λ n. e.node < n) step.puts.nodes later.node }

module _ (l : Ledger) (is : IsLedger l) where
  -- the log has an entry for each contracted node
  pub log_length : length l.log ≡ length l.overlay.order
  log_length =
      let none = ap length is.reached.starts.order in
      omega (arith, none, run-order is.reached.run)

  -- and no more than there are nodes
  pub log_fits : length l.log ≤ length l.overlay.rows
  log_fits = omega (arith, log_length, distinct_below-few l.overlay.order (length l.overlay.rows) is.overlay.once is.overlay.plain.in_range)

  entry : (k : ℕ) (e : Contraction) → slice_get l.log k ≡ Some e → IsEntryOf is.reached.start k e
  entry k e here = run-entry k e is.reached.run here

  -- so the log of a ledger is in order
  pub log_of_ledger : IsLog l.log
  log_of_ledger =
      let none = ap length is.reached.starts.order in
      let nodes = run-nodes is.reached.run in
      let few = is.overlay.few_nodes in
      record {
        few = omega (arith, log_fits, few);
        ranks = λ k e here. omega (arith, none, (entry k e here).rank);
        rising = λ k e here. (entry k e here).rising;
        nodes = λ k e here. omega (arith, nodes, few, (entry k e here).node);
      }
