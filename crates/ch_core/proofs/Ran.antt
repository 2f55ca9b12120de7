-- Runs go on by one event, and no event changes the graph.
use Rattle.std.proofs.Common.{◌≡◌, List, [], ◌∷◌, ◌++◌, ap}
use Rattle.ch_contract.specs.Ledger.{Ledger}
use Rattle.ch_core.specs.declared.event.Event.{Event}
use Rattle.ch_core.specs.declared.event.Event.TheVariants.{Read, Offer, Forget}
use Rattle.ch_core.specs.declared.event.Outcome.{Outcome}
use Rattle.ch_core.specs.declared.event.Outcome.TheVariants.{Shown, Committed, Refused, Forgotten, NoSuch}
use Rattle.ch_core.specs.World.{World}
use Rattle.ch_core.specs.Steps.{IsStep, Runs, ends, goes}

pub runs_on : {old mid new : World} (event : Event) (outcome : Outcome) {events : List Event} {outcomes : List Outcome} → Runs old events outcomes mid → IsStep mid event outcome new → Runs old (events ++ event ∷ []) (outcomes ++ outcome ∷ []) new
runs_on event outcome ends step = goes step ends
runs_on event outcome (goes first rest) step = goes first (runs_on event outcome rest step)

same_graph : (old new : World) → new ≡ old → new.ledger.graph ≡ old.ledger.graph
same_graph old new same = ap (λ (w : World). w.ledger.graph) same

pub graph_stays : (old : World) (event : Event) (outcome : Outcome) (new : World) → IsStep old event outcome new → new.ledger.graph ≡ old.ledger.graph
graph_stays old (Read worker node version) Shown new step = ap (λ (l : Ledger). l.graph) step.ledger
graph_stays old (Read worker node version) (Committed receipt) new step = absurd step
graph_stays old (Read worker node version) (Refused error) new step = absurd step
graph_stays old (Read worker node version) Forgotten new step = absurd step
graph_stays old (Read worker node version) NoSuch new step = same_graph old new step.1
graph_stays old (Offer worker p) Shown new step = absurd step
graph_stays old (Offer worker p) (Committed receipt) new step = ap (λ (l : Ledger). l.graph) step.ledger
graph_stays old (Offer worker p) (Refused error) new step = same_graph old new step.2
graph_stays old (Offer worker p) Forgotten new step = absurd step
graph_stays old (Offer worker p) NoSuch new step = same_graph old new step.1
graph_stays old (Forget worker) Shown new step = absurd step
graph_stays old (Forget worker) (Committed receipt) new step = absurd step
graph_stays old (Forget worker) (Refused error) new step = absurd step
graph_stays old (Forget worker) Forgotten new step = ap (λ (l : Ledger). l.graph) step.ledger
graph_stays old (Forget worker) NoSuch new step = same_graph old new step.1
