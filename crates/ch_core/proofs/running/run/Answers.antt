use Rattle.std.proofs.Common.{◌≡◌, ◌++◌, ◌∷◌, [], List, length, append_assoc, arith, ap, sym, subst, refl, ◌∙◌}
use Rattle.std.proofs.lemmas.List.{append-nil}
use Rattle.ch_graph.specs.Graph.{Graph}
use Rattle.ch_laws.specs.Contraction.{IsReached}
use Rattle.ch_overlay.specs.Overlay.{state_of}
use Rattle.ch_core.specs.declared.event.Event.{Event}
use Rattle.ch_core.specs.declared.event.Outcome.{Outcome}
use Rattle.ch_core.specs.Steps.{Runs, ends}
use Rattle.ch_core.proofs.Ran.{graph_stays, runs_on}
use Rattle.ch_core.proofs.running.run.Goals as goal

pub events-init : goal.events-init
events-init c = record {
  opens = c.in_ok-world.ensures.opens;
  runs = subst (λ (outcomes : List Outcome). Runs c.in_ok-world.world [] outcomes c.in_ok-world.world) (sym c.in_ok-outcomes.ensures.items) ends;
  graph = c.in_ok-world.ensures.opens.ledger.graph;
  rest = c.into_iter-event-iterator.ensures.into_iter_gives.0;
}

pub events-preserved : goal.events-preserved
events-preserved c = record {
  opens = c.events.invariant.opens;
  runs = subst (λ (outcomes : List Outcome). Runs c.in_ok-world.world (c.events.yielded ++ c.in-Some.event ∷ []) outcomes c.step.new.self) (sym c.in_ok-push.ensures.items) (runs_on c.in-Some.event c.in_ok-outcome.outcome c.events.invariant.runs c.in_ok-outcome.ensures.step);
  graph = graph_stays c.events.world c.in-Some.event c.in_ok-outcome.outcome c.step.new.self c.in_ok-outcome.ensures.step ∙ c.events.invariant.graph;
  rest =
      append_assoc c.events.yielded (c.in-Some.event ∷ []) c.next.new.self.rest.items
      ∙ ap (λ (events : List Event). c.events.yielded ++ events) (sym c.in-Some.ensures.steps.0)
      ∙ c.events.invariant.rest;
}

nothing_left : (events : List Event) → length events ≡ 0 → events ≡ []
nothing_left [] e = refl
nothing_left (event ∷ events) e = absurd (omega arith)

all_events : (c : goal.After-holds) → c.events.yielded ≡ c.args.events.items
all_events c =
    let none : length c.events.event-iterator.rest.items ≡ 0 = omega (arith, c.in-None.ensures.steps.0, c.events.event-iterator.rest.ok) in
    sym (append-nil c.events.yielded) ∙ ap (λ (events : List Event). c.events.yielded ++ events) (sym (nothing_left c.events.event-iterator.rest.items none)) ∙ c.events.invariant.rest

pub returns-clause-run : goal.returns-clause-run
returns-clause-run c = record {
  start = c.in_ok-world.world;
  opens = c.events.invariant.opens;
  runs = subst (λ (events : List Event). Runs c.in_ok-world.world events c.events.outcomes.items c.events.world) (all_events c) c.events.invariant.runs;
}

pub returns-clause-reached : goal.returns-clause-reached
returns-clause-reached c = subst (λ (g : Graph). IsReached g c.events.world.ledger.log (state_of c.events.world.ledger.overlay)) c.events.invariant.graph c.holds.ensures.ledger.reached
