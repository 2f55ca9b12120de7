use Rattle.std.proofs.Common.{◌≡◌, ◌++◌}
use Rattle.ch_core.specs.World.{IsOpening}
use Rattle.ch_core.specs.Steps.{Runs}
use Rattle.ch_core.proofs.running.run.Given as goal

-- the events so far ran, from the start of the graph
abbrev pub invariant-events : goal.invariant-events
invariant-events l = record { opens : IsOpening l.fn.graph l.fn.workers l.initial.world; runs : Runs l.initial.world l.yielded l.outcomes.items l.world; graph : l.world.ledger.graph ≡ l.fn.graph; rest : l.yielded ++ l.event-iterator.rest.items ≡ l.fn.events.items }
