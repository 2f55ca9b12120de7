-- What a build comes to.
use Rattle.std.specs.Prelude.{ℕ, ◌≡◌, ◌+◌, ◌↔◌, List, Option, Result, Err, IfOk, MatchOption, codes, map, vec_len}
use Rattle.ch_graph.specs.Graph.{Graph}
use Rattle.ch_graph.specs.Hierarchy.{Hierarchy, IsRight}
use Rattle.ch_laws.specs.Contraction.{Contraction, State, IsReached, IsOver, IsMade}
use Rattle.ch_multiqueue.specs.Closing.{Closed}
use Rattle.ch_workers.specs.Account.{IsAccount}
use Rattle.ch_workers.specs.Options.{AreBad, queue_of}
use Rattle.ch_workers.specs.declared.options.Options.{Options}
use Rattle.ch_workers.specs.declared.built.Built.{Built}
use Rattle.ch_workers.specs.declared.error.BuildError.{BuildError}
use Rattle.ch_workers.specs.declared.error.BuildError.TheVariants.{OutOfMemory, BadOptions, Mixed}

-- the entries of the log lead from the start of the graph to a state where every node is contracted, and the hierarchy
-- is the one of that state
pub record IsMadeBy (graph : Graph) (log : List Contraction) (hierarchy : Hierarchy) : Type 0 where
  pub state : State
  pub reached : IsReached graph log state
  pub over : IsOver state
  pub made : IsMade graph state hierarchy

-- What was built of a graph, with this many lists of receipts: the hierarchy is the one to which the log leads from the
-- graph, it is right for the graph, and the receipts account for the log.
pub record IsBuilt (graph : Graph) (count : ℕ) (b : Built) : Type 0 where
  pub made : IsMadeBy graph b.log.items b.hierarchy
  pub right : IsRight graph b.hierarchy
  pub account : IsAccount b.log.items (map (λ v. v.items) b.receipts.items)
  pub lists : vec_len b.receipts ≡ count

-- The queue of the workers was closed; without workers there is none.
abbrev pub IsClosed : Options → Option Closed → Type 0
IsClosed o queue = MatchOption queue (o.workers ≡ 0) (λ closed. closed.queue ≡ queue_of o)

-- What a build of a graph promises by its result, with these options and this many lists of estimators.
pub record IsBuild (r : Result Built BuildError) (graph : Graph) (o : Options) (lists : ℕ) : Type 0 where
  pub bad : (r ≡ Err BadOptions) ↔ AreBad o lists
  pub ok : IfOk r (IsBuilt graph (o.workers + 1))
  pub queue : IfOk r (λ b. IsClosed o b.queue)

-- an error's name, as it is printed
abbrev pub error_name : BuildError → List ℕ
error_name OutOfMemory = codes "OutOfMemory"
error_name BadOptions = codes "BadOptions"
error_name Mixed = codes "Mixed"
