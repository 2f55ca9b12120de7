-- What each event does to a world, and what is returned.
use Rattle.std.specs.Prelude.{ℕ, ◌≡◌, ◌<◌, List, [], ◌∷◌, length}
use Rattle.ch_graph.specs.Graph.{Graph}
use Rattle.ch_contract.specs.Ledger.{IsContracted}
use Rattle.ch_contract.specs.Commit.{IsRefusal}
use Rattle.ch_core.specs.declared.event.Event.{Event}
use Rattle.ch_core.specs.declared.event.Event.TheVariants.{Read, Offer, Forget}
use Rattle.ch_core.specs.declared.event.Outcome.{Outcome}
use Rattle.ch_core.specs.declared.event.Outcome.TheVariants.{Shown, Committed, Refused, Forgotten, NoSuch}
use Rattle.ch_core.specs.World.{World, IsOpening, IsRead, MayRead, IsForgotten, MayOffer, IsAccepted}

-- an event, its outcome, and the world afterwards
abbrev pub IsStep : World → Event → Outcome → World → Type 0
IsStep old (Read worker node version) Shown new = IsRead old worker node version new
IsStep old (Read worker node version) NoSuch new = (MayRead old worker node version → ⊥) × (new ≡ old)
IsStep old (Offer worker p) (Committed receipt) new = IsAccepted old worker p receipt new
IsStep old (Offer worker p) (Refused error) new = MayOffer old worker p × IsRefusal old.ledger p error × (new ≡ old)
IsStep old (Offer worker p) NoSuch new = (MayOffer old worker p → ⊥) × (new ≡ old)
IsStep old (Forget worker) Forgotten new = IsForgotten old worker new
IsStep old (Forget worker) NoSuch new = (worker < length old.views → ⊥) × (new ≡ old)
IsStep old _ _ new = ⊥

-- events, one after the other, and their outcomes
pub data Runs : World → List Event → List Outcome → World → Type 0 where
  ends : {w : World} → Runs w [] [] w
  goes : {old mid new : World} {event : Event} {outcome : Outcome} {events : List Event} {outcomes : List Outcome} → IsStep old event outcome mid → Runs mid events outcomes new → Runs old (event ∷ events) (outcome ∷ outcomes) new

-- the same from the start of a graph with this many workers
pub record IsRun (g : Graph) (workers : ℕ) (events : List Event) (outcomes : List Outcome) (new : World) : Type 0 where
  pub start : World
  pub opens : IsOpening g workers start
  pub runs : Runs start events outcomes new

-- what an event lawfully does: an accepted offer is a lawful contraction
abbrev pub IsLawful : World → Event → Outcome → World → Type 0
IsLawful old (Offer worker p) (Committed receipt) new = IsContracted old.ledger p.node p.shortcuts receipt new.ledger
IsLawful old _ _ new = Unit {0}
