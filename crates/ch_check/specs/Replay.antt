-- A graph whose nodes are contracted once more.
use Rattle.std.specs.Prelude.{ℕ, ◌≡◌, ◌+◌, ◌*◌, ◌^◌, ◌<◌, ◌≤◌, List, [], ◌∷◌, ◌++◌, length, All}
use Rattle.ch_graph.specs.Graph.{Graph}
use Rattle.ch_graph.specs.Limits.{IsGraph, bound_of}
use Rattle.ch_laws.specs.declared.shortcut.Shortcut.{Shortcut}
use Rattle.ch_laws.specs.Contraction.{Contraction, IsReached, IsPlan, IsWitnessed}
use Rattle.ch_overlay.specs.Overlay.{Overlay, IsOverlay, state_of}

-- the graph, and the rows that the contractions so far lead to
pub record Replay : Type 0 where
  pub graph : Graph
  pub overlay : Overlay

-- some lawful contractions lead from the start of the graph to the rows
pub record IsReplay (r : Replay) : Type 0 where
  pub graph : IsGraph r.graph
  pub overlay : IsOverlay r.overlay
  pub bound : r.overlay.bound ≡ bound_of r.graph
  pub log : List Contraction
  pub reached : IsReached r.graph log (state_of r.overlay)

-- shortcuts that a contraction of v may put in: they are a plan, and each other pair by way of v is heavy or has a witness
pub record MayPut (o : Overlay) (v : ℕ) (put : List Shortcut) : Type 0 where
  pub plan : IsPlan o.bound (state_of o) v put
  pub witnessed : IsWitnessed o.bound (state_of o) v put

-- v is contracted, and the graph is the same
pub record IsContracted (old : Replay) (v : ℕ) (new : Replay) : Type 0 where
  pub graph : new.graph ≡ old.graph
  pub nodes : length new.overlay.rows ≡ length old.overlay.rows
  pub order : new.overlay.order ≡ old.overlay.order ++ v ∷ []

-- Versions from `next` on may be given, and there are enough for all contractions that are left.
pub record HasVersions (o : Overlay) (next : ℕ) : Type 0 where
  pub above : All (λ v. v < next) o.versions
  pub few : next ≤ 2 ^ 26 * (1 + length o.order)
