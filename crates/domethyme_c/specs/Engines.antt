-- What the engine of a handle keeps, and what handles of one hierarchy share.
use Rattle.std.specs.Prelude.{ℕ, ◌≡◌, ◌<◌, List, length, All, Option, Some, IfSome, [], ◌∷◌, None}
use Rattle.ch_graph.specs.Hierarchy.{Hierarchy, version_number}
use Rattle.ch_table.specs.Selection.{Selection, IsSelection}
use Rattle.domethyme_c.specs.declared.summing.Summing.{Summing}
use Rattle.domethyme_c.specs.Summing.{IsSumming}
use Rattle.domethyme_c.specs.declared.code.TheConstants.{NODE_RANGE, OUT_OF_MEMORY}
use mathlib.Core.Option.{some}
use lib.ListN.{get_elem?}

-- the hierarchy is kept too, the version is its own, a selection is one of it, and it is the hierarchy that is shared
pub record IsEngine (h shared : Hierarchy) (version : ℕ) (kept : Option Selection) (sharing : Option Hierarchy) (summing : Option Summing) : Type 0 where
  pub sums : IfSome summing (IsSumming h)
  pub same : shared ≡ h
  pub same_version : version ≡ version_number h.version
  pub selected : IfSome kept (IsSelection h)
  pub shares : sharing ≡ Some h

-- why there is no selection of these targets
pub data IsNoSelection (h : Hierarchy) (targets : List ℕ) (code : ℕ) : Type 0 where
  out_of_range : code ≡ NODE_RANGE → (All (λ t. t < length h.ranks) targets → ⊥) → IsNoSelection h targets code
  no_memory : code ≡ OUT_OF_MEMORY → All (λ t. t < length h.ranks) targets → IsNoSelection h targets code

-- Nothing was shared yet, and the only handle doesn't know the hierarchy; or all that is shared is of the one hierarchy that
-- each handle knows.
pub data AreOfOne (shared : List Hierarchy) (known : List (Option Hierarchy)) : Type 0 where
  blank : shared ≡ [] → known ≡ None ∷ [] → AreOfOne shared known
  named : (h : Hierarchy) → All (λ (s : Hierarchy). s ≡ h) shared → ((pass : ℕ) (k : Option Hierarchy) → get_elem? known pass ≡ some k → k ≡ Some h) → AreOfOne shared known
