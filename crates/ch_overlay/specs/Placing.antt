-- The entries that shortcuts make, with the nodes whose rows they are for. Contracts of private functions alone cite it.
use Rattle.std.specs.Prelude.{ℕ, ◌≡◌, ◌<◌, ◌⊎◌, List, Option, Some, map, All, AllPairs}
use Rattle.std.specs.List.Sorted.{IsPermutation}
use Rattle.ch_laws.specs.declared.shortcut.Shortcut.{Shortcut}
use Rattle.ch_laws.specs.Rows.{Row}
use Rattle.ch_overlay.specs.Prepared.{IsMadeBy, LeaveOut}
use Rattle.ch_overlay.specs.declared.placed.Placed.{Placed}

-- the entry of a shortcut in the row of the node that it leaves, and of the one that it comes to
abbrev pub out_place : Option ℕ → Shortcut → Placed
out_place middle p = record { at = p.from; entry = record { other = p.to; cost = p.cost; middle = middle } }

abbrev pub in_place : Option ℕ → Shortcut → Placed
in_place middle p = record { at = p.to; entry = record { other = p.from; cost = p.cost; middle = middle } }

-- by the node of the row, and then by the other node; no two have the same ends
abbrev pub IsInOrder : List Placed → Type 0
IsInOrder = AllPairs (λ a b. (a.at < b.at) ⊎ ((a.at ≡ b.at) × (a.entry.other < b.entry.other)))

-- the entries are those of the shortcuts that a contraction of `gone` puts in
pub record ArePlaced (gone : ℕ) (put : List Shortcut) (out inn : List Placed) : Type 0 where
  pub outs : IsPermutation (map (out_place (Some gone)) put) out
  pub inns : IsPermutation (map (in_place (Some gone)) put) inn
  pub apart : LeaveOut gone put

-- the rows of these nodes, changed from those that `near` has of them
pub record AreChanged (gone : ℕ) (near : List (ℕ × Row)) (out inn : List Placed) (nodes : List ℕ) (new : List (ℕ × Row)) : Type 0 where
  pub nodes_are : map (λ a. a.0) new ≡ nodes
  pub changed : (put : List Shortcut) → ArePlaced gone put out inn → All (IsMadeBy near put gone) new
