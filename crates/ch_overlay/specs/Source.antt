-- Rows as a source answers them.
use Rattle.std.specs.Prelude.{ℕ, ◌-◌, ◌^◌, cond, nat_eq, List, [], ◌∷◌, Option, Some, None, All, codes}
use Rattle.std.specs.Arc.{arc_value}
use Rattle.ch_cost.specs.declared.cost.Cost.{Cost}
use Rattle.ch_cost.specs.Cost.{cost_of_arcs, IsWithin}
use Rattle.ch_laws.specs.declared.entry.Entry.{Entry}
use Rattle.ch_laws.specs.Rows.{Row}
use Rattle.ch_overlay.specs.declared.source.Seen.{Seen}
use Rattle.ch_overlay.specs.declared.source.SeeError.{SeeError}
use Rattle.ch_overlay.specs.declared.source.SeeError.TheVariants.{OutOfMemory, Unseen}
use Rattle.ch_overlay.specs.Overlay.{IsSound}

-- the row that was answered
abbrev pub row_in : Seen → Row
row_in s = arc_value s.row

-- the row of a node, by the first answer that is of this node
abbrev pub row_of : List Seen → ℕ → Option Row
row_of [] x = None
row_of (s ∷ seen) x = cond (nat_eq s.node x) (Some (row_in s)) (row_of seen x)

-- what the arcs of a walk that repeats no node can cost together in the largest graph
abbrev pub IsBound : Cost → Type 0
IsBound bound = IsWithin bound (cost_of_arcs (2 ^ 25 - 1) (2 ^ 32 - 1))

-- an answer that can be relied on, in a graph of as many nodes as there can be
abbrev pub IsSeenRow : Cost → Seen → Type 0
IsSeenRow bound s = IsSound (2 ^ 25) bound s.node (row_in s)

-- each node that the row names is of this kind
pub record NamesAlone (IsKind : ℕ → Type 0) (r : Row) : Type 0 where
  pub out : All (λ (e : Entry). IsKind e.other) r.out
  pub inn : All (λ (e : Entry). IsKind e.other) r.inn

-- the variant's name
abbrev pub error_name : SeeError → List ℕ
error_name OutOfMemory = codes "OutOfMemory"
error_name Unseen = codes "Unseen"
