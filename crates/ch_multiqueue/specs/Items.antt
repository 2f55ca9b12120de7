-- The order of items, and the least of several.
use Rattle.std.specs.Prelude.{◌≡◌, ◌<◌, ◌≤◌, List, All, Contains, ⊤}
use Rattle.std.specs.declared.option.Option.{Option}
use Rattle.std.specs.declared.option.Option.TheVariants.{Some, None}
use Rattle.ch_multiqueue.specs.declared.item.Item.{Item}
use Rattle.ch_multiqueue.specs.declared.better.Better.{Better}
use Rattle.ch_multiqueue.specs.declared.better.Better.TheVariants.{First, Second, Neither}

-- a comes before b, or they are equal: the keys decide, and of equal keys the nodes
abbrev pub IsNotAfter : Item → Item → Type 0
IsNotAfter a b = (a.key ≤ b.key) × (a.key ≡ b.key → a.node ≤ b.node)

-- a comes before b
abbrev pub IsBefore : Item → Item → Type 0
IsBefore a b = (a.key ≤ b.key) × (a.key ≡ b.key → a.node < b.node)

-- a is one of the items, and none comes before it
pub record IsLeastOf (items : List Item) (a : Item) : Type 0 where
  pub there : Contains items a
  pub least : All (IsNotAfter a) items

-- which of two tops is the better one: the first where they are equal, and any before none
abbrev pub IsBetter : Option Item → Option Item → Better → Type 0
IsBetter (Some a) (Some b) First = IsNotAfter a b
IsBetter (Some a) (Some b) Second = IsBefore b a
IsBetter (Some a) None First = ⊤
IsBetter None (Some b) Second = ⊤
IsBetter None None Neither = ⊤
IsBetter _ _ _ = ⊥
