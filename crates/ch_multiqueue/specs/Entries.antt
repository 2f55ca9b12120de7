-- The entries of a heap: items in the reversed order, since the greatest entry of a heap comes out first.
use Rattle.std.specs.Prelude.{List, map}
use Rattle.std.specs.declared.cmp.Ordering.{Ordering}
use Rattle.std.specs.declared.cmp.Reverse.{Reverse}
use Rattle.std.specs.Ordering.{nat_cmp, ordering_then}
use Rattle.ch_multiqueue.specs.declared.item.Item.{Item}

-- the smaller key comes first, and of equal keys the smaller node
abbrev pub entry_cmp : Reverse Item → Reverse Item → Ordering
entry_cmp x y = ordering_then (nat_cmp y.0.key x.0.key) (nat_cmp y.0.node x.0.node)

-- the item of an entry
abbrev pub item_of : Reverse Item → Item
item_of e = e.0

-- the items of entries
abbrev pub items_of : List (Reverse Item) → List Item
items_of entries = map item_of entries
