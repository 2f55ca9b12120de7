-- The items of a heap, as its entries come and go.
use Rattle.std.proofs.Common.{◌≡◌, ◌<◌, false, List, [], ◌∷◌, length, refl, sym, ap, arith, get_or}
use Rattle.std.proofs.lemmas.List.Elements.{All-map, All-from_recursion, All-weaker}
use Rattle.std.proofs.lemmas.List.Sorted.{IsPermutation-map, IsPermutation-sym, Contains-permutation}
use Rattle.std.specs.List.{All}
use Rattle.std.specs.List.Sorted.{IsPermutation}
use Rattle.std.specs.Ordering.{is_lt}
use Rattle.std.specs.BinaryHeap.{IsUpperBound}
use Rattle.std.specs.declared.cmp.Reverse.{Reverse}
use Rattle.ch_multiqueue.specs.declared.item.Item.{Item}
use Rattle.ch_multiqueue.specs.Items.{IsNotAfter, IsLeastOf}
use Rattle.ch_multiqueue.specs.Entries.{entry_cmp, item_of, items_of}
use Rattle.ch_multiqueue.proofs.Orders.{not_after-from_not_less}

-- an entry that no other is greater than has the least item
pub least-from_greatest : (x : Reverse Item) (entries : List (Reverse Item)) → IsUpperBound entry_cmp x entries → All (IsNotAfter x.0) (items_of entries)
least-from_greatest x entries top =
    All-map (IsNotAfter x.0) item_of entries (All-weaker (λ e. is_lt (entry_cmp x e) ≡ false) (λ e. IsNotAfter x.0 (item_of e)) (λ e h. not_after-from_not_less x.0 e.0 h) entries (All-from_recursion (λ e. is_lt (entry_cmp x e) ≡ false) entries top))

-- an item is put in
pub items-put : (item : Item) (old new : List (Reverse Item)) → IsPermutation (record { 0 = item } ∷ old) new → IsPermutation (item ∷ items_of old) (items_of new)
items-put item old new moved = IsPermutation-map item_of (record { 0 = item } ∷ old) new moved

-- the greatest entry is taken out
pub items-taken : (x : Reverse Item) (old new : List (Reverse Item)) → IsPermutation old (x ∷ new) → IsPermutation (items_of old) (x.0 ∷ items_of new)
items-taken x old new moved = IsPermutation-map item_of old (x ∷ new) moved

-- its item is the least
pub least-taken : (x : Reverse Item) (old new : List (Reverse Item)) → IsPermutation old (x ∷ new) → IsUpperBound entry_cmp x old → IsLeastOf (items_of old) x.0
least-taken x old new moved top = record {
  there = Contains-permutation (x.0 ∷ items_of new) (items_of old) x.0 (IsPermutation-sym (items_of old) (x.0 ∷ items_of new) (items-taken x old new moved)) (0, omega arith, refl);
  least = least-from_greatest x old top;
}

-- the first entry is looked at
pub least-first : (x : Reverse Item) (entries : List (Reverse Item)) → 0 < length entries → x ≡ get_or entries 0 x → IsUpperBound entry_cmp x entries → IsLeastOf (items_of entries) x.0
least-first x [] some first top = absurd (omega (arith, some))
least-first x (y ∷ ys) some first top = record {
  there = (0, omega arith, ap item_of (sym first));
  least = least-from_greatest x (y ∷ ys) top;
}
