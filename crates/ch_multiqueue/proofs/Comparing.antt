-- What it says that two lists of items, each put in order, are equal.
use Rattle.std.proofs.Common.{◌≡◌, ◌&&◌, ◌++◌, nat_eq, List, AllPairs, subst, sym}
use Rattle.std.specs.Prelude.{Option, Some, None, IfSome}
use Rattle.std.specs.Global.{Vec}
use Rattle.std.specs.Bool.{Decides}
use Rattle.std.proofs.lemmas.Bool.Decides.{Decides-and, Decides-eqb, Decides-like}
use Rattle.std.proofs.lemmas.List.Sorted.{IsPermutation-sym, IsPermutation-trans}
use Rattle.std.specs.List.Sorted.{IsPermutation}
use Rattle.ch_multiqueue.specs.declared.item.Item.{Item}
use Rattle.ch_multiqueue.specs.Accounts.{all_put, all_taken}
use Rattle.ch_multiqueue.specs.Closing.{IsLeft}
use Rattle.ch_multiqueue.specs.Items.{IsNotAfter}
use Rattle.ch_multiqueue.specs.Passes.{Pass}

same_item : (a b : Item) → (a.key ≡ b.key) × (a.node ≡ b.node) → a ≡ b
same_item a b h = λ i. record { key = h.0 i; node = h.1 i }

-- the derived comparison of two items decides whether they are one
pub item_decides : (a b : Item) → Decides (nat_eq a.key b.key && nat_eq a.node b.node) (a ≡ b)
item_decides a b =
    Decides-like (nat_eq a.key b.key && nat_eq a.node b.node) (same_item a b) (λ (e : a ≡ b). ((λ i. (e i).key), (λ i. (e i).node)))
    (Decides-and (nat_eq a.key b.key) (nat_eq a.node b.node) (Decides-eqb a.key b.key) (Decides-eqb a.node b.node))

-- two lists that are the same once they are in order are the same but for the order
same_from_ordered : (xs ys ordered other : List Item) → IsPermutation xs ordered → IsPermutation ys other → ordered ≡ other → IsPermutation xs ys
same_from_ordered xs ys ordered other x y same =
    IsPermutation-trans xs ordered ys x (subst (λ (l : List Item). IsPermutation l ys) (sym same) (IsPermutation-sym ys other y))

-- what is left agrees with the accounts, where they are the same
pub left_if_same : (passes : List Pass) (left put gone : Vec Item) (found : Option (Vec Item)) → AllPairs IsNotAfter left.items
    → IsPermutation (all_put passes) put.items → IsPermutation (all_taken passes ++ left.items) gone.items
    → IfSome found (λ items. (items ≡ left) × (put.items ≡ gone.items)) → IfSome found (λ items. IsLeft passes items.items)
left_if_same passes left put gone None sorted all rest same = tt
left_if_same passes left put gone (Some items) sorted all rest same =
    let balanced = same_from_ordered (all_put passes) (all_taken passes ++ left.items) put.items gone.items all rest same.1 in
    rw same.0 (record { sorted = sorted; balanced = balanced })
