-- The order of items against the comparisons of the library.
use Rattle.std.proofs.Common.{◌≡◌, ℕ, ◌+◌, ◌-◌, ◌<◌, false, List, length, zero, suc, get_or, sym, subst, add-zero, arith}
use Rattle.std.specs.List.{AllPairs}
use Rattle.std.specs.List.Sorted.{IsSorted}
use Rattle.std.specs.declared.cmp.Ordering.{Ordering}
use Rattle.std.proofs.lemmas.Bool.Decides.{nat_tests}
use Rattle.std.specs.Ordering.{is_lt, ordering_then, nat_cmp}
use Rattle.ch_multiqueue.specs.declared.item.Item.{Item}
use Rattle.ch_multiqueue.specs.Items.{IsNotAfter}

-- what isn't less by the derived comparison doesn't come before
pub not_after-from_not_less : (a b : Item) → is_lt (ordering_then (nat_cmp b.key a.key) (nat_cmp b.node a.node)) ≡ false → IsNotAfter a b
not_after-from_not_less a b h = (grind (arith, nat_tests), λ same. grind (arith, nat_tests))

not_after-refl : (a : Item) → IsNotAfter a a
not_after-refl a = omega arith

not_after-trans : (a b c : Item) → IsNotAfter a b → IsNotAfter b c → IsNotAfter a c
not_after-trans a b c x y = omega (arith, x, y)

-- the order of items as the comparison that the derived `Ord` makes
abbrev pub item_cmp : Item → Item → Ordering
item_cmp a b = ordering_then (nat_cmp a.key b.key) (nat_cmp a.node b.node)

-- in a sorted list an item isn't after one that is this much further on
not_after-further : (items : List Item) (d : Item) → IsSorted item_cmp items → (n i : ℕ) → i + n < length items → IsNotAfter (get_or items i d) (get_or items (i + n) d)
not_after-further items d sorted zero i h = subst (λ k. IsNotAfter (get_or items i d) (get_or items k d)) (sym (add-zero i)) (not_after-refl (get_or items i d))
not_after-further items d sorted (suc n) i h =
    let here : (i + n) + 1 < length items = omega (arith, h) in
    let same : (i + n) + 1 ≡ i + suc n = omega arith in
    let last : IsNotAfter (get_or items (i + n) d) (get_or items ((i + n) + 1) d) = not_after-from_not_less (get_or items (i + n) d) (get_or items ((i + n) + 1) d) (sorted (i + n) d (omega arith) here) in
    not_after-trans (get_or items i d) (get_or items (i + n) d) (get_or items (i + suc n) d) (not_after-further items d sorted n i (omega (arith, h))) (subst (λ k. IsNotAfter (get_or items (i + n) d) (get_or items k d)) same last)

-- a sorted list is in order, pair by pair
pub pairs-from_sorted : (items : List Item) → IsSorted item_cmp items → AllPairs IsNotAfter items
pairs-from_sorted items sorted i j d i<j j< =
    let place : i + (j - i) ≡ j = omega (arith, i<j) in
    let within : i + (j - i) < length items = omega (arith, i<j, j<) in
    subst (λ k. IsNotAfter (get_or items i d) (get_or items k d)) place (not_after-further items d sorted (j - i) i within)
