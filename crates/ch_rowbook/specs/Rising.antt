-- The laws of fronts that rise.
use Rattle.std.specs.Prelude.{ℕ, ◌≡◌, ◌≤◌, List, slice_index}
use Rattle.std.proofs.Common.{sym, subst, arith}
use Rattle.ch_rowbook.specs.Words.{IsBelow}

pub below_refl : (xs ys : List ℕ) → ys ≡ xs → IsBelow xs ys
below_refl xs ys e j = subst (λ (l : List ℕ). slice_index xs j ≤ slice_index l j) (sym e) (omega arith)

pub below_trans : (xs ys zs : List ℕ) → IsBelow xs ys → IsBelow ys zs → IsBelow xs zs
below_trans xs ys zs h k j = let a : slice_index xs j ≤ slice_index ys j = h j in let b : slice_index ys j ≤ slice_index zs j = k j in omega (arith, a, b)

pub below_at : (xs ys : List ℕ) (x v : ℕ) → IsBelow xs ys → v ≤ slice_index xs x → v ≤ slice_index ys x
below_at xs ys x v h k = let a : slice_index xs x ≤ slice_index ys x = h x in omega (arith, a, k)
