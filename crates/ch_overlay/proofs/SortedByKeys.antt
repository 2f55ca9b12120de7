-- Lists that are sorted by a pair or a triple of numbers.
use Rattle.std.proofs.Common.{ℕ, zero, suc, ◌≡◌, ◌+◌, ◌<◌, ◌≤◌, false, List, length, get_or, AllPairs, arith, subst, inl, inr, nat_cmp, is_lt}
use Rattle.std.specs.Ordering.{ordering_then}
use Rattle.std.proofs.lemmas.Bool.{cases_lt}
use Rattle.std.proofs.lemmas.Bool.Decides.{nat_tests}
use Rattle.ch_graph.specs.declared.road.Road.{Road}
use Rattle.ch_overlay.specs.Opening.{ComesNoLater}

-- what holds of neighbours holds of each two
pub pairs-from_adjacent : {X : Type 0} (R : X → X → Type 0) (xs : List X) → ((a b c : X) → R a b → R b c → R a c)
    → ((k : ℕ) (d : X) → k + 1 < length xs → R (get_or xs k d) (get_or xs (k + 1) d)) → AllPairs R xs
pairs-from_adjacent R xs trans adjacent i j d less inside = up j d less inside
  where
    up : (j : ℕ) (d : _) → i < j → j < length xs → R (get_or xs i d) (get_or xs j d)
    up zero d less inside = absurd (omega (arith, less))
    up (suc k) d less inside = elim (cases_lt i k) [
      | inl before ↦ trans _ _ _ (up k d before (omega (arith, inside))) (subst (λ n. R (get_or xs k d) (get_or xs n d)) (next k) (adjacent k d (omega (arith, inside))))
      | inr past ↦
          let same : k ≡ i = omega (arith, less, past) in
          subst (λ n. R (get_or xs n d) (get_or xs (suc k) d)) same (subst (λ n. R (get_or xs k d) (get_or xs n d)) (next k) (adjacent k d (omega (arith, inside))))
    ]
      where
        next : (k : ℕ) → k + 1 ≡ suc k
        next k = omega arith

-- two numbers as a comparison has them
pub pair_not_less : (a b c d : ℕ) → is_lt (ordering_then (nat_cmp c a) (nat_cmp d b)) ≡ false → (a ≤ c) × (a ≡ c → b ≤ d)
pair_not_less a b c d e = (grind (arith, nat_tests, e), λ same. grind (arith, nat_tests, e, same))

pub no_later : (a b : Road) → is_lt (ordering_then (ordering_then (nat_cmp b.from a.from) (nat_cmp b.to a.to)) (nat_cmp b.weight a.weight)) ≡ false → ComesNoLater a b
no_later a b e = record {
  from = grind (arith, nat_tests, e);
  to = λ same. grind (arith, nat_tests, e, same);
  weight = λ first second. grind (arith, nat_tests, e, first, second);
}

pub no_later_trans : (a b c : Road) → ComesNoLater a b → ComesNoLater b c → ComesNoLater a c
no_later_trans a b c h k = record {
  from = omega (arith, h.from, k.from);
  to = λ same. let ab : a.from ≡ b.from = omega (arith, h.from, k.from, same) in let bc : b.from ≡ c.from = omega (arith, ab, same) in
      let first = h.to ab in let second = k.to bc in omega (arith, first, second);
  weight = λ same ends.
      let ab : a.from ≡ b.from = omega (arith, h.from, k.from, same) in let bc : b.from ≡ c.from = omega (arith, ab, same) in
      let to_ab = h.to ab in let to_bc = k.to bc in
      let same_ab : a.to ≡ b.to = omega (arith, to_ab, to_bc, ends) in let same_bc : b.to ≡ c.to = omega (arith, same_ab, ends) in
      let first = h.weight ab same_ab in let second = k.weight bc same_bc in omega (arith, first, second);
}
