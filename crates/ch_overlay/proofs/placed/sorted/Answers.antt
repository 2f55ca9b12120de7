use Rattle.std.proofs.Common.{rules, ◌≡◌, ◌≤◌, arith}
use Rattle.std.proofs.lemmas.List.Sorted.{answers_always}
use Rattle.ch_overlay.specs.declared.placed.Placed.{Placed}
use Rattle.ch_overlay.proofs.SortedByKeys.{pairs-from_adjacent, pair_not_less}
use Rattle.ch_overlay.proofs.placed.sorted.Goals as goal

pub returns-clause-sorted : goal.returns-clause-sorted
returns-clause-sorted c =
    let up = c.sort_unstable_by_key.ensures.sorted (λ (p : Placed). (p.at, p.entry.other)) (answers_always _ _ _ (λ f a r g called. search rules)) in
    pairs-from_adjacent (λ (a b : Placed). (a.at ≤ b.at) × (a.at ≡ b.at → a.entry.other ≤ b.entry.other)) _
    (λ x y z h k. (
      omega (arith, h.0, k.0),
      λ same.
          let first : x.at ≡ y.at = omega (arith, h.0, k.0, same) in
          let second : y.at ≡ z.at = omega (arith, first, same) in
          let low = h.1 first in
          let high = k.1 second in
          omega (arith, low, high),
    ))
    (λ k d h. pair_not_less _ _ _ _ (up k d (omega arith) h))
