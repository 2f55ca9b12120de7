use Rattle.std.proofs.Common.{rules, ◌≡◌, ◌≤◌, arith}
use Rattle.std.proofs.lemmas.List.Sorted.{answers_always}
use Rattle.ch_graph.specs.declared.link.Link.{Link}
use Rattle.ch_turned.proofs.Ordered.{pairs-from_adjacent, pair_not_less}
use Rattle.ch_turned.proofs.turning.sorted.Goals as goal

pub returns-clause-sorted : goal.returns-clause-sorted
returns-clause-sorted c =
    let up = c.sort_unstable_by_key.ensures.sorted (λ (l : Link). (l.from, l.to)) (answers_always _ _ _ (λ f a r g called. search rules)) in
    pairs-from_adjacent (λ (a b : Link). (a.from ≤ b.from) × (a.from ≡ b.from → a.to ≤ b.to)) _
    (λ x y z h k. (
      omega (arith, h.0, k.0),
      λ same.
          let first : x.from ≡ y.from = omega (arith, h.0, k.0, same) in
          let second : y.from ≡ z.from = omega (arith, first, same) in
          let low = h.1 first in
          let high = k.1 second in
          omega (arith, low, high),
    ))
    (λ k d h. pair_not_less _ _ _ _ (up k d (omega arith) h))
