-- The contracted nodes of an overlay, each once, first to last.
use Rattle.std.proofs.Common.{ℕ, ◌≡◌, ◌≢◌, ◌<◌, ◌≤◌, ◌⊎◌, List, [], ◌∷◌, ◌++◌, length, get_or, AllPairs, Contains, arith, ap, sym, ◌∙◌, inl, inr}
use Rattle.std.proofs.lemmas.Bool.{cases_eq, cases_lt}
use Rattle.std.proofs.lemmas.List.{length_push}
use Rattle.std.proofs.lemmas.List.Elements.{All-push}
use Rattle.std.proofs.lemmas.List.Quantifiers.{all_pairs_push}
use Rattle.ch_laws.specs.Contraction.{Before, IsAlive}
use Rattle.ch_laws.specs.Members.{contains_place, place_of}
use Rattle.ch_overlay.specs.Overlay.{Overlay, IsOverlay, state_of}
use Rattle.ch_overlay.specs.Ranges.{distinct_below-few}

-- of two nodes in an order without repeats the one of the earlier place comes before the other
before_by_place : (order : List ℕ) (x y p q : ℕ) → AllPairs (λ x y. x ≢ y) order → p < q → q < length order → get_or order p 0 ≡ x → get_or order q 0 ≡ y → Before order x y
before_by_place order x y p q once less inside here there = record {
  place = p;
  within = omega (arith, less, inside);
  here = here;
  not_yet = λ k low is. once k q 0 (omega (arith, low, less)) inside (is ∙ sym there);
}

-- so of two different nodes one comes before the other
pub either_before : (order : List ℕ) (x y : ℕ) → AllPairs (λ x y. x ≢ y) order → x ≢ y → Contains order x → Contains order y → Before order x y ⊎ Before order y x
either_before order x y once apart first second = elim (cases_lt first.0 second.0) [
  | inl less ↦ inl (before_by_place order x y first.0 second.0 once less second.1 (place_of order x first) (place_of order y second))
  | inr at_most ↦ elim (cases_eq first.0 second.0) [
    | inl here ↦ absurd (apart (sym (place_of order x first) ∙ ap (λ k. get_or order k 0) here ∙ place_of order y second))
    | inr other ↦ inr (before_by_place order y x second.0 first.0 once (omega (arith, at_most, other)) first.1 (place_of order y second) (place_of order x first))
  ]
]

-- there are no more of them than nodes
pub order_fits : (o : Overlay) → IsOverlay o → length o.order ≤ length o.rows
order_fits o holds = distinct_below-few o.order (length o.rows) holds.once holds.plain.in_range

-- a node that isn't contracted leaves room for one more
pub order_has_room : (o : Overlay) (v : ℕ) → IsOverlay o → IsAlive (state_of o) v → length o.order < length o.rows
order_has_room o v holds alive =
    let more = distinct_below-few (o.order ++ v ∷ []) (length o.rows)
    (all_pairs_push (λ x y. x ≢ y) o.order v holds.once (λ k d h same. alive.waits (contains_place o.order k d v h same)))
    (All-push (λ x. x < length o.rows) o.order v holds.plain.in_range alive.in_range) in
    omega (arith, more, length_push o.order v)
