-- The order of contraction: what comes before what, also after one more node.
use Rattle.std.proofs.Common.{ℕ, ◌≡◌, ◌≢◌, ◌<◌, ◌≤◌, ◌⊎◌, ◌↔◌, List, [], ◌∷◌, ◌++◌, length, get_or, Contains, arith, refl, sym, ◌∙◌, inl, inr}
use Rattle.std.proofs.lemmas.Bool.{cases_lt}
use Rattle.std.proofs.lemmas.List.{get_or_append_left, get_or_push, length_push}
use Rattle.ch_laws.specs.Contraction.{State, Before, IsAlive}
use Rattle.ch_laws.specs.Members.{contains_place, place_of}

-- Nodes in the order

-- what comes before something is in the order
pub before-contains : {order : List ℕ} {x y : ℕ} → Before order x y → Contains order x
before-contains {order} {x} b = contains_place order b.place 0 x b.within b.here

-- and it comes before each node that isn't in the order
pub before-out : (order : List ℕ) (x y : ℕ) → Contains order x → (Contains order y → ⊥) → Before order x y
before-out order x y among out = record {
  place = among.0;
  within = among.1;
  here = place_of order x among;
  not_yet = λ k low is. out (contains_place order k 0 y (omega (arith, low, among.1)) is);
}

-- it stays before when a node is added
pub before-push : {order : List ℕ} {x y : ℕ} (v : ℕ) → Before order x y → Before (order ++ v ∷ []) x y
before-push {order} {x} {y} v b = record {
  place = b.place;
  within = omega (arith, length_push order v, b.within);
  here = get_or_append_left order (v ∷ []) 0 b.place b.within ∙ b.here;
  not_yet = λ k low is.
      let inside : k < length order = omega (arith, low, b.within) in
      b.not_yet k low (sym (get_or_append_left order (v ∷ []) 0 k inside) ∙ is);
}

-- the node that is added comes before each that isn't in the order
pub before-last : (order : List ℕ) (v y : ℕ) → (Contains order y → ⊥) → v ≢ y → Before (order ++ v ∷ []) v y
before-last order v y out apart = record {
  place = length order;
  within = omega (arith, length_push order v);
  here = get_or_push order v 0 (length order) refl;
  not_yet = λ k low is. elim (cases_lt k (length order)) [
    | inl inside ↦ out (contains_place order k 0 y inside (sym (get_or_append_left order (v ∷ []) 0 k inside) ∙ is))
    | inr past ↦
        let last : length order ≡ k = omega (arith, low, past) in
        apart (sym (get_or_push order v 0 k last) ∙ is)
  ];
}

-- what comes before a node when one is added did so already, or is the one that is added
pub before-back : (order : List ℕ) (v : ℕ) {x y : ℕ} → Before (order ++ v ∷ []) x y → Before order x y ⊎ ((x ≡ v) × (Contains order y → ⊥) × (x ≢ y))
before-back order v {y} b = elim (cases_lt b.place (length order)) [
  | inl inside ↦ inl (record {
    place = b.place;
    within = inside;
    here = sym (get_or_append_left order (v ∷ []) 0 b.place inside) ∙ b.here;
    not_yet = λ k low is.
        let in_order : k < length order = omega (arith, low, inside) in
        b.not_yet k low (get_or_append_left order (v ∷ []) 0 k in_order ∙ is);
  })
  | inr past ↦
      let last : length order ≡ b.place = omega (arith, past, b.within, length_push order v) in
      inr (
        sym b.here ∙ get_or_push order v 0 b.place last,
        λ among.
            let low : among.0 ≤ b.place = omega (arith, among.1, past) in
            b.not_yet among.0 low (get_or_append_left order (v ∷ []) 0 among.0 among.1 ∙ place_of order y among),
        λ same. b.not_yet b.place (omega arith) (b.here ∙ same),
      )
]

-- the places of a node other than the one that is added stay
pub place-kept : (order : List ℕ) (v x k : ℕ) → x ≢ v → ((k < length order) × (get_or order k 0 ≡ x)) ↔ ((k < length (order ++ v ∷ [])) × (get_or (order ++ v ∷ []) k 0 ≡ x))
place-kept order v x k apart = (
  λ h. (omega (arith, h.0, length_push order v), get_or_append_left order (v ∷ []) 0 k h.0 ∙ h.1),
  λ h. elim (cases_lt k (length order)) [
    | inl inside ↦ (inside, sym (get_or_append_left order (v ∷ []) 0 k inside) ∙ h.1)
    | inr past ↦
        let last : length order ≡ k = omega (arith, past, h.0, length_push order v) in
        absurd (apart (sym h.1 ∙ get_or_push order v 0 k last))
  ],
)

-- the place of the node that is added, where it wasn't there before
pub place-last : (order : List ℕ) (v k : ℕ) → (Contains order v → ⊥) → (length order ≡ k) ↔ ((k < length (order ++ v ∷ [])) × (get_or (order ++ v ∷ []) k 0 ≡ v))
place-last order v k out = (
  λ is. (omega (arith, is, length_push order v), get_or_push order v 0 k is),
  λ h. elim (cases_lt k (length order)) [
    | inl inside ↦ absurd (out (contains_place order k 0 v inside (sym (get_or_append_left order (v ∷ []) 0 k inside) ∙ h.1)))
    | inr past ↦ omega (arith, past, h.0, length_push order v)
  ],
)

-- Alive nodes

-- a node that comes before something is no longer alive
pub before_not_alive : {s : State} {x y : ℕ} → Before s.order x y → IsAlive s x → ⊥
before_not_alive b alive = alive.waits (before-contains b)
