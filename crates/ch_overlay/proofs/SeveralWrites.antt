-- What a list has after several writes.
use Rattle.std.proofs.Common.{ℕ, ◌≡◌, ◌≢◌, ◌<◌, List, [], ◌∷◌, ◌++◌, length, get_or, set, map, Contains, AllPairs, All, arith, refl, sym, ◌∙◌, ap, subst, inl, inr}
use Rattle.std.proofs.lemmas.List.{length-set, get_or-set_same, get_or-set_other, map-set, get_or-map, length-map}
use Rattle.ch_overlay.specs.Change.{puts}
use Rattle.ch_laws.specs.Members.{contains_first, contains_later, contains_cases, contains_none, pairs_first, pairs_later}

pub length-puts : {A : Type 0} (ps : List (ℕ × A)) (xs : List A) → length (puts xs ps) ≡ length xs
length-puts [] xs = refl
length-puts (p ∷ ps) xs = length-puts ps (set xs p.0 p.1) ∙ length-set xs p.0 p.1

-- a place where nothing is written
pub puts-other : {A : Type 0} (ps : List (ℕ × A)) (xs : List A) (x : ℕ) (d : A) → ((p : ℕ × A) → Contains ps p → p.0 ≢ x) → get_or (puts xs ps) x d ≡ get_or xs x d
puts-other [] xs x d others = refl
puts-other (p ∷ ps) xs x d others =
    puts-other ps (set xs p.0 p.1) x d (λ q h. others q (contains_later p ps q h))
    ∙ get_or-set_other xs p.0 x p.1 d (λ same. others p (contains_first p ps) (sym same))

-- a place where one thing is written
pub puts-here : {A : Type 0} (ps : List (ℕ × A)) (xs : List A) (p : ℕ × A) (d : A) → AllPairs (λ a b. a.0 ≢ b.0) ps → Contains ps p → p.0 < length xs → get_or (puts xs ps) p.0 d ≡ p.1
puts-here [] xs p d once h inside = absurd (contains_none p h)
puts-here {A} (q ∷ ps) xs p d once h inside = elim (contains_cases q ps p h) [
  | inl same ↦ subst (λ (r : ℕ × A). get_or (puts xs (q ∷ ps)) r.0 d ≡ r.1) same
      (puts-other ps (set xs q.0 q.1) q.0 d (λ r later is. pairs_first (λ (a b : ℕ × A). a.0 ≢ b.0) q ps once r later (sym is))
      ∙ get_or-set_same xs q.0 q.1 d (subst (λ (r : ℕ × A). r.0 < length xs) (sym same) inside))
  | inr later ↦ puts-here ps (set xs q.0 q.1) p d (pairs_later (λ (a b : ℕ × A). a.0 ≢ b.0) q ps once) later (omega (arith, length-set xs q.0 q.1, inside))
]

-- writes of what f makes of each
pub map-puts : {A B : Type 0} (f : A → B) (ps : List (ℕ × A)) (xs : List A) → map f (puts xs ps) ≡ puts (map f xs) (map (λ p. (p.0, f p.1)) ps)
map-puts f [] xs = refl
map-puts f (p ∷ ps) xs = map-puts f ps (set xs p.0 p.1) ∙ ap (λ ys. puts ys (map (λ p. (p.0, f p.1)) ps)) (map-set f xs p.0 p.1)

pub puts-push : {A : Type 0} (ps : List (ℕ × A)) (xs : List A) (p : ℕ × A) → puts xs (ps ++ p ∷ []) ≡ set (puts xs ps) p.0 p.1
puts-push [] xs p = refl
puts-push (q ∷ ps) xs p = puts-push ps (set xs q.0 q.1) p

-- what holds of the images of a list's elements, all of them
pub all-mapped : {A B : Type 0} (P : B → Type 0) (f : A → B) (xs : List A) → All P (map f xs) → All (λ x. P (f x)) xs
all-mapped P f xs h k d inside = subst P (get_or-map f xs k d (f d) inside) (h k (f d) (omega (arith, length-map xs f, inside)))
