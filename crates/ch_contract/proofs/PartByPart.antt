-- Lists that are made of a part for each element of another.
use Rattle.std.proofs.Common.{◌≡◌, List, [], ◌∷◌, ◌++◌, Contains, append_assoc, refl, ap, sym, subst, ◌∙◌, arith, inl, inr}
use Rattle.std.proofs.lemmas.List.{append-nil}
use Rattle.std.proofs.lemmas.List.Elements.{Contains-append_cases, Contains-append_left, Contains-append_right}
use Rattle.ch_laws.specs.Members.{contains_cases, contains_first, contains_later}
use Rattle.ch_contract.specs.Listed.{InParts, ends, goes}

module _ {A B : Type 0} (R : A → List B → Type 0) where
  pub parts_none : {zs : List B} → InParts R [] zs → zs ≡ []
  parts_none ends = refl

  -- the first part and the others
  pub parts_first : {x : A} {xs : List A} {zs : List B} → InParts R (x ∷ xs) zs → (part : List B) × (rest : List B) × R x part × InParts R xs rest × (zs ≡ part ++ rest)
  parts_first (goes {part = part} {rest = rest} r more) = (part, rest, r, more, refl)

  -- a part more at the end
  pub parts_push : {xs : List A} {zs : List B} (x : A) (part : List B) → InParts R xs zs → R x part → InParts R (xs ++ x ∷ []) (zs ++ part)
  parts_push x part ends r = subst (λ (ys : List B). InParts R (x ∷ []) ys) (append-nil part) (goes r ends)
  parts_push x part (goes {x = y} {xs = xs} {part = first} {rest = rest} s more) r =
      subst (λ (ys : List B). InParts R (y ∷ xs ++ x ∷ []) ys) (sym (append_assoc first rest part)) (goes s (parts_push x part more r))

  -- what an element of a part is of
  pub parts_from : {xs : List A} {zs : List B} → InParts R xs zs → (z : B) → Contains zs z → (x : A) × Contains xs x × ((part : List B) × R x part × Contains part z)
  parts_from ends z among = absurd (omega (arith, among.1))
  parts_from (goes {x = x} {xs = xs} {part = part} {rest = rest} r more) z among = elim (Contains-append_cases part rest z among) [
    | inl here ↦ (x, contains_first x xs, (part, r, here))
    | inr there ↦
        let found = parts_from more z there in
        (found.0, contains_later x xs found.0 found.1, found.2)
  ]

  -- the part of an element
  pub parts_at : {xs : List A} {zs : List B} → InParts R xs zs → (x : A) → Contains xs x → (part : List B) × R x part × ((z : B) → Contains part z → Contains zs z)
  parts_at ends x among = absurd (omega (arith, among.1))
  parts_at (goes {x = y} {xs = xs} {part = part} {rest = rest} r more) x among = elim (contains_cases y xs x among) [
    | inl here ↦ (part, subst (λ (w : A). R w part) here r, λ z h. Contains-append_left part rest z h)
    | inr later ↦
        let found = parts_at more x later in
        (found.0, found.1, λ z h. Contains-append_right part rest z (found.2 z h))
  ]

  -- the parts of the elements of a list of two parts
  pub parts_split : (xs ys : List A) {zs : List B} → InParts R (xs ++ ys) zs → (left : List B) × (right : List B) × InParts R xs left × InParts R ys right × (zs ≡ left ++ right)
  parts_split [] ys {zs = zs} parts = ([], zs, ends, parts, refl)
  parts_split (x ∷ xs) ys parts =
      let first = parts_first parts in
      let rest = parts_split xs ys first.3 in
      (first.0 ++ rest.0, rest.1, goes first.2 rest.2, rest.3, first.4 ∙ ap (λ (ws : List B). first.0 ++ ws) rest.4 ∙ sym (append_assoc first.0 rest.0 rest.1))

-- parts of another kind
pub parts_map : {A B : Type 0} (R S : A → List B → Type 0) (xs : List A) {zs : List B} → ((x : A) (part : List B) → Contains xs x → ((z : B) → Contains part z → Contains zs z) → R x part → S x part) → InParts R xs zs → InParts S xs zs
parts_map R S xs to ends = ends
parts_map R S xs to (goes {x = x} {xs = ys} {part = part} {rest = rest} r more) =
    goes (to x part (contains_first x ys) (λ z h. Contains-append_left part rest z h) r)
    (parts_map R S ys (λ y p among inside. to y p (contains_later x ys y among) (λ z h. Contains-append_right part rest z (inside z h))) more)

-- parts of parts
pub parts_compose : {A B C : Type 0} (R : A → List B → Type 0) (S : B → List C → Type 0) {xs : List A} {ys : List B} {zs : List C} → InParts R xs ys → InParts S ys zs → InParts (λ x part. (mid : List B) × R x mid × InParts S mid part) xs zs
parts_compose {C = C} R S ends parts = subst (λ (ws : List C). InParts (λ x part. (mid : List _) × R x mid × InParts S mid part) [] ws) (sym (parts_none S parts)) ends
parts_compose {C = C} R S (goes {x = x} {xs = xs} {part = part} {rest = rest} r more) parts =
    let split = parts_split S part rest parts in
    subst (λ (ws : List C). InParts (λ x part. (mid : List _) × R x mid × InParts S mid part) (x ∷ xs) ws) (sym split.4) (goes (part, r, split.2) (parts_compose R S more split.3))
