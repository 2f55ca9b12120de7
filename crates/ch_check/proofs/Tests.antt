-- What tests show.
use Rattle.std.proofs.Common.{ℕ, ◌≡◌, ◌+◌, ◌<◌, Bool, true, false, not, ◌&&◌, Option, Some, None, List, All, take, length, get_or, refl, ap, subst, ◌∙◌}
use Rattle.std.proofs.lemmas.List.Elements.{All-more}
use Rattle.std.specs.Option.{option_eq}
use Rattle.ch_cost.specs.declared.cost.Cost.{Cost}
use Rattle.ch_cost.specs.Cost.{same}
use Rattle.ch_cost.specs.Cost.Laws.{same-from_equal}

pub and_parts : (a b : Bool) → (a && b) ≡ true → (a ≡ true) × (b ≡ true)
and_parts true true e = (refl, refl)
and_parts true false e = absurd (cc)
and_parts false b e = absurd (cc)

pub not_both : {b r : Bool} → r ≡ not b → b ≡ true → r ≡ true → ⊥
not_both {b = true} is here there = absurd (cc)
not_both {b = false} is here there = absurd (cc)

pub not_false : (b : Bool) {r : Bool} → r ≡ not b → r ≡ false → b ≡ true
not_false true is off = refl
not_false false is off = absurd (cc)

pub same_options : {a b : Option Cost} → a ≡ b → option_eq same a b ≡ true
same_options {a = None} {b = None} e = refl
same_options {a = None} {b = Some d} e = absurd (cc)
same_options {a = Some c} {b = None} e = absurd (cc)
same_options {a = Some c} {b = Some d} e = same-from_equal c d (cc)

-- one more element of a list that is read through another name
pub more_of : {X : Type 0} (P : X → Type 0) {xs ys : List X} → ys ≡ xs → (i : ℕ) (d : X) {x : X} → i < length ys → All P (take i xs) → x ≡ get_or ys i d → P x → All P (take (i + 1) xs)
more_of {X} P {xs} e i d inside all is p = All-more P xs i d (subst (λ (zs : List X). i < length zs) e inside) all (subst P (is ∙ ap (λ (zs : List X). get_or zs i d) e) p)
