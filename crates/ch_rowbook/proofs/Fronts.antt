-- Fronts: lists of versions, compared at each place.
use Rattle.std.specs.Prelude.{ℕ, ◌≡◌, ◌<◌, ◌≤◌, max, List, [], ◌∷◌, length, refl}
use Rattle.std.proofs.Common.{zero, suc, ◌∙◌, sym, subst, ap, arith, get_or, set, inl, inr}
use Rattle.std.proofs.Math.Nat.{max-le, max-eq_right}
use Rattle.std.proofs.Math.Seq.{set_out}
use Rattle.std.proofs.lemmas.Bool.{cases_lt, cases_eq}
use Rattle.std.proofs.lemmas.List.{get_or-set_same, get_or-set_other}
use Rattle.ch_rowbook.specs.Words.{IsBelow, greater, width}

-- a write of a list's own number leaves another list that is nowhere above it so
pub set_below : (xs ys : List ℕ) (x j : ℕ) → IsBelow xs ys → get_or (set xs x (get_or ys x 0)) j 0 ≤ get_or ys j 0
set_below xs ys x j h = elim (cases_eq j x) [
  | inl e ↦ elim (cases_lt x (length xs)) [
    | inl less ↦
        let same : get_or (set xs x (get_or ys x 0)) j 0 ≡ get_or ys j 0 = subst (λ k. get_or (set xs x (get_or ys x 0)) k 0 ≡ get_or ys k 0) (sym e) (get_or-set_same xs x (get_or ys x 0) 0 less) in
        omega (arith, same)
    | inr past ↦ subst (λ (l : List ℕ). get_or l j 0 ≤ get_or ys j 0) (sym (set_out xs x (get_or ys x 0) past)) (h j)
  ]
  | inr apart ↦ let same : get_or (set xs x (get_or ys x 0)) j 0 ≡ get_or xs j 0 = get_or-set_other xs x j (get_or ys x 0) 0 apart in let at : get_or xs j 0 ≤ get_or ys j 0 = h j in omega (arith, same, at)
]

-- a write of a number that isn't below what was there
pub below_set : (ys : List ℕ) (x v j : ℕ) → get_or ys x 0 ≤ v → get_or ys j 0 ≤ get_or (set ys x v) j 0
below_set ys x v j h = elim (cases_eq j x) [
  | inl e ↦ elim (cases_lt x (length ys)) [
    | inl less ↦
        let same : get_or (set ys x v) j 0 ≡ v = subst (λ k. get_or (set ys x v) k 0 ≡ v) (sym e) (get_or-set_same ys x v 0 less) in
        let here : get_or ys j 0 ≤ v = subst (λ k. get_or ys k 0 ≤ v) (sym e) h in
        omega (arith, same, here)
    | inr past ↦ subst (λ (l : List ℕ). get_or ys j 0 ≤ get_or l j 0) (sym (set_out ys x v past)) (omega arith)
  ]
  | inr apart ↦ let same : get_or (set ys x v) j 0 ≡ get_or ys j 0 = get_or-set_other ys x j v 0 apart in omega (arith, same)
]

pub greater_at : (xs ys : List ℕ) (j : ℕ) → get_or (greater xs ys) j 0 ≡ max (get_or xs j 0) (get_or ys j 0)
greater_at [] ys j = omega arith
greater_at (x ∷ xs) [] j = omega arith
greater_at (x ∷ xs) (y ∷ ys) zero = refl
greater_at (x ∷ xs) (y ∷ ys) (suc j) = greater_at xs ys j

pub greater_below : (xs ys zs : List ℕ) → IsBelow xs zs → IsBelow ys zs → IsBelow (greater xs ys) zs
greater_below xs ys zs h k j = subst (λ n. n ≤ get_or zs j 0) (sym (greater_at xs ys j)) (max-le (h j) (k j))

pub greater_self : (xs : List ℕ) → greater xs xs ≡ xs
greater_self [] = refl
greater_self (x ∷ xs) = ap (λ (l : List ℕ). max x x ∷ l) (greater_self xs) ∙ ap (λ n. n ∷ xs) (omega arith)

pub greater_length : (xs ys : List ℕ) → length xs ≡ length ys → length (greater xs ys) ≡ length ys
greater_length [] ys h = refl
greater_length (x ∷ xs) [] h = h
greater_length (x ∷ xs) (y ∷ ys) h = ap suc (greater_length xs ys (omega (arith, h)))

-- a front with one place raised, joined with the front
pub greater_set : (xs : List ℕ) (x v : ℕ) → get_or xs x 0 ≤ v → greater xs (set xs x v) ≡ set xs x v
greater_set [] x v h = refl
greater_set (y ∷ ys) zero v h = ap (λ (l : List ℕ). max y v ∷ l) (greater_self ys) ∙ ap (λ n. n ∷ ys) (max-eq_right h)
greater_set (y ∷ ys) (suc x) v h = ap (λ (l : List ℕ). max y y ∷ l) (greater_set ys x v h) ∙ ap (λ n. n ∷ set ys x v) (omega arith)

-- a load through a seat that was split off, joined again
pub raised : (old kept part ahead new : List ℕ) (x v : ℕ) → kept ≡ old → part ≡ old → ahead ≡ set part x v → new ≡ greater kept ahead → get_or part x 0 ≤ v → new ≡ set old x v
raised old kept part ahead new x v same parted loaded joined h =
    let least : get_or old x 0 ≤ v = subst (λ (l : List ℕ). get_or l x 0 ≤ v) parted h in
    joined ∙ ap (λ (l : List ℕ). greater l ahead) same ∙ ap (λ (l : List ℕ). greater old l) (loaded ∙ ap (λ (l : List ℕ). set l x v) parted) ∙ greater_set old x v least

-- a front that has a number for each word has one for each node
pub here : (old new : List ℕ) (x v words nodes : ℕ) → new ≡ set old x v → length old ≡ words → words ≡ width nodes → x < nodes → get_or new x 0 ≡ v
here old new x v words nodes is count wide h =
    let less : x < length old = omega (arith, count, wide, h) in
    ap (λ (l : List ℕ). get_or l x 0) is ∙ get_or-set_same old x v 0 less

-- a front joined with the words, which it is nowhere above
pub caught_up : (old kept part words current new : List ℕ) (x : ℕ) → kept ≡ old → part ≡ old → current ≡ words → new ≡ greater kept current → IsBelow part words → get_or new x 0 ≡ get_or words x 0
caught_up old kept part words current new x same parted now joined below =
    let mine : get_or kept x 0 ≡ get_or old x 0 = ap (λ (l : List ℕ). get_or l x 0) same in
    let theirs : get_or part x 0 ≡ get_or old x 0 = ap (λ (l : List ℕ). get_or l x 0) parted in
    let words_are : get_or current x 0 ≡ get_or words x 0 = ap (λ (l : List ℕ). get_or l x 0) now in
    let both : get_or new x 0 ≡ max (get_or kept x 0) (get_or current x 0) = ap (λ (l : List ℕ). get_or l x 0) joined ∙ greater_at kept current x in
    let under : get_or part x 0 ≤ get_or words x 0 = below x in
    both ∙ max-eq_right (omega (arith, mine, theirs, words_are, under)) ∙ words_are
