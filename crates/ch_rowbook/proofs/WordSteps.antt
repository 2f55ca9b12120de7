-- Each step on the words keeps the rule.
use Rattle.std.specs.Prelude.{ℕ, ◌≡◌, ◌≤◌, true, List, [], ◌∷◌, ◌++◌, length, slice_index, refl}
use Rattle.std.proofs.Common.{◌∙◌, sym, subst, ap, arith, set, ⊎_elim}
use Rattle.std.proofs.lemmas.List.{length-set, set-get_or}
use mathlib.Core.Option.{some}
use lib.ListN.{get_elem?}
use mathlib.Core.Option as option
use Rattle.atomic_table.specs.Table.{State, Allows, Splits, Joins, keeps, step}
use Rattle.atomic_table.proofs.Lists.{at_set, at_snoc, set_again, set_else}
use Rattle.ch_rowbook.specs.declared.words.KnownWords.{KnownWords}
use Rattle.ch_rowbook.specs.Words.{IsBelow, IsCompare, IsLoad, IsStore, Keeps, greater, hearing, pen_with, reader_with}
use Rattle.ch_rowbook.proofs.Fronts.{below_set, greater_below, set_below}

not_pen : (front : List ℕ) (v : KnownWords) → reader_with front ≡ v → v.is_pen ≡ true → ⊥
not_pen front v e is = cc

-- the words and the views, whatever is at home
pub record Fits (words : ℕ) (ws : List ℕ) (views : List KnownWords) : Type 0 where
  pub wide : length ws ≡ words
  pub pens : (id : ℕ) (v : KnownWords) → get_elem? views id ≡ some v → v.is_pen ≡ true → (id ≡ 0) × (v.versions ≡ ws)
  pub below : (id : ℕ) (v : KnownWords) → get_elem? views id ≡ some v → IsBelow v.versions ws
  pub told : (id : ℕ) (v : KnownWords) → get_elem? views id ≡ some v → IsBelow v.heard ws

fits : {words : ℕ} (s : State (Unit {0}) KnownWords) → Keeps words s → Fits words s.words s.views
fits s k = record { wide = k.wide; pens = k.pens; below = k.below; told = k.told }

-- one reader's view becomes another reader's, which isn't above the words
pub reader_set : (words : ℕ) (ws : List ℕ) (views : List KnownWords) (id : ℕ) (front : List ℕ) → Fits words ws views → IsBelow front ws → Fits words ws (set views id (reader_with front))
reader_set words ws views id front f below = record {
  wide = f.wide;
  pens = λ j v at is. ⊎_elim (λ here. absurd (not_pen front v here.1 is)) (λ other. f.pens j v other.1 is) (at_set views id j (reader_with front) v at);
  below = λ j v at. ⊎_elim (λ here. subst (λ (u : KnownWords). IsBelow u.versions ws) here.1 below) (λ other. f.below j v other.1) (at_set views id j (reader_with front) v at);
  told = λ j v at. ⊎_elim (λ here. subst (λ (u : KnownWords). IsBelow u.heard ws) here.1 (λ i. omega arith)) (λ other. f.told j v other.1) (at_set views id j (reader_with front) v at);
}

-- the pen knows the words, and receives a front that isn't above them
pen_set : (words : ℕ) (ws : List ℕ) (views : List KnownWords) (known heard : List ℕ) → Fits words ws views → known ≡ ws → IsBelow heard ws → Fits words ws (set views 0 (hearing known heard))
pen_set words ws views known heard f same told = record {
  wide = f.wide;
  pens = λ j v at is. ⊎_elim (λ here. (here.0, subst (λ (u : KnownWords). u.versions ≡ ws) here.1 same)) (λ other. f.pens j v other.1 is) (at_set views 0 j (hearing known heard) v at);
  below = λ j v at. ⊎_elim (λ here. subst (λ (u : KnownWords). IsBelow u.versions ws) here.1 (λ i. let e : slice_index known i ≡ slice_index ws i = ap (λ (l : List ℕ). slice_index l i) same in omega (arith, e)))
      (λ other. f.below j v other.1) (at_set views 0 j (hearing known heard) v at);
  told = λ j v at. ⊎_elim (λ here. subst (λ (u : KnownWords). IsBelow u.heard ws) here.1 told) (λ other. f.told j v other.1) (at_set views 0 j (hearing known heard) v at);
}

keeps_of : {words : ℕ} (ws : List ℕ) (homes : _) (views : List KnownWords) → Fits words ws views → Keeps words (record { words = ws; homes = homes; views = views })
keeps_of ws homes views f = record { wide = f.wide; pens = f.pens; below = f.below; told = f.told }

pub loads : (words slots id x : ℕ) (front : List ℕ) → Allows (Keeps words) slots id (reader_with front, []) x (λ n. n) (IsLoad (step slots x 0 0 option.none) (reader_with front, []))
loads words slots id x front s k homes at room =
    let found : ℕ = slice_index s.words x in
    let below : IsBelow front s.words = k.below id (reader_with front) at in
    let raised : IsBelow (set front x found) s.words = λ j. set_below front s.words x j below in
    let after : Fits words s.words (set s.views id (reader_with (set front x found))) = reader_set words s.words s.views id (set front x found) (fits s k) raised in
    let kept : Fits words (set s.words x found) (set s.views id (reader_with (set front x found))) = subst (λ (ws : List ℕ). Fits words ws (set s.views id (reader_with (set front x found)))) (sym (set-get_or s.words x 0)) after in
    (reader_with (set front x found), keeps, tt, keeps_of (set s.words x found) s.homes _ kept, (below x, refl))

pub stores : (words slots x v : ℕ) (known : List ℕ) → slice_index known x ≤ v
    → Allows (Keeps words) slots 0 (pen_with known, []) x (λ _. v) (λ _. IsStore (step slots x v 0 option.none) (pen_with known, []) v)
stores words slots x v known above s k homes at room =
    let same : known ≡ s.words = (k.pens 0 (pen_with known) at refl).1 in
    let rises : (j : ℕ) → slice_index s.words j ≤ slice_index (set s.words x v) j = λ j. below_set s.words x v j (subst (λ (ws : List ℕ). slice_index ws x ≤ v) same above) in
    let stored : set known x v ≡ set s.words x v = ap (λ (ws : List ℕ). set ws x v) same in
    let pens : (j : ℕ) (u : KnownWords) → get_elem? (set s.views 0 (pen_with (set known x v))) j ≡ some u → u.is_pen ≡ true → (j ≡ 0) × (u.versions ≡ set s.words x v) =
    λ j u there is. ⊎_elim (λ here. (here.0, subst (λ (w : KnownWords). w.versions ≡ set s.words x v) here.1 stored))
    (λ other. absurd (other.0 (k.pens j u other.1 is).0)) (at_set s.views 0 j (pen_with (set known x v)) u there) in
    let below : (j : ℕ) (u : KnownWords) → get_elem? (set s.views 0 (pen_with (set known x v))) j ≡ some u → IsBelow u.versions (set s.words x v) =
    λ j u there. ⊎_elim (λ here. subst (λ (w : KnownWords). IsBelow w.versions (set s.words x v)) here.1 (λ i. let e : slice_index (set known x v) i ≡ slice_index (set s.words x v) i = ap (λ (ws : List ℕ). slice_index ws i) stored in omega (arith, e)))
    (λ other i. let a = k.below j u other.1 i in let b = rises i in omega (arith, a, b)) (at_set s.views 0 j (pen_with (set known x v)) u there) in
    let told : (j : ℕ) (u : KnownWords) → get_elem? (set s.views 0 (pen_with (set known x v))) j ≡ some u → IsBelow u.heard (set s.words x v) =
    λ j u there. ⊎_elim (λ here. subst (λ (w : KnownWords). IsBelow w.heard (set s.words x v)) here.1 (λ i. omega arith)) (λ other i. let a = k.told j u other.1 i in let b = rises i in omega (arith, a, b)) (at_set s.views 0 j (pen_with (set known x v)) u there) in
    (pen_with (set known x v), keeps, tt, record { wide = length-set s.words x v ∙ k.wide; pens = pens; below = below; told = told }, refl)

pub compares : (words slots x : ℕ) (known heard : List ℕ) → Allows (Keeps words) slots 0 (hearing known heard, []) x (λ n. n) (IsCompare (step slots x 0 0 option.none) (hearing known heard, []))
compares words slots x known heard s k homes at room =
    let same : known ≡ s.words = (k.pens 0 (hearing known heard) at refl).1 in
    let below : IsBelow heard known = subst (λ (ws : List ℕ). IsBelow heard ws) (sym same) (k.told 0 (hearing known heard) at) in
    let after : Fits words s.words (set s.views 0 (pen_with known)) = pen_set words s.words s.views known [] (fits s k) same (λ i. omega arith) in
    let kept : Fits words (set s.words x (slice_index s.words x)) (set s.views 0 (pen_with known)) = subst (λ (ws : List ℕ). Fits words ws (set s.views 0 (pen_with known))) (sym (set-get_or s.words x 0)) after in
    (pen_with known, keeps, tt, keeps_of (set s.words x (slice_index s.words x)) s.homes _ kept, (below, refl))

pub splits : (words id : ℕ) (v : KnownWords) → Splits (Keeps words) id v v (reader_with v.versions)
splits words id v s k at =
    let front : IsBelow v.versions s.words = k.below id v at in
    let same : set s.views id v ≡ s.views = set_again s.views id v at in
    let after : Fits words s.words (s.views ++ reader_with v.versions ∷ []) = record {
      wide = k.wide;
      pens = λ j u there is. ⊎_elim (λ old. k.pens j u old is) (λ new. absurd (not_pen v.versions u new is)) (at_snoc s.views (reader_with v.versions) u j there);
      below = λ j u there. ⊎_elim (λ old. k.below j u old) (λ new. subst (λ (w : KnownWords). IsBelow w.versions s.words) new front) (at_snoc s.views (reader_with v.versions) u j there);
      told = λ j u there. ⊎_elim (λ old. k.told j u old) (λ new. subst (λ (w : KnownWords). IsBelow w.heard s.words) new (λ i. omega arith)) (at_snoc s.views (reader_with v.versions) u j there);
    } in
    keeps_of s.words s.homes _ (subst (λ (views : List KnownWords). Fits words s.words (views ++ reader_with v.versions ∷ [])) (sym same) after)

pub joins : (words id other : ℕ) (front part : List ℕ) → Joins (Keeps words) id (reader_with front) other (reader_with part) (reader_with (greater front part)) (reader_with [])
joins words id other front part s k at apart there =
    let theirs : get_elem? s.views other ≡ some (reader_with part) = sym (set_else s.views id other (reader_with (greater front part)) apart) ∙ there in
    let both : IsBelow (greater front part) s.words = greater_below front part s.words (k.below id (reader_with front) at) (k.below other (reader_with part) theirs) in
    let met : Fits words s.words (set s.views id (reader_with (greater front part))) = reader_set words s.words s.views id (greater front part) (fits s k) both in
    keeps_of s.words s.homes _ (reader_set words s.words (set s.views id (reader_with (greater front part))) other [] met (λ j. omega arith))

pub hears : (words other : ℕ) (known part : List ℕ) → Joins (Keeps words) 0 (pen_with known) other (reader_with part) (hearing known part) (reader_with [])
hears words other known part s k at apart there =
    let theirs : get_elem? s.views other ≡ some (reader_with part) = sym (set_else s.views 0 other (hearing known part) apart) ∙ there in
    let told : Fits words s.words (set s.views 0 (hearing known part)) = pen_set words s.words s.views known part (fits s k) (k.pens 0 (pen_with known) at refl).1 (k.below other (reader_with part) theirs) in
    keeps_of s.words s.homes _ (reader_set words s.words (set s.views 0 (hearing known part)) other [] told (λ i. omega arith))
