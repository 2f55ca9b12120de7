-- Each step on the count keeps the rule.
use Rattle.std.specs.Prelude.{ℕ, ◌≡◌, ◌+◌, ◌-◌, ◌%◌, ◌^◌, ◌<◌, ◌≤◌, List, [], ◌∷◌, ◌++◌, length, slice_index, refl}
use Rattle.std.proofs.Common.{zero, suc, ◌∙◌, sym, subst, ap, arith, set, ⊎_elim, inl, inr}
use Rattle.std.proofs.lemmas.Bool.{cases_eq}
use Rattle.std.proofs.lemmas.List.{length-set, set-get_or, get_or-set_same}
use mathlib.Core.Option.{some, some-injective, some-ne-none}
use mathlib.Core.Option as option
use lib.ListN.{get_elem?}
use Rattle.atomic_table.specs.Table.{Me, Allows, Splits, Joins, keeps, step}
use Rattle.atomic_table.proofs.Lists.{at_set, at_longer, set_again, set_else}
use Rattle.ch_estimate.specs.declared.counted.KnownCount.{KnownCount}
use Rattle.ch_estimate.specs.Leases.{Keeps, adds, all_out, finds, gives, known}

-- one view is another
pub out-set : (views : List KnownCount) (id : ℕ) (v w : KnownCount) → get_elem? views id ≡ some v → all_out (set views id w) + v.out ≡ all_out views + w.out
out-set [] id v w at = absurd (some-ne-none v (sym at))
out-set (x ∷ views) zero v w at = let same : x.out ≡ v.out = ap (λ (u : KnownCount). u.out) (some-injective x v at) in omega (arith, same)
out-set (x ∷ views) (suc id) v w at = let rest = out-set views id v w at in omega (arith, rest)

-- one view more
pub out-snoc : (views : List KnownCount) (w : KnownCount) → all_out (views ++ w ∷ []) ≡ all_out views + w.out
out-snoc [] w = omega arith
out-snoc (x ∷ views) w = let rest = out-snoc views w in omega (arith, rest)

-- no view has more than all have
pub out-at : (views : List KnownCount) (id : ℕ) (v : KnownCount) → get_elem? views id ≡ some v → v.out ≤ all_out views
out-at [] id v at = absurd (some-ne-none v (sym at))
out-at (x ∷ views) zero v at = let same : x.out ≡ v.out = ap (λ (u : KnownCount). u.out) (some-injective x v at) in omega (arith, same)
out-at (x ∷ views) (suc id) v at = let rest = out-at views id v at in omega (arith, rest)

-- the first view is another
first_set : (views : List KnownCount) (v w : KnownCount) → get_elem? views 0 ≡ some v → get_elem? (set views 0 w) 0 ≡ some w
first_set [] v w at = absurd (some-ne-none v (sym at))
first_set (x ∷ views) v w at = refl

-- what the only word becomes
word_set : (words : List ℕ) (n : ℕ) → length words ≡ 1 → slice_index (set words 0 n) 0 ≡ n
word_set words n wide = get_or-set_same words 0 n 0 (omega (arith, wide))

bounded : (views : List KnownCount) (w : KnownCount) (sum : ℕ) → get_elem? views 0 ≡ some w → sum ≤ w.bound → (u : KnownCount) → get_elem? views 0 ≡ some u → sum ≤ u.bound
bounded views w sum is h u at = subst (λ (x : KnownCount). sum ≤ x.bound) (some-injective w u (sym is ∙ at)) h

pub adding : (slots made : ℕ) → Allows Keeps slots 0 (known made 0, []) 0 (λ n. (n + 1) % 2 ^ 64) (adds (step slots 0 1 0 option.none) (known made 0, []))
adding slots made s k homes at room =
    let w : KnownCount = known (made + 1) 1 in
    let found : ℕ = slice_index s.words 0 in
    let sum : all_out (set s.views 0 w) + 0 ≡ all_out s.views + 1 = out-set s.views 0 (known made 0) w at in
    let counts : found ≡ all_out s.views % 2 ^ 64 = k.counts in
    let below : all_out s.views ≤ made = k.below (known made 0) at in
    let more : (found + 1) % 2 ^ 64 ≡ all_out (set s.views 0 w) % 2 ^ 64 = omega (arith, sum, counts) in
    let least : all_out (set s.views 0 w) ≤ made + 1 = omega (arith, sum, below) in (
      w,
      keeps,
      tt,
      record {
        wide = length-set s.words 0 ((found + 1) % 2 ^ 64) ∙ k.wide;
        counts = word_set s.words ((found + 1) % 2 ^ 64) k.wide ∙ more;
        below = bounded (set s.views 0 w) w (all_out (set s.views 0 w)) (first_set s.views (known made 0) w at) least;
      },
      refl,
    )

pub giving : (slots id : ℕ) → Allows Keeps slots id (known 0 1, []) 0 (λ n. (n + (2 ^ 64 - 1)) % 2 ^ 64) (gives (step slots 0 1 0 option.none) (known 0 1, []))
giving slots id s k homes at room =
    let w : KnownCount = known 0 0 in
    let found : ℕ = slice_index s.words 0 in
    let sum : all_out (set s.views id w) + 1 ≡ all_out s.views + 0 = out-set s.views id (known 0 1) w at in
    let counts : found ≡ all_out s.views % 2 ^ 64 = k.counts in
    let less : (found + (2 ^ 64 - 1)) % 2 ^ 64 ≡ all_out (set s.views id w) % 2 ^ 64 = omega (arith, sum, counts) in
    let below : (u : KnownCount) → get_elem? (set s.views id w) 0 ≡ some u → all_out (set s.views id w) ≤ u.bound = λ u there. ⊎_elim
    (λ here. let low = k.below (known 0 1) (subst (λ (j : ℕ). get_elem? s.views j ≡ some (known 0 1)) (sym here.0) at) in absurd (omega (arith, sum, low)))
    (λ other. let low = k.below u other.1 in omega (arith, sum, low)) (at_set s.views id 0 w u there) in (
      w,
      keeps,
      tt,
      record {
        wide = length-set s.words 0 ((found + (2 ^ 64 - 1)) % 2 ^ 64) ∙ k.wide;
        counts = word_set s.words ((found + (2 ^ 64 - 1)) % 2 ^ 64) k.wide ∙ less;
        below = below;
      },
      refl,
    )

pub finding : (slots made : ℕ) → made < 2 ^ 64 → Allows Keeps slots 0 (known made 0, []) 0 (λ n. n) (finds (step slots 0 0 0 option.none) (known made 0, []))
finding slots made few s k homes at room =
    let found : ℕ = slice_index s.words 0 in
    let counts : found ≡ all_out s.views % 2 ^ 64 = k.counts in
    let words : set s.words 0 found ≡ s.words = set-get_or s.words 0 0 in
    let whole : found ≡ all_out s.views = let low = k.below (known made 0) at in omega (arith, counts, low, few) in
    elim (cases_eq found 0) [
      | inl none ↦
          let w : KnownCount = known 0 0 in
          let sum : all_out (set s.views 0 w) + 0 ≡ all_out s.views + 0 = out-set s.views 0 (known made 0) w at in
          let here : found ≡ all_out (set s.views 0 w) % 2 ^ 64 = omega (arith, sum, counts) in
          let least : all_out (set s.views 0 w) ≤ 0 = omega (arith, sum, whole, none) in (
            w,
            keeps,
            tt,
            record {
              wide = length-set s.words 0 found ∙ k.wide;
              counts = word_set s.words found k.wide ∙ here;
              below = bounded (set s.views 0 w) w (all_out (set s.views 0 w)) (first_set s.views (known made 0) w at) least;
            },
            (λ _. refl, λ some_out. absurd (some_out none)),
          )
      | inr some_out ↦
          let w : KnownCount = known made 0 in
          let views : set s.views 0 w ≡ s.views = set_again s.views 0 w at in
          let sum : all_out (set s.views 0 w) ≡ all_out s.views = ap all_out views in
          let low : all_out s.views ≤ made = k.below w at in
          let here : found ≡ all_out (set s.views 0 w) % 2 ^ 64 = omega (arith, sum, counts) in
          let least : all_out (set s.views 0 w) ≤ made = omega (arith, sum, low) in (
            w,
            keeps,
            tt,
            record {
              wide = length-set s.words 0 found ∙ k.wide;
              counts = word_set s.words found k.wide ∙ here;
              below = bounded (set s.views 0 w) w (all_out (set s.views 0 w)) (first_set s.views w w at) least;
            },
            (λ none. absurd (some_out none), λ _. refl),
          )
    ]

pub handing : (bound : ℕ) → Splits Keeps 0 (known bound 1) (known bound 0) (known 0 1)
handing bound s k at =
    let left : KnownCount = known bound 0 in
    let right : KnownCount = known 0 1 in
    let views : List KnownCount = set s.views 0 left ++ right ∷ [] in
    let set_sum : all_out (set s.views 0 left) + 1 ≡ all_out s.views + 0 = out-set s.views 0 (known bound 1) left at in
    let more : all_out views ≡ all_out (set s.views 0 left) + 1 = out-snoc (set s.views 0 left) right in
    let sum : all_out views ≡ all_out s.views = omega (arith, set_sum, more) in
    let low : all_out s.views ≤ bound = k.below (known bound 1) at in
    let first : get_elem? views 0 ≡ some left = at_longer (set s.views 0 left) (right ∷ []) 0 left (first_set s.views (known bound 1) left at) in
    record {
      wide = k.wide;
      counts = k.counts ∙ ap (λ (n : ℕ). n % 2 ^ 64) (sym sum);
      below = bounded views left (all_out views) first (omega (arith, sum, low));
    }

pub meeting : (made other : ℕ) → Joins Keeps 0 (known made 0) other (known 0 1) (known made 1) (known 0 0)
meeting made other s k at apart there =
    let both : KnownCount = known made 1 in
    let spent : KnownCount = known 0 0 in
    let met : List KnownCount = set s.views 0 both in
    let views : List KnownCount = set met other spent in
    let met_sum : all_out met + 0 ≡ all_out s.views + 1 = out-set s.views 0 (known made 0) both at in
    let spent_sum : all_out views + 1 ≡ all_out met + 0 = out-set met other (known 0 1) spent there in
    let sum : all_out views ≡ all_out s.views = omega (arith, met_sum, spent_sum) in
    let low : all_out s.views ≤ made = k.below (known made 0) at in
    let first : get_elem? views 0 ≡ some both = set_else met other 0 spent (λ e. apart (sym e)) ∙ first_set s.views (known made 0) both at in
    record {
      wide = k.wide;
      counts = k.counts ∙ ap (λ (n : ℕ). n % 2 ^ 64) (sym sum);
      below = bounded views both (all_out views) first (omega (arith, sum, low));
    }

-- where none is out, the first seat has nothing of the count
pub never : (slots : ℕ) → Allows Keeps slots 0 (known 0 1, []) 0 (λ n. n) (λ _ _. ⊥)
never slots s k homes at room =
    let low = k.below (known 0 1) at in
    let least = out-at s.views 0 (known 0 1) at in
    absurd (omega (arith, low, least))

-- The steps of a seat of which that is known

abbrev Mine : Type 0
Mine = Me (Unit {0}) KnownCount

pub adding_as : (slots id made : ℕ) (me : Mine) → id ≡ 0 → me ≡ (known made 0, []) → Allows Keeps slots id me 0 (λ n. (n + 1) % 2 ^ 64) (adds (step slots 0 1 0 option.none) me)
adding_as slots id made me first knows =
    subst (λ (i : ℕ). Allows Keeps slots i me 0 (λ n. (n + 1) % 2 ^ 64) (adds (step slots 0 1 0 option.none) me)) (sym first)
    (subst (λ (m : Mine). Allows Keeps slots 0 m 0 (λ n. (n + 1) % 2 ^ 64) (adds (step slots 0 1 0 option.none) m)) (sym knows) (adding slots made))

pub giving_as : (slots id : ℕ) (me : Mine) → me ≡ (known 0 1, []) → Allows Keeps slots id me 0 (λ n. (n + (2 ^ 64 - 1)) % 2 ^ 64) (gives (step slots 0 1 0 option.none) me)
giving_as slots id me knows = subst (λ (m : Mine). Allows Keeps slots id m 0 (λ n. (n + (2 ^ 64 - 1)) % 2 ^ 64) (gives (step slots 0 1 0 option.none) m)) (sym knows) (giving slots id)

pub finding_as : (slots id made : ℕ) (me : Mine) → id ≡ 0 → me ≡ (known made 0, []) → made < 2 ^ 64 → Allows Keeps slots id me 0 (λ n. n) (finds (step slots 0 0 0 option.none) me)
finding_as slots id made me first knows few =
    subst (λ (i : ℕ). Allows Keeps slots i me 0 (λ n. n) (finds (step slots 0 0 0 option.none) me)) (sym first)
    (subst (λ (m : Mine). Allows Keeps slots 0 m 0 (λ n. n) (finds (step slots 0 0 0 option.none) m)) (sym knows) (finding slots made few))

pub handing_as : (id bound : ℕ) (v : KnownCount) → id ≡ 0 → v ≡ known bound 1 → Splits Keeps id v (known v.bound (v.out - 1)) (known 0 1)
handing_as id bound v first knows =
    subst (λ (i : ℕ). Splits Keeps i v (known v.bound (v.out - 1)) (known 0 1)) (sym first) (subst (λ (u : KnownCount). Splits Keeps 0 u (known u.bound (u.out - 1)) (known 0 1)) (sym knows) (handing bound))

pub meeting_as : (id made other : ℕ) (v w : KnownCount) → id ≡ 0 → v ≡ known made 0 → w ≡ known 0 1 → Joins Keeps id v other w (known v.bound w.out) (known 0 0)
meeting_as id made other v w first knows theirs =
    subst (λ (i : ℕ). Joins Keeps i v other w (known v.bound w.out) (known 0 0)) (sym first)
    (subst (λ (u : KnownCount). Joins Keeps 0 u other w (known u.bound w.out) (known 0 0)) (sym knows) (subst (λ (u : KnownCount). Joins Keeps 0 (known made 0) other u (known made u.out) (known 0 0)) (sym theirs) (meeting made other)))

pub never_as : (slots id : ℕ) (me : Mine) → id ≡ 0 → me ≡ (known 0 1, []) → Allows Keeps slots id me 0 (λ n. n) (λ _ _. ⊥)
never_as slots id me first knows =
    subst (λ (i : ℕ). Allows Keeps slots i me 0 (λ n. n) (λ _ _. ⊥)) (sym first) (subst (λ (m : Mine). Allows Keeps slots 0 m 0 (λ n. n) (λ _ _. ⊥)) (sym knows) (never slots))

-- What a step leaves of the first seat

pub counted : (before after : Mine) (made : ℕ) → before ≡ (known made 0, []) → after ≡ (known (before.0.bound + 1) (before.0.out + 1), before.1) → after ≡ (known (made + 1) 1, [])
counted before after made knows is = is ∙ ap (λ (m : Mine). (known (m.0.bound + 1) (m.0.out + 1), m.1)) knows

pub met : (before theirs after : Mine) (made : ℕ) → before ≡ (known made 0, []) → theirs ≡ (known 0 1, []) → after ≡ (known before.0.bound theirs.0.out, before.1) → made ≡ 0 → after ≡ (known 0 1, [])
met before theirs after made knows lease is none =
    is ∙ ap (λ (m : Mine). (known m.0.bound theirs.0.out, m.1)) knows ∙ ap (λ (m : Mine). (known made m.0.out, [])) lease ∙ ap (λ (n : ℕ). (known n 1, [])) none

pub view_of : (m n : Mine) → m ≡ n → m.0 ≡ n.0
view_of m n e = ap (λ (k : Mine). k.0) e
