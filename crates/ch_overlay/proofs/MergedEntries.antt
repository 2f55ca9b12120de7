-- Two rising lists of entries as one.
use Rattle.std.proofs.Common.{ℕ, ◌≡◌, ◌≢◌, ◌<◌, ◌≤◌, ◌⊎◌, cond, nat_lt, nat_eq, true, false, List, [], ◌∷◌, get_or, Contains, arith, refl, sym, ◌∙◌, ap, subst, inl, inr}
use Rattle.std.proofs.lemmas.Bool.Decides.{nat_tests}
use Rattle.std.proofs.lemmas.List.Elements.{Contains-get_or}
use Rattle.std.proofs.lemmas.List.Kept.{AllPairs-cons}
use Rattle.ch_laws.specs.declared.entry.Entry.{Entry}
use Rattle.ch_laws.specs.Rows.{Rises}
use Rattle.ch_overlay.specs.Merging.{merged, merged_with}
use Rattle.ch_laws.specs.Members.{contains_first, contains_later, contains_cases, contains_none, pairs_first, pairs_later}

-- no entry of the list is for the other node of x
abbrev pub IsAbsent : Entry → List Entry → Type 0
IsAbsent x es = (f : Entry) → Contains es f → f.other ≢ x.other

-- the new entries, and the old ones that no new one replaces
pub record IsMerged (old new es : List Entry) : Type 0 where
  pub rises : Rises es
  pub sound : (x : Entry) → Contains es x → Contains new x ⊎ (Contains old x × IsAbsent x new)
  pub has_new : (x : Entry) → Contains new x → Contains es x
  pub has_old : (x : Entry) → Contains old x → IsAbsent x new → Contains es x

-- a rising list after a first entry below all of it
put_first : (e : Entry) (es : List Entry) → Rises es → ((x : Entry) → Contains es x → e.other < x.other) → Rises (e ∷ es)
put_first e es rising below = AllPairs-cons (λ a b. a.other < b.other) e es (λ k d h. below (get_or es k d) (Contains-get_or es k d h)) rising

from_first : (f : Entry) (fs : List Entry) → Rises (f ∷ fs) → (x : Entry) → Contains (f ∷ fs) x → f.other ≤ x.other
from_first f fs rising x h = elim (contains_cases f fs x h) [
  | inl same ↦ subst (λ (y : Entry). f.other ≤ y.other) same (omega arith)
  | inr later ↦ let below = pairs_first (λ a b. a.other < b.other) f fs rising x later in omega (arith, below)
]

-- the old entry comes first
old_first : (e : Entry) (old new rest : List Entry) → Rises (e ∷ old) → ((g : Entry) → Contains new g → e.other < g.other) → IsMerged old new rest → IsMerged (e ∷ old) new (e ∷ rest)
old_first e old new rest rising below m = record {
  rises = put_first e rest m.rises (λ x h. elim (m.sound x h) [ inl is ↦ below x is | inr is ↦ pairs_first (λ a b. a.other < b.other) e old rising x is.0 ]);
  sound = λ x h. elim (contains_cases e rest x h) [
    | inl same ↦ inr (subst (λ (y : Entry). Contains (e ∷ old) y) same (contains_first e old), λ f among is. let less = below f among in omega (arith, less, is, ap (λ (y : Entry). y.other) same))
    | inr later ↦ elim (m.sound x later) [ inl is ↦ inl is | inr is ↦ inr (contains_later e old x is.0, is.1) ]
  ];
  has_new = λ x h. contains_later e rest x (m.has_new x h);
  has_old = λ x h absent. elim (contains_cases e old x h) [
    | inl same ↦ subst (λ (y : Entry). Contains (e ∷ rest) y) same (contains_first e rest)
    | inr later ↦ contains_later e rest x (m.has_old x later absent)
  ];
}

-- the new entry takes the place of the old one
new_for_old : (e f : Entry) (old fs rest : List Entry) → Rises (e ∷ old) → Rises (f ∷ fs) → e.other ≡ f.other → IsMerged old fs rest → IsMerged (e ∷ old) (f ∷ fs) (f ∷ rest)
new_for_old e f old fs rest olds news alike m = record {
  rises = put_first f rest m.rises (λ x h. elim (m.sound x h) [
    | inl is ↦ pairs_first (λ a b. a.other < b.other) f fs news x is
    | inr is ↦ let below = pairs_first (λ a b. a.other < b.other) e old olds x is.0 in omega (arith, below, alike)
  ]);
  sound = λ x h. elim (contains_cases f rest x h) [
    | inl same ↦ inl (subst (λ (y : Entry). Contains (f ∷ fs) y) same (contains_first f fs))
    | inr later ↦ elim (m.sound x later) [
      | inl is ↦ inl (contains_later f fs x is)
      | inr is ↦
          let below = pairs_first (λ a b. a.other < b.other) e old olds x is.0 in
          inr (
            contains_later e old x is.0,
            λ g among equal. elim (contains_cases f fs g among) [
              | inl first ↦ omega (arith, below, alike, equal, ap (λ (y : Entry). y.other) first)
              | inr other ↦ is.1 g other equal
            ],
          )
    ]
  ];
  has_new = λ x h. elim (contains_cases f fs x h) [
    | inl same ↦ subst (λ (y : Entry). Contains (f ∷ rest) y) same (contains_first f rest)
    | inr later ↦ contains_later f rest x (m.has_new x later)
  ];
  has_old = λ x h absent. elim (contains_cases e old x h) [
    | inl same ↦ absurd (absent f (contains_first f fs) (sym alike ∙ ap (λ (y : Entry). y.other) same))
    | inr later ↦ contains_later f rest x (m.has_old x later (λ g among. absent g (contains_later f fs g among)))
  ];
}

-- the new entry comes first
new_first : (e f : Entry) (old fs rest : List Entry) → Rises (e ∷ old) → Rises (f ∷ fs) → f.other < e.other → IsMerged (e ∷ old) fs rest → IsMerged (e ∷ old) (f ∷ fs) (f ∷ rest)
new_first e f old fs rest olds news less m = record {
  rises = put_first f rest m.rises (λ x h. elim (m.sound x h) [
    | inl is ↦ pairs_first (λ a b. a.other < b.other) f fs news x is
    | inr is ↦ let up = from_first e old olds x is.0 in omega (arith, up, less)
  ]);
  sound = λ x h. elim (contains_cases f rest x h) [
    | inl same ↦ inl (subst (λ (y : Entry). Contains (f ∷ fs) y) same (contains_first f fs))
    | inr later ↦ elim (m.sound x later) [
      | inl is ↦ inl (contains_later f fs x is)
      | inr is ↦
          let up = from_first e old olds x is.0 in
          inr (
            is.0,
            λ g among equal. elim (contains_cases f fs g among) [
              | inl first ↦ omega (arith, up, less, equal, ap (λ (y : Entry). y.other) first)
              | inr other ↦ is.1 g other equal
            ],
          )
    ]
  ];
  has_new = λ x h. elim (contains_cases f fs x h) [
    | inl same ↦ subst (λ (y : Entry). Contains (f ∷ rest) y) same (contains_first f rest)
    | inr later ↦ contains_later f rest x (m.has_new x later)
  ];
  has_old = λ x h absent. contains_later f rest x (m.has_old x h (λ g among. absent g (contains_later f fs g among)));
}

less_test : (a b : ℕ) → nat_lt a b ≡ true → a < b
less_test a b e = grind (arith, nat_tests, e)

not_less_test : (a b : ℕ) → nat_lt a b ≡ false → b ≤ a
not_less_test a b e = grind (arith, nat_tests, e)

same_test : (a b : ℕ) → nat_eq a b ≡ true → a ≡ b
same_test a b e = grind (arith, nat_tests, e)

other_test : (a b : ℕ) → nat_eq a b ≡ false → a ≢ b
other_test a b e same = grind (arith, nat_tests, e, same)

rest_from : (e : Entry) (old : List Entry) → Rises (e ∷ old) → ((fs : List Entry) → Rises fs → IsMerged old fs (merged old fs))
    → (new : List Entry) → Rises new → IsMerged (e ∷ old) new (merged_with e (λ fs. merged old fs) new)
rest_from e old olds rest [] news = old_first e old [] (merged old []) olds (λ g h. absurd (contains_none g h)) (rest [] news)
rest_from e old olds rest (f ∷ fs) news = elim (nat_lt e.other f.other)
    as (λ b. nat_lt e.other f.other ≡ b → IsMerged (e ∷ old) (f ∷ fs) (cond b (e ∷ merged old (f ∷ fs)) (f ∷ cond (nat_eq e.other f.other) (merged old fs) (merged_with e (λ fs. merged old fs) fs)))) [
      | true ↦ λ lt.
          let less = less_test e.other f.other lt in
          old_first e old (f ∷ fs) (merged old (f ∷ fs)) olds (λ g h. let up = from_first f fs news g h in omega (arith, up, less)) (rest (f ∷ fs) news)
      | false ↦ λ nlt. elim (nat_eq e.other f.other)
          as (λ b. nat_eq e.other f.other ≡ b → IsMerged (e ∷ old) (f ∷ fs) (f ∷ cond b (merged old fs) (merged_with e (λ fs. merged old fs) fs))) [
            | true ↦ λ eq. new_for_old e f old fs (merged old fs) olds news (same_test e.other f.other eq) (rest fs (pairs_later (λ a b. a.other < b.other) f fs news))
            | false ↦ λ neq.
                let above = not_less_test e.other f.other nlt in
                let apart = other_test e.other f.other neq in
                let less : f.other < e.other = omega (arith, above, apart) in
                new_first e f old fs (merged_with e (λ fs. merged old fs) fs) olds news less (rest_from e old olds rest fs (pairs_later (λ a b. a.other < b.other) f fs news))
          ] refl
    ] refl

pub merged_is : (old new : List Entry) → Rises old → Rises new → IsMerged old new (merged old new)
merged_is [] new olds news = record {
  rises = news;
  sound = λ x h. inl h;
  has_new = λ x h. h;
  has_old = λ x h absent. absurd (contains_none x h);
}
merged_is (e ∷ old) new olds news = rest_from e old olds (λ fs rising. merged_is old fs (pairs_later (λ a b. a.other < b.other) e old olds) rising) new news
