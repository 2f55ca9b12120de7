-- The first arc of each two nodes, of sorted arcs, is their least.
use Rattle.std.proofs.Common.{ℕ, ◌≡◌, ◌≢◌, ◌<◌, ◌≤◌, ◌⊎◌, cond, not, nat_eq, true, false, Bool, List, [], ◌∷◌, length, get_or, AllPairs, Contains, arith, refl, sym, ◌∙◌, subst, inl, inr}
use Rattle.std.specs.List.{dedup, dedup_from, filter}
use Rattle.std.specs.List.Sorted.{IsPermutation}
use Rattle.std.proofs.lemmas.Bool.{cases_lt}
use Rattle.std.proofs.lemmas.Bool.Decides.{nat_tests}
use Rattle.std.proofs.lemmas.List.Elements.{Contains-get_or}
use Rattle.std.proofs.lemmas.List.Sorted.{Contains-permutation, IsPermutation-sym}
use Rattle.std.proofs.lemmas.List.Kept.{AllPairs-cons, Contains-from_dedup}
use Rattle.ch_graph.specs.declared.road.Road.{Road}
use Rattle.ch_overlay.specs.Opening.{ComesNoLater, have_same_ends, HaveSameEnds, EndsRise, AreLeast}
use Rattle.ch_laws.specs.Members.{contains_first, contains_later, contains_cases, contains_none, pairs_first, pairs_later}

same_ends : (a b : Road) → have_same_ends a b ≡ true → HaveSameEnds a b
same_ends a b e = (grind (arith, nat_tests, e), grind (arith, nat_tests, e))

ends_below : (a b : Road) → ComesNoLater a b → have_same_ends b a ≡ false → (a.from < b.from) ⊎ ((a.from ≡ b.from) × (a.to < b.to))
ends_below a b no_later apart = elim (cases_lt a.from b.from) [
  | inl less ↦ inl less
  | inr past ↦
      let from : a.from ≡ b.from = omega (arith, no_later.from, past) in
      let to = no_later.to from in
      let other : a.to ≢ b.to = λ same. grind (arith, nat_tests, apart, from, same) in
      inr (from, omega (arith, to, other))
]

below_no_later : (a b c : Road) → (a.from < b.from) ⊎ ((a.from ≡ b.from) × (a.to < b.to)) → ComesNoLater b c → (a.from < c.from) ⊎ ((a.from ≡ c.from) × (a.to < c.to))
below_no_later a b c first later = elim first [
  | inl less ↦ inl (omega (arith, less, later.from))
  | inr both ↦ elim (cases_lt b.from c.from) [
    | inl less ↦ inl (omega (arith, less, both.0))
    | inr past ↦
        let from : b.from ≡ c.from = omega (arith, later.from, past) in
        let to = later.to from in
        inr (omega (arith, both.0, from), omega (arith, both.1, to))
  ]
]

apart_from_below : (a b : Road) → (a.from < b.from) ⊎ ((a.from ≡ b.from) × (a.to < b.to)) → HaveSameEnds a b → ⊥
apart_from_below a b below same = elim below [ inl less ↦ omega (arith, less, same.0) | inr both ↦ omega (arith, both.1, same.1) ]

no_later_itself : (a : Road) → ComesNoLater a a
no_later_itself a = record { from = omega arith; to = λ same. omega arith; weight = λ first second. omega arith }

-- the first of sorted arcs comes no later than each
from_first : (x : Road) (ys : List Road) → AllPairs ComesNoLater (x ∷ ys) → (r : Road) → Contains (x ∷ ys) r → ComesNoLater x r
from_first x ys sorted r among = elim (contains_cases x ys r among) [
  | inl same ↦ subst (λ (q : Road). ComesNoLater x q) same (no_later_itself x)
  | inr later ↦ pairs_first ComesNoLater x ys sorted r later
]

without_second : (x y : Road) (ys : List Road) → AllPairs ComesNoLater (x ∷ (y ∷ ys)) → AllPairs ComesNoLater (x ∷ ys)
without_second x y ys sorted =
    AllPairs-cons ComesNoLater x ys
    (λ k d h. pairs_first ComesNoLater x (y ∷ ys) sorted (get_or ys k d) (contains_later y ys (get_or ys k d) (Contains-get_or ys k d h)))
    (pairs_later ComesNoLater y ys (pairs_later ComesNoLater x (y ∷ ys) sorted))

-- what is kept rises by its ends
rises : (ys : List Road) (x : Road) → AllPairs ComesNoLater (x ∷ ys) → EndsRise (dedup_from have_same_ends x ys)
rises [] x sorted = λ i j d less h. absurd (omega (arith, less, h))
rises (y ∷ ys) x sorted = elim (have_same_ends y x)
    as (λ b. have_same_ends y x ≡ b → EndsRise (cond b (dedup_from have_same_ends x ys) (x ∷ dedup_from have_same_ends y ys))) [
      | true ↦ λ e. rises ys x (without_second x y ys sorted)
      | false ↦ λ e.
          let later = pairs_later ComesNoLater x (y ∷ ys) sorted in
          let first = ends_below x y (pairs_first ComesNoLater x (y ∷ ys) sorted y (contains_first y ys)) e in
          AllPairs-cons (λ a b. (a.from < b.from) ⊎ ((a.from ≡ b.from) × (a.to < b.to))) x (dedup_from have_same_ends y ys)
          (λ k d h.
          let r = get_or (dedup_from have_same_ends y ys) k d in
          below_no_later x y r first (from_first y ys later r (Contains-from_dedup have_same_ends (y ∷ ys) r (Contains-get_or (dedup_from have_same_ends y ys) k d h))))
          (rises ys y later)
    ] refl

-- what is kept weighs no more than what has its ends
weighs_least : (ys : List Road) (x : Road) → AllPairs ComesNoLater (x ∷ ys)
    → (r q : Road) → Contains (dedup_from have_same_ends x ys) r → Contains (x ∷ ys) q → HaveSameEnds r q → r.weight ≤ q.weight
weighs_least [] x sorted r q kept among ends =
    let first = from_first x [] sorted q among in
    elim (contains_cases x [] r kept) [
      | inl same ↦ subst (λ (p : Road). HaveSameEnds p q → p.weight ≤ q.weight) same (λ h. first.weight h.0 h.1) ends
      | inr none ↦ absurd (contains_none r none)
    ]
weighs_least (y ∷ ys) x sorted r q kept among ends = elim (have_same_ends y x)
    as (λ b. have_same_ends y x ≡ b → Contains (cond b (dedup_from have_same_ends x ys) (x ∷ dedup_from have_same_ends y ys)) r → r.weight ≤ q.weight) [
      | true ↦ λ e here. elim (contains_cases x (y ∷ ys) q among) [
        | inl same ↦ weighs_least ys x (without_second x y ys sorted) r q here (subst (λ (p : Road). Contains (x ∷ ys) p) same (contains_first x ys)) ends
        | inr later ↦ elim (contains_cases y ys q later) [
          | inr last ↦ weighs_least ys x (without_second x y ys sorted) r q here (contains_later x ys q last) ends
          | inl second ↦
              let alike = same_ends y x e in
              let q_ends = subst (λ (p : Road). HaveSameEnds r p) (sym second) ends in
              let up = weighs_least ys x (without_second x y ys sorted) r x here (contains_first x ys) (q_ends.0 ∙ alike.0, q_ends.1 ∙ alike.1) in
              let over = (from_first x (y ∷ ys) sorted y (contains_later x (y ∷ ys) y (contains_first y ys))).weight (sym alike.0) (sym alike.1) in
              subst (λ (p : Road). r.weight ≤ p.weight) second (omega (arith, up, over))
        ]
      ]
      | false ↦ λ e here.
          let later = pairs_later ComesNoLater x (y ∷ ys) sorted in
          elim (contains_cases x (dedup_from have_same_ends y ys) r here) [
            | inl same ↦ subst (λ (p : Road). HaveSameEnds p q → p.weight ≤ q.weight) same (λ h. (from_first x (y ∷ ys) sorted q among).weight h.0 h.1) ends
            | inr rest ↦ elim (contains_cases x (y ∷ ys) q among) [
              | inr q_rest ↦ weighs_least ys y later r q rest q_rest ends
              | inl q_first ↦
                  let over = from_first y ys later r (Contains-from_dedup have_same_ends (y ∷ ys) r rest) in
                  let below = below_no_later x y r (ends_below x y (pairs_first ComesNoLater x (y ∷ ys) sorted y (contains_first y ys)) e) over in
                  absurd (apart_from_below x r below (subst (λ (p : Road). HaveSameEnds p r) (sym q_first) (sym ends.0, sym ends.1)))
            ]
          ]
    ] refl kept

-- for each arc one with its ends is kept
keeps_each : (ys : List Road) (x : Road) (q : Road) → Contains (x ∷ ys) q → (r : Road) × Contains (dedup_from have_same_ends x ys) r × HaveSameEnds r q
keeps_each [] x q among = (q, among, (refl, refl))
keeps_each (y ∷ ys) x q among = elim (have_same_ends y x)
    as (λ b. have_same_ends y x ≡ b → (r : Road) × Contains (cond b (dedup_from have_same_ends x ys) (x ∷ dedup_from have_same_ends y ys)) r × HaveSameEnds r q) [
      | true ↦ λ e. elim (contains_cases x (y ∷ ys) q among) [
        | inl same ↦ keeps_each ys x q (subst (λ (p : Road). Contains (x ∷ ys) p) same (contains_first x ys))
        | inr later ↦ elim (contains_cases y ys q later) [
          | inr last ↦ keeps_each ys x q (contains_later x ys q last)
          | inl second ↦
              let alike = same_ends y x e in
              let found = keeps_each ys x x (contains_first x ys) in
              subst (λ (p : Road). (r : Road) × Contains (dedup_from have_same_ends x ys) r × HaveSameEnds r p) second
              (found.0, found.1, (found.2.0 ∙ sym alike.0, found.2.1 ∙ sym alike.1))
        ]
      ]
      | false ↦ λ e. elim (contains_cases x (y ∷ ys) q among) [
        | inl same ↦ (q, subst (λ (p : Road). Contains (x ∷ dedup_from have_same_ends y ys) p) same (contains_first x (dedup_from have_same_ends y ys)), (refl, refl))
        | inr later ↦
            let found = keeps_each ys y q later in
            (found.0, contains_later x (dedup_from have_same_ends y ys) found.0 found.1, found.2)
      ]
    ] refl

-- Of the arcs between different nodes, sorted

passes : (r : Road) → not (nat_eq r.from r.to) ≡ true → r.from ≢ r.to
passes r e same = grind (arith, nat_tests, e, same)

fails : (r : Road) → r.from ≢ r.to → not (nat_eq r.from r.to) ≡ true
fails r apart = grind (arith, nat_tests, apart)

pub kept_in : {A : Type 0} (p : A → Bool) (arcs : List A) (r : A) → Contains (filter p arcs) r → Contains arcs r × (p r ≡ true)
kept_in p [] r among = absurd (contains_none r among)
kept_in p (a ∷ arcs) r among = elim (p a) as (λ b. p a ≡ b → Contains (cond b (a ∷ filter p arcs) (filter p arcs)) r → Contains (a ∷ arcs) r × (p r ≡ true)) [
  | true ↦ λ e here. elim (contains_cases a (filter p arcs) r here) [
    | inl same ↦ (subst (λ q. Contains (a ∷ arcs) q) same (contains_first a arcs), subst (λ q. p q ≡ true) same e)
    | inr later ↦ let rest = kept_in p arcs r later in (contains_later a arcs r rest.0, rest.1)
  ]
  | false ↦ λ e here. let rest = kept_in p arcs r here in (contains_later a arcs r rest.0, rest.1)
] refl among

pub in_kept : {A : Type 0} (p : A → Bool) (arcs : List A) (r : A) → Contains arcs r → p r ≡ true → Contains (filter p arcs) r
in_kept p [] r among is = absurd (contains_none r among)
in_kept p (a ∷ arcs) r among is = elim (p a) as (λ b. p a ≡ b → Contains (cond b (a ∷ filter p arcs) (filter p arcs)) r) [
  | true ↦ λ e. elim (contains_cases a arcs r among) [
    | inl same ↦ subst (λ q. Contains (a ∷ filter p arcs) q) same (contains_first a (filter p arcs))
    | inr later ↦ contains_later a (filter p arcs) r (in_kept p arcs r later is)
  ]
  | false ↦ λ e. elim (contains_cases a arcs r among) [
    | inl same ↦ absurd (clash (sym e ∙ subst (λ q. p q ≡ true) (sym same) is))
    | inr later ↦ in_kept p arcs r later is
  ]
] refl
  where
    clash : false ≡ true → ⊥
    clash e = cc

module _ (arcs sorted : List Road) (all : IsPermutation (filter (λ r. not (nat_eq r.from r.to)) arcs) sorted) (order : AllPairs ComesNoLater sorted) where
  of_sorted : (r : Road) → Contains sorted r → Contains arcs r × (r.from ≢ r.to)
  of_sorted r among =
      let kept = kept_in (λ r. not (nat_eq r.from r.to)) arcs r (Contains-permutation _ _ r (IsPermutation-sym _ _ all) among) in
      (kept.0, passes r kept.1)

  to_sorted : (r : Road) → Contains arcs r → r.from ≢ r.to → Contains sorted r
  to_sorted r among apart = Contains-permutation _ _ r all (in_kept (λ r. not (nat_eq r.from r.to)) arcs r among (fails r apart))

apart_too : (r q : Road) → r.from ≢ r.to → HaveSameEnds r q → q.from ≢ q.to
apart_too r q apart same is = apart (same.0 ∙ is ∙ sym same.1)

pub least-dedup : (arcs sorted : List Road) → IsPermutation (filter (λ r. not (nat_eq r.from r.to)) arcs) sorted → AllPairs ComesNoLater sorted → AreLeast arcs (dedup have_same_ends sorted)
least-dedup arcs [] all order = record {
  rising = λ i j d less h. absurd (omega (arith, less, h));
  among = λ k d h. absurd (omega (arith, h));
  apart = λ k d h. absurd (omega (arith, h));
  at_most = λ r q kept among ends. absurd (contains_none r kept);
  whole = λ q among apart. absurd (contains_none q (to_sorted arcs [] all order q among apart));
}
least-dedup arcs (x ∷ ys) all order =
    let of_kept = λ (k : ℕ) (d : Road) (h : k < length (dedup_from have_same_ends x ys)).
    of_sorted arcs (x ∷ ys) all order (get_or (dedup_from have_same_ends x ys) k d)
    (Contains-from_dedup have_same_ends (x ∷ ys) _ (Contains-get_or (dedup_from have_same_ends x ys) k d h)) in
    record {
      rising = rises ys x order;
      among = λ k d h. (of_kept k d h).0;
      apart = λ k d h. (of_kept k d h).1;
      at_most = λ r q kept among ends.
          let from = of_sorted arcs (x ∷ ys) all order r (Contains-from_dedup have_same_ends (x ∷ ys) r kept) in
          weighs_least ys x order r q kept (to_sorted arcs (x ∷ ys) all order q among (apart_too r q from.1 ends)) ends;
      whole = λ q among apart. keeps_each ys x q (to_sorted arcs (x ∷ ys) all order q among apart);
    }
