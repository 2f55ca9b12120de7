-- Nodes are seen, and forgotten.
use Rattle.std.proofs.Common.{ℕ, ◌≡◌, ◌≢◌, ◌<◌, ◌≤◌, List, [], ◌∷◌, ◌++◌, zero, suc, Bool, cond, true, false, eqb, get_or, slice_get, slice_index, length, map, set, replicate, AllPairs, Contains, Some, ap, refl, sym, subst, ◌∙◌, inl, inr, arith}
use Rattle.std.proofs.Math.Seq.{get_or-append_seam}
use Rattle.std.proofs.lemmas.Bool.{cases_eq, cases_lt}
use Rattle.std.proofs.lemmas.Bool.Decides.{nat_tests, Decides-eqb}
use Rattle.std.proofs.lemmas.List.{ext_get_or, get_or_append_left, get_or-map, get_or-replicate, get_or-set_same, get_or-set_other, length-append, length-map, length-replicate, length-set}
use Rattle.std.proofs.lemmas.Map.Made.{IsDistinct-from_AllPairs}
use Rattle.std.proofs.lemmas.Map.Steps.{length-le_from_distinct_below}
use Rattle.std.proofs.lemmas.Map.Views.{Contains-from_any}
use Rattle.std.proofs.lemmas.Option.{slice_get-get_or, slice_get_past, slice_get_within}
use Rattle.ch_graph.specs.declared.mark.Mark.{Mark}
use Rattle.ch_graph.specs.declared.mark.Mark.TheVariants.{Unseen, Open, Settled}
use Rattle.ch_graph.specs.Marks.{mark}
use Rattle.ch_graph.specs.Marks.Laws.{unseen-open, unseen-settled}
use Rattle.ch_query.specs.declared.label.Label.{Label}
use Rattle.ch_query.specs.declared.mark_list.Touched.{Touched}
use Rattle.ch_query.specs.Touched.{mark_in, mark_at, marks_in, ArePlaces}

-- A list of nodes that were seen

set_here : (xs : List Touched) (k : ℕ) (s : Touched) → k < length xs → slice_get (set xs k s) k ≡ Some s
set_here xs k s low = slice_get-get_or (set xs k s) k s (omega (arith, low, length-set xs k s)) ∙ ap (λ (t : Touched). Some t) (get_or-set_same xs k s s low)

set_other : (xs : List Touched) (k j : ℕ) (s : Touched) → (j ≡ k → ⊥) → slice_get (set xs k s) j ≡ slice_get xs j
set_other xs k j s other = elim (cases_lt j (length xs)) [
  | inl low ↦ slice_get-get_or (set xs k s) j s (omega (arith, low, length-set xs k s)) ∙ ap (λ (t : Touched). Some t) (get_or-set_other xs k j s s other) ∙ sym (slice_get-get_or xs j s low)
  | inr past ↦ slice_get_past (set xs k s) j (omega (arith, past, length-set xs k s)) ∙ sym (slice_get_past xs j past)
]

push_here : (xs : List Touched) (s : Touched) → slice_get (xs ++ s ∷ []) (length xs) ≡ Some s
push_here xs s = slice_get-get_or (xs ++ s ∷ []) (length xs) s (omega (arith, length-append xs (s ∷ []))) ∙ ap (λ (t : Touched). Some t) (get_or-append_seam xs s [] s)

push_before : (xs : List Touched) (s : Touched) (k : ℕ) → k < length xs → slice_get (xs ++ s ∷ []) k ≡ slice_get xs k
push_before xs s k low = slice_get-get_or (xs ++ s ∷ []) k s (omega (arith, low, length-append xs (s ∷ []))) ∙ ap (λ (t : Touched). Some t) (get_or_append_left xs (s ∷ []) s k low) ∙ sym (slice_get-get_or xs k s low)

same_seen : {s t : Touched} → Some s ≡ Some t → s ≡ t
same_seen is = cc (is)

-- Marks

pub mark_read : (seen : List Touched) (places : List ℕ) (r : ℕ) → r < length places → mark (marks_in seen places) r ≡ mark_at seen (slice_index places r)
mark_read seen places r within = get_or-map (mark_at seen) places r 0 Unseen within

pub as_many : (seen : List Touched) (places : List ℕ) → length (marks_in seen places) ≡ length places
as_many seen places = length-map places (mark_at seen)

-- one mark is another, and the rest stay
module _ (seen new_seen : List Touched) (places new_places : List ℕ) (r : ℕ) (m : Mark Label) (count : length new_places ≡ length places) (within : r < length places)
    (is : mark_at new_seen (slice_index new_places r) ≡ m)
    (stay : (q : ℕ) → q < length places → (q ≡ r → ⊥) → mark_at new_seen (slice_index new_places q) ≡ mark_at seen (slice_index places q)) where
  abbrev before : List (Mark Label)
  before = marks_in seen places

  abbrev after : List (Mark Label)
  after = marks_in new_seen new_places

  written_here : mark after r ≡ mark (set before r m) r
  written_here = mark_read new_seen new_places r (omega (arith, within, count)) ∙ is ∙ sym (get_or-set_same before r m Unseen (omega (arith, within, as_many seen places)))

  written_there : (q : ℕ) → q < length after → mark after q ≡ mark (set before r m) q
  written_there q low =
      let in_old : q < length places = omega (arith, low, count, as_many new_seen new_places) in
      elim (cases_eq q r) [
        | inl same ↦ subst (λ n. mark after n ≡ mark (set before r m) n) (sym same) written_here
        | inr other ↦ mark_read new_seen new_places q (omega (arith, in_old, count)) ∙ stay q in_old other ∙ sym (mark_read seen places q in_old) ∙ sym (get_or-set_other before r q m Unseen other)
      ]

  written : marks_in new_seen new_places ≡ set (marks_in seen places) r m
  written = ext_get_or Unseen after (set before r m) (omega (arith, count, as_many seen places, as_many new_seen new_places, length-set before r m)) written_there

-- Nothing is seen

pub unseen : (seen : List Touched) (places : List ℕ) → length seen ≡ 0 → marks_in seen places ≡ replicate {A = Mark Label} (length places) Unseen
unseen (s ∷ seen) places none = absurd (omega (arith, none))
unseen [] places none = ext_get_or Unseen (marks_in [] places) (replicate {A = Mark Label} (length places) Unseen) (as_many [] places ∙ sym (length-replicate {A = Mark Label} (length places) Unseen)) read
  where
    at : (p : ℕ) → mark_at [] p ≡ Unseen
    at zero = refl
    at (suc k) = refl

    read : (q : ℕ) → q < length (marks_in [] places) → mark (marks_in [] places) q ≡ mark (replicate {A = Mark Label} (length places) Unseen) q
    read q low =
        let within : q < length places = omega (arith, low, as_many [] places) in
        mark_read [] places q within ∙ at (slice_index places q) ∙ sym (get_or-replicate {A = Mark Label} (length places) q Unseen Unseen within)

-- what is in the list is marked
marked : (settled : Bool) (e : Label) → cond settled (Settled e) (Open e) ≡ Unseen → ⊥
marked true e is = unseen-settled (sym is)
marked false e is = unseen-open (sym is)

pub none_listed : (nodes : ℕ) {places : List ℕ} {seen : List Touched} → ArePlaces places seen → marks_in seen places ≡ replicate {A = Mark Label} nodes Unseen → seen ≡ []
none_listed nodes {seen = []} are none = refl
none_listed nodes {places} {seen = s ∷ seen} are none =
    let within : s.rank < length places = are.within 0 s refl in
    let fits : s.rank < nodes = omega (arith, within, as_many (s ∷ seen) places, ap (λ (ms : List (Mark Label)). length ms) none, length-replicate {A = Mark Label} nodes Unseen) in
    let read : mark_at (s ∷ seen) (slice_index places s.rank) ≡ Unseen = sym (mark_read (s ∷ seen) places s.rank within) ∙ ap (λ (ms : List (Mark Label)). mark ms s.rank) none ∙ get_or-replicate {A = Mark Label} nodes s.rank Unseen Unseen fits in
    absurd (marked s.settled s.label (sym (ap (mark_at (s ∷ seen)) (are.here 0 s refl)) ∙ read))

pub none_placed : (nodes : ℕ) {places : List ℕ} {seen : List Touched} → places ≡ replicate nodes 0 → seen ≡ [] → ArePlaces places seen
none_placed nodes {places} {seen} zeros none = record {
  within = λ k s is. absurd (past k s is);
  here = λ k s is. absurd (past k s is);
  back = λ r k low is.
      let fits : r < nodes = omega (arith, low, ap (λ (xs : List ℕ). length xs) zeros, length-replicate {A = ℕ} nodes 0) in
      let at : slice_index places r ≡ 0 = ap (λ (xs : List ℕ). slice_index xs r) zeros ∙ get_or-replicate {A = ℕ} nodes r 0 0 fits in
      absurd (omega (arith, at, is));
}
  where
    past : (k : ℕ) (s : Touched) → slice_get seen k ≡ Some s → ⊥
    past k s is = omega (arith, slice_get_within seen k s is, ap (λ (xs : List Touched). length xs) none)

-- A node that was seen is written once more

module _ {places : List ℕ} {seen : List Touched} (are : ArePlaces places seen) (k : ℕ) (s : Touched) (within : s.rank < length places) (at : slice_index places s.rank ≡ suc k) where
  owner : (t : Touched) × (slice_get seen k ≡ Some t) × (t.rank ≡ s.rank)
  owner = are.back s.rank k within at

  pub written-within : k < length seen
  written-within = slice_get_within seen k owner.0 owner.1

  -- no other rank has this place
  other_place : (q j : ℕ) → q < length places → slice_index places q ≡ suc j → (q ≡ s.rank → ⊥) → j ≡ k → ⊥
  other_place q j low is other same =
      let b = are.back q j low is in
      let one : b.0 ≡ owner.0 = same_seen (sym b.1 ∙ ap (λ n. slice_get seen n) same ∙ owner.1) in
      other (sym b.2 ∙ ap (λ (t : Touched). t.rank) one ∙ owner.2)

  pub placed-written : ArePlaces places (set seen k s)
  placed-written = record {
    within = λ j t is. elim (cases_eq j k) [
      | inl same ↦ subst (λ (u : Touched). u.rank < length places) (here_is j t is same) within
      | inr other ↦ are.within j t (sym (set_other seen k j s other) ∙ is)
    ];
    here = λ j t is. elim (cases_eq j k) [
      | inl same ↦ subst (λ (u : Touched). slice_index places u.rank ≡ suc j) (here_is j t is same) (at ∙ ap (λ n. suc n) (sym same))
      | inr other ↦ are.here j t (sym (set_other seen k j s other) ∙ is)
    ];
    back = λ q j low is. elim (cases_eq q s.rank) [
      | inl own ↦
          let same : j ≡ k = omega (arith, is, at, ap (λ n. slice_index places n) own) in
          (s, ap (λ n. slice_get (set seen k s) n) same ∙ set_here seen k s written-within, sym own)
      | inr other ↦ let b = are.back q j low is in (b.0, set_other seen k j s (other_place q j low is other) ∙ b.1, b.2)
    ];
  }
    where
      here_is : (j : ℕ) (t : Touched) → slice_get (set seen k s) j ≡ Some t → j ≡ k → s ≡ t
      here_is j t is same = same_seen (sym (set_here seen k s written-within) ∙ ap (λ n. slice_get (set seen k s) n) (sym same) ∙ is)

  pub marks-written : marks_in (set seen k s) places ≡ set (marks_in seen places) s.rank (mark_in (Some s))
  marks-written = written seen (set seen k s) places places s.rank (mark_in (Some s)) refl within (subst (λ p. mark_at (set seen k s) p ≡ mark_in (Some s)) (sym at) (ap mark_in (set_here seen k s written-within))) (λ q low other. stays q low other (slice_index places q) refl)
    where
      stays : (q : ℕ) → q < length places → (q ≡ s.rank → ⊥) → (p : ℕ) → slice_index places q ≡ p → mark_at (set seen k s) p ≡ mark_at seen p
      stays q low other zero is = refl
      stays q low other (suc j) is = ap mark_in (set_other seen k j s (other_place q j low is other))

-- A node is seen

module _ {places : List ℕ} {seen : List Touched} (are : ArePlaces places seen) (s : Touched) (within : s.rank < length places) (none : slice_index places s.rank ≡ 0) where
  abbrev more : List ℕ
  more = set places s.rank (suc (length seen))

  read_here : slice_index more s.rank ≡ suc (length seen)
  read_here = get_or-set_same places s.rank (suc (length seen)) 0 within

  read_other : (q : ℕ) → (q ≡ s.rank → ⊥) → slice_index more q ≡ slice_index places q
  read_other q other = get_or-set_other places s.rank q (suc (length seen)) 0 other

  -- what was seen before has another rank
  apart : (j : ℕ) (t : Touched) → slice_get seen j ≡ Some t → t.rank ≡ s.rank → ⊥
  apart j t is same = omega (arith, are.here j t is, none, ap (λ n. slice_index places n) same)

  last_is : (j : ℕ) (t : Touched) → slice_get (seen ++ s ∷ []) j ≡ Some t → length seen ≤ j → (j ≡ length seen) × (s ≡ t)
  last_is j t is past =
      let same : j ≡ length seen = omega (arith, past, slice_get_within (seen ++ s ∷ []) j t is, length-append seen (s ∷ [])) in
      (same, same_seen (sym (push_here seen s) ∙ ap (λ n. slice_get (seen ++ s ∷ []) n) (sym same) ∙ is))

  pub placed-pushed : ArePlaces (set places s.rank (suc (length seen))) (seen ++ s ∷ [])
  placed-pushed = record {
    within = λ j t is. elim (cases_lt j (length seen)) [
      | inl low ↦ omega (arith, are.within j t (sym (push_before seen s j low) ∙ is), length-set places s.rank (suc (length seen)))
      | inr past ↦ subst (λ (u : Touched). u.rank < length more) (last_is j t is past).1 (omega (arith, within, length-set places s.rank (suc (length seen))))
    ];
    here = λ j t is. elim (cases_lt j (length seen)) [
      | inl low ↦ let old : slice_get seen j ≡ Some t = sym (push_before seen s j low) ∙ is in read_other t.rank (apart j t old) ∙ are.here j t old
      | inr past ↦ let last = last_is j t is past in subst (λ (u : Touched). slice_index more u.rank ≡ suc j) last.1 (read_here ∙ ap (λ n. suc n) (sym last.0))
    ];
    back = λ q j low is. elim (cases_eq q s.rank) [
      | inl own ↦
          let same : j ≡ length seen = omega (arith, is, read_here, ap (λ n. slice_index more n) own) in
          (s, ap (λ n. slice_get (seen ++ s ∷ []) n) same ∙ push_here seen s, sym own)
      | inr other ↦
          let b = are.back q j (omega (arith, low, length-set places s.rank (suc (length seen)))) (sym (read_other q other) ∙ is) in
          (b.0, push_before seen s j (slice_get_within seen j b.0 b.1) ∙ b.1, b.2)
    ];
  }

  pub marks-pushed : marks_in (seen ++ s ∷ []) (set places s.rank (suc (length seen))) ≡ set (marks_in seen places) s.rank (mark_in (Some s))
  marks-pushed = written seen (seen ++ s ∷ []) places more s.rank (mark_in (Some s)) (length-set places s.rank (suc (length seen))) within
      (subst (λ p. mark_at (seen ++ s ∷ []) p ≡ mark_in (Some s)) (sym read_here) (ap mark_in (push_here seen s)))
      (λ q low other. subst (λ p. mark_at (seen ++ s ∷ []) p ≡ mark_at seen (slice_index places q)) (sym (read_other q other)) (stays q low (slice_index places q) refl))
    where
      stays : (q : ℕ) → q < length places → (p : ℕ) → slice_index places q ≡ p → mark_at (seen ++ s ∷ []) p ≡ mark_at seen p
      stays q low zero is = refl
      stays q low (suc j) is = let b = are.back q j low is in ap mark_in (push_before seen s j (slice_get_within seen j b.0 b.1))

  -- so there are fewer of them than places
  abbrev ranks : List ℕ
  ranks = map (λ (t : Touched). t.rank) seen

  member : (xs : List Touched) (k d : ℕ) → k < length (map (λ (t : Touched). t.rank) xs) → (t : Touched) × (slice_get xs k ≡ Some t) × (get_or (map (λ (t : Touched). t.rank) xs) k d ≡ t.rank)
  member [] k d low = absurd (omega (arith, low))
  member (x ∷ xs) zero d low = (x, refl, refl)
  member (x ∷ xs) (suc k) d low = member xs k d (omega (arith, low))

  once : AllPairs (λ x y. x ≢ y) (s.rank ∷ ranks)
  once i zero d before low same = omega (arith, before)
  once zero (suc j) d before low same = let m = member seen j d (omega (arith, low)) in apart j m.0 m.1 (sym m.2 ∙ sym same)
  once (suc i) (suc j) d before low same =
      let m = member seen i d (omega (arith, before, low)) in
      let n = member seen j d (omega (arith, low)) in
      omega (arith, before, are.here i m.0 m.1, are.here j n.0 n.1, ap (λ r. slice_index places r) (sym m.2 ∙ same ∙ n.2))

  below : (q : ℕ) → Contains (s.rank ∷ ranks) q → q < length places
  below q (zero, low, is) = subst (λ n. n < length places) is within
  below q (suc k, low, is) = let m = member seen k q (omega (arith, low)) in subst (λ n. n < length places) (sym m.2 ∙ is) (are.within k m.0 m.1)

  pub few_seen : length seen < length places
  few_seen = omega (arith, length-map seen (λ (t : Touched). t.rank), length-le_from_distinct_below (s.rank ∷ ranks) (length places) (IsDistinct-from_AllPairs Decides-eqb (s.rank ∷ ranks) once) (λ q among. below q (Contains-from_any {eq = eqb} (λ x y. λ e. grind (arith, nat_tests, e)) q (s.rank ∷ ranks) among)))

-- The node that was seen last is forgotten

module _ {places : List ℕ} {seen : List Touched} (are : ArePlaces places seen) (rest : List Touched) (s : Touched) (parts : seen ≡ rest ++ s ∷ []) where
  last : slice_get seen (length rest) ≡ Some s
  last = ap (λ (xs : List Touched). slice_get xs (length rest)) parts ∙ push_here rest s

  pub popped-within : s.rank < length places
  popped-within = are.within (length rest) s last

  among : (j : ℕ) (t : Touched) → slice_get rest j ≡ Some t → slice_get seen j ≡ Some t
  among j t is = ap (λ (xs : List Touched). slice_get xs j) parts ∙ push_before rest s j (slice_get_within rest j t is) ∙ is

  other_rank : (j : ℕ) (t : Touched) → slice_get rest j ≡ Some t → t.rank ≡ s.rank → ⊥
  other_rank j t is same = omega (arith, slice_get_within rest j t is, are.here j t (among j t is), are.here (length rest) s last, ap (λ n. slice_index places n) same)

  pub placed-popped : ArePlaces (set places s.rank 0) rest
  placed-popped = record {
    within = λ j t is. omega (arith, are.within j t (among j t is), length-set places s.rank 0);
    here = λ j t is. get_or-set_other places s.rank t.rank 0 0 (other_rank j t is) ∙ are.here j t (among j t is);
    back = λ q j low is. elim (cases_eq q s.rank) [
      | inl own ↦ absurd (omega (arith, is, get_or-set_same places s.rank 0 0 popped-within, ap (λ n. slice_index (set places s.rank 0) n) own))
      | inr other ↦
          let b = are.back q j (omega (arith, low, length-set places s.rank 0)) (sym (get_or-set_other places s.rank q 0 0 other) ∙ is) in
          let not_last : j ≡ length rest → ⊥ = λ same. other (sym b.2 ∙ ap (λ (t : Touched). t.rank) (same_seen (sym b.1 ∙ ap (λ n. slice_get seen n) same ∙ last))) in
          let low_too : j < length rest = elim (cases_lt j (length rest)) [
            | inl before ↦ before
            | inr past ↦ absurd (not_last (omega (arith, past, slice_get_within seen j b.0 b.1, ap (λ (xs : List Touched). length xs) parts, length-append rest (s ∷ []))))
          ] in
          (b.0, sym (push_before rest s j low_too) ∙ ap (λ (xs : List Touched). slice_get xs j) (sym parts) ∙ b.1, b.2)
    ];
  }

-- a node that is open has a place
pub place_of_open : (seen : List Touched) {p : ℕ} {e : Label} → mark_at seen p ≡ Open e → 0 < p
place_of_open seen {p = zero} is = absurd (unseen-open is)
place_of_open seen {p = suc k} is = omega arith
