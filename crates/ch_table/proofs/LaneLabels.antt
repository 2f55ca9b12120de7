-- Labels in lanes, of which one is written, or all of a place.
use Rattle.std.proofs.Common.{ℕ, ◌≡◌, ◌+◌, ◌<◌, ◌≤◌, List, [], ◌++◌, length, get_or, set, take, replicate, slice_index, All, ap, subst, sym, ◌∙◌, inl, inr, arith}
use Rattle.std.proofs.Math.Seq.{take-append_seam}
use Rattle.std.proofs.lemmas.Bool.{cases_eq, cases_lt}
use Rattle.std.proofs.lemmas.List.{get_or_past, get_or-replicate, get_or-set_same, get_or-set_other, length-replicate, length-set}
use Rattle.std.proofs.lemmas.List.Elements.{All-set}
use Rattle.ch_cost.specs.declared.cost.Cost.{Cost}
use Rattle.ch_graph.specs.Hierarchy.{Hierarchy}
use Rattle.ch_query.specs.declared.seed.Seed.{Seed}
use Rattle.ch_query.specs.declared.side.Side.TheVariants.{Rise}
use Rattle.ch_query.specs.Ways.{IsClimb}
use Rattle.ch_table.specs.Labels.{AreLabels, AreRaisedTo, HaveLanes, IsLabel, far, lane_of}
use Rattle.ch_table.proofs.LeastLabels.{label-most}

-- behind the last place there is none
pub lane-past : (labels : List (List ℕ)) (lane p : ℕ) → length labels ≤ p → lane_of labels lane p ≡ 0
lane-past labels lane p past = ap (λ (row : List ℕ). slice_index row lane) (get_or_past labels p [] past)

-- a place is written
module _ (labels : List (List ℕ)) (q : ℕ) (row : List ℕ) where
  pub lane-here : (lane : ℕ) → q < length labels → lane_of (set labels q row) lane q ≡ slice_index row lane
  lane-here lane q_in = ap (λ (r : List ℕ). slice_index r lane) (get_or-set_same labels q row [] q_in)

  pub lane-elsewhere : (lane p : ℕ) → (p ≡ q → ⊥) → lane_of (set labels q row) lane p ≡ lane_of labels lane p
  lane-elsewhere lane p other = ap (λ (r : List ℕ). slice_index r lane) (get_or-set_other labels q p row [] other)

  pub lanes-set : (places lanes : ℕ) → length row ≡ lanes → HaveLanes places lanes labels → HaveLanes places lanes (set labels q row)
  lanes-set places lanes wide have = record {
    count = length-set labels q row ∙ have.count;
    wide = All-set (λ (r : List ℕ). length r ≡ lanes) labels q row wide have.wide;
  }

-- one label of a place is
module _ (labels : List (List ℕ)) (q lane x : ℕ) where
  abbrev new : List ℕ
  new = set (get_or labels q []) lane x

  pub lane-written : (places lanes : ℕ) → q < length labels → lane < lanes → HaveLanes places lanes labels → lane_of (set labels q (set (get_or labels q []) lane x)) lane q ≡ x
  lane-written places lanes q_in lane_in have = lane-here labels q new lane q_in ∙ get_or-set_same (get_or labels q []) lane x 0 (omega (arith, lane_in, have.wide q [] q_in))

  pub lane-apart : (j p : ℕ) → (j ≡ lane → ⊥) → lane_of (set labels q (set (get_or labels q []) lane x)) j p ≡ lane_of labels j p
  lane-apart j p apart = elim (cases_eq p q) [
    | inl here ↦ elim (cases_lt q (length labels)) [
      | inl q_in ↦ ap (λ i. lane_of (set labels q new) j i) here ∙ (lane-here labels q new j q_in ∙ (get_or-set_other (get_or labels q []) lane j x 0 apart ∙ ap (λ i. lane_of labels j i) (sym here)))
      | inr past ↦ lane-past (set labels q new) j p (omega (arith, here, past, length-set labels q new)) ∙ sym (lane-past labels j p (omega (arith, here, past)))
    ]
    | inr other ↦ lane-elsewhere labels q new j p other
  ]

  pub lanes-written : (places lanes : ℕ) → q < length labels → HaveLanes places lanes labels → HaveLanes places lanes (set labels q (set (get_or labels q []) lane x))
  lanes-written places lanes q_in have = lanes-set labels q new places lanes (length-set (get_or labels q []) lane x ∙ have.wide q [] q_in) have

-- labels that are equal at each place
pub labels-same : (Has : ℕ → Cost → Type 0) (bound : Cost) (ranks : List ℕ) (old next : ℕ → ℕ) → ((p : ℕ) → next p ≡ old p) → AreLabels Has bound ranks old → AreLabels Has bound ranks next
labels-same Has bound ranks old next same are p low = subst (λ n. IsLabel (Has (slice_index ranks p)) bound n) (sym (same p)) (are p low)

-- All is far where each place has the same
module _ (labels : List (List ℕ)) (lanes distant : ℕ) (all : All (λ (row : List ℕ). row ≡ replicate lanes distant) labels) where
  pub all-far : (lane p : ℕ) → lane < lanes → p < length labels → lane_of labels lane p ≡ distant
  all-far lane p lane_in p_in = ap (λ (row : List ℕ). slice_index row lane) (all p [] p_in) ∙ get_or-replicate lanes lane distant 0 lane_in

  pub all-small : (lane p : ℕ) → lane_of labels lane p ≤ distant
  all-small lane p = elim (cases_lt p (length labels)) [
    | inl p_in ↦ elim (cases_lt lane lanes) [
      | inl lane_in ↦ omega (arith, all-far lane p lane_in p_in)
      | inr past ↦
          let none : lane_of labels lane p ≡ 0 = ap (λ (row : List ℕ). slice_index row lane) (all p [] p_in) ∙ get_or_past (replicate lanes distant) lane 0 (omega (arith, past, length-replicate lanes distant)) in
          omega (arith, none)
    ]
    | inr past ↦ omega (arith, lane-past labels lane p past)
  ]

  pub all-lanes : (places : ℕ) → length labels ≡ places → HaveLanes places lanes labels
  all-lanes places count = record { count = count; wide = λ k d low. ap (λ (row : List ℕ). length row) (all k d low) ∙ length-replicate lanes distant }

pub raised-far : (h : Hierarchy) (starts : ℕ → List Seed) (bound : Cost) (ranks : List ℕ) (lanes : ℕ) (labels : List (List ℕ)) → length labels ≡ length ranks → All (λ (row : List ℕ). row ≡ replicate lanes (far bound)) labels → AreRaisedTo h starts bound ranks lanes labels 0
raised-far h starts bound ranks lanes labels count all = record {
  small = λ lane p. all-small labels lanes (far bound) all lane p;
  climbs = λ j low. absurd (omega (arith, low));
  rest = λ j p from j_in low. all-far labels lanes (far bound) all j p j_in (omega (arith, low, count));
}

-- The labels of one more lane are those of its climbs
pub raised-lane : (h : Hierarchy) (starts : ℕ → List Seed) (own : List Seed) (bound : Cost) (ranks : List ℕ) (lanes : ℕ) (old new : List (List ℕ)) (n : ℕ) → starts n ≡ own → length new ≡ length ranks
    → AreLabels (IsClimb h Rise own bound) bound ranks (lane_of new n) → ((j p : ℕ) → (j ≡ n → ⊥) → lane_of new j p ≡ lane_of old j p)
    → AreRaisedTo h starts bound ranks lanes old n → AreRaisedTo h starts bound ranks lanes new (n + 1)
raised-lane h starts own bound ranks lanes old new n is count labels others was = record {
  small = λ j p. elim (cases_eq j n) [
    | inl here ↦ elim (cases_lt p (length ranks)) [
      | inl low ↦
          let most : lane_of new n p ≤ far bound = label-most (λ c climb. climb.short) (labels p low) in
          omega (arith, most, ap (λ i. lane_of new i p) here)
      | inr past ↦ omega (arith, lane-past new j p (omega (arith, past, count)))
    ]
    | inr other ↦ omega (arith, others j p other, was.small j p)
  ];
  climbs = λ j low. elim (cases_eq j n) [
    | inl here ↦ subst (λ i. AreLabels (IsClimb h Rise (starts i) bound) bound ranks (lane_of new i)) (sym here) (subst (λ (s : List Seed). AreLabels (IsClimb h Rise s bound) bound ranks (lane_of new n)) (sym is) labels)
    | inr other ↦ labels-same (IsClimb h Rise (starts j) bound) bound ranks (lane_of old j) (lane_of new j) (λ p. others j p other) (was.climbs j (omega (arith, low, other)))
  ];
  rest = λ j p from j_in low.
      let other : j ≡ n → ⊥ = λ same. omega (arith, same, from) in
      others j p other ∙ was.rest j p (omega (arith, from)) j_in low;
}

-- what a slice of a vector has at the end is what the vector has
pub written-back : (n : ℕ) (new rest : List (List ℕ)) → length new ≡ n → take n (new ++ rest) ≡ new
written-back n new rest is = subst (λ m. take m (new ++ rest) ≡ new) is (take-append_seam new rest)
