-- Both sides of a query begin, and both have stopped.
use Rattle.std.proofs.Common.{ℕ, ◌≡◌, ◌||◌, ◌+◌, ◌<◌, ◌≤◌, ◌⊎◌, true, false, Bool, List, length, set, replicate, Option, Some, None, slice_get, ap, refl, sym, subst, ◌∙◌, inl, inr, arith}
use Rattle.std.proofs.lemmas.Bool.{cases_lt}
use Rattle.std.proofs.lemmas.List.{length-replicate}
use Rattle.ch_cost.specs.declared.cost.Cost.{Cost}
use Rattle.ch_cost.specs.Cost.{IsNoLonger, IsOfWalks}
use Rattle.ch_cost.specs.Cost.Laws.{at_most_refl, of_walks_more}
use Rattle.ch_cost.specs.Cost.Numbers.{of_walks-from_arcs}
use Rattle.ch_graph.specs.declared.mark.Mark.{Mark}
use Rattle.ch_graph.specs.declared.mark.Mark.TheVariants.{Unseen, Open, Settled}
use Rattle.ch_graph.specs.Hierarchy.{Hierarchy, rank_of}
use Rattle.ch_graph.specs.Marks.{mark, HasLabel, IsAtMost, settled_count}
use Rattle.ch_graph.specs.Marks.Laws.{cases_put, put-set, mark-replicate, label_open, one_label, unseen-label, unseen-settled, open-settled, at_most-from_label, improves-below}
use Rattle.ch_graph.specs.Searching.Laws.{search-begin}
use Rattle.ch_query.specs.declared.seed.Seed.{Seed}
use Rattle.ch_query.specs.declared.side.Side.{Side}
use Rattle.ch_query.specs.declared.label.Label.{Label}
use Rattle.ch_query.specs.Seeds.{AreSeeds, IsSeedAt}
use Rattle.ch_query.specs.Labels.{CountsBelow}
use Rattle.ch_query.specs.Marks.{label_cost, IsStopped}
use Rattle.ch_query.specs.Searching.{IsOfSeed, IsClimbing, IsSearching, IsTurned}
use Rattle.ch_query.specs.Beginning.{NoneSettled, IsPlanted, IsBegun}
use Rattle.ch_query.specs.Meeting.{IsBestSoFar}
use Rattle.ch_query.proofs.SeedPlaces.{among-from_get, get-from_among, seed-in}
use Rattle.ch_query.proofs.BestMeetings.{best-none}

-- No seed is open yet

pub begun-none : {h : Hierarchy} {seeds : List Seed} {bound : Cost} {n : ℕ} → n ≡ length h.ranks → {marks : List (Mark Label)} → marks ≡ replicate n Unseen → IsBegun h seeds bound 0 marks
begun-none {n} nodes {marks} unseen = record {
  nodes = ap length unseen ∙ (length-replicate {A = Mark Label} n Unseen ∙ nodes);
  none = λ r e closed. unseen-settled (sym (unseen_at r) ∙ closed);
  of_seed = λ r e has. absurd (unseen-label (mark marks r) e (unseen_at r) has);
  short = λ r e has. absurd (unseen-label (mark marks r) e (unseen_at r) has);
  seeded = λ k seed low is short. absurd (omega (arith, low));
}
  where
    unseen_at : (r : ℕ) → mark marks r ≡ Unseen
    unseen_at r = subst (λ (ms : List (Mark Label)). mark ms r ≡ Unseen) (sym unseen) (mark-replicate n r)

-- One more is

-- each label stays at most what it was
seeded-kept : {bound : Cost} {r : ℕ} {c : Cost} {old new : List (Mark Label)} → r < length old → IsPlanted bound r c old new → (q : ℕ) (d : Cost) → IsAtMost label_cost (mark old q) d → IsAtMost label_cost (mark new q) d
seeded-kept {r} {c} {old} within (inl put) q d most = subst (λ (ms : List (Mark Label)). IsAtMost label_cost (mark ms q) d) (sym put.2) (elim (cases_put (put-set old r (Open (record { cost = c; foot = r })) within) q) [
  | inl w ↦
      let e : Label = record { cost = c; foot = r } in
      let less = improves-below label_cost (mark old r) c d put.1 (subst (λ p. IsAtMost label_cost (mark old p) d) w.at most) in
      at_most-from_label label_cost (mark (set old r (Open e)) q) e d (label_open (mark (set old r (Open e)) q) e w.reads) less
  | inr k ↦ subst (λ (m : Mark Label). IsAtMost label_cost m d) (sym k.reads) most
])
seeded-kept within (inr kept) q d most = subst (λ (ms : List (Mark Label)). IsAtMost label_cost (mark ms q) d) (sym kept.1) most

-- and where the seed is short, that of its node is at most its cost
seeded-here : {bound : Cost} {r : ℕ} {c : Cost} {old new : List (Mark Label)} → r < length old → IsPlanted bound r c old new → IsNoLonger c bound → IsAtMost label_cost (mark new r) c
seeded-here {r} {c} {old} within (inl put) short =
    let e : Label = record { cost = c; foot = r } in
    subst (λ (ms : List (Mark Label)). IsAtMost label_cost (mark ms r) c) (sym put.2)
    (at_most-from_label label_cost (mark (set old r (Open e)) r) e c (label_open (mark (set old r (Open e)) r) e (put-set old r (Open e) within).here) (at_most_refl c))
seeded-here {r} {c} within (inr kept) short = subst (λ (ms : List (Mark Label)). IsAtMost label_cost (mark ms r) c) (sym kept.1) (kept.0 short)

-- a label is an older one, or that of the seed
record IsNew (bound : Cost) (r : ℕ) (c : Cost) (q : ℕ) (e : Label) : Type 0 where
  at : q ≡ r
  cost : e.cost ≡ c
  foot : e.foot ≡ r
  short : IsNoLonger c bound

seeded-label : {bound : Cost} {r : ℕ} {c : Cost} {old new : List (Mark Label)} → r < length old → IsPlanted bound r c old new → {q : ℕ} {e : Label} → HasLabel (mark new q) e → HasLabel (mark old q) e ⊎ IsNew bound r c q e
seeded-label {r} {c} {old} within (inl put) {q} {e} has = elim (cases_put (put-set old r (Open (record { cost = c; foot = r })) within) q) [
  | inl w ↦
      let first : Label = record { cost = c; foot = r } in
      let same : first ≡ e = one_label (mark (set old r (Open first)) q) first e (label_open (mark (set old r (Open first)) q) first w.reads) there in
      inr (record { at = w.at; cost = ap (λ (l : Label). l.cost) (sym same); foot = ap (λ (l : Label). l.foot) (sym same); short = put.0 })
  | inr k ↦ inl (subst (λ (m : Mark Label). HasLabel m e) k.reads there)
]
  where
    there : HasLabel (mark (set old r (Open (record { cost = c; foot = r }))) q) e
    there = subst (λ (ms : List (Mark Label)). HasLabel (mark ms q) e) put.2 has
seeded-label within (inr kept) {q} {e} has = inl (subst (λ (ms : List (Mark Label)). HasLabel (mark ms q) e) kept.1 has)

seeded-none : {bound : Cost} {r : ℕ} {c : Cost} {old new : List (Mark Label)} → r < length old → IsPlanted bound r c old new → NoneSettled old → NoneSettled new
seeded-none {r} {c} {old} within (inl put) none q e closed = elim (cases_put (put-set old r (Open (record { cost = c; foot = r })) within) q) [
  | inl w ↦ open-settled (sym w.reads ∙ there)
  | inr k ↦ none q e (sym k.reads ∙ there)
]
  where
    there : mark (set old r (Open (record { cost = c; foot = r }))) q ≡ Settled e
    there = subst (λ (ms : List (Mark Label)). mark ms q ≡ Settled e) put.2 closed
seeded-none within (inr kept) none q e closed = none q e (subst (λ (ms : List (Mark Label)). mark ms q ≡ Settled e) kept.1 closed)

some_seed : {a b : Seed} → Some a ≡ Some b → a ≡ b
some_seed is = cc

pub begun-more : {h : Hierarchy} {seeds : List Seed} {bound : Cost} {n : ℕ} {seed : Seed} {old new : List (Mark Label)}
    → slice_get seeds n ≡ Some seed → rank_of h seed.node < length h.ranks → length new ≡ length old
    → IsPlanted bound (rank_of h seed.node) seed.cost old new → IsBegun h seeds bound n old → IsBegun h seeds bound (n + 1) new
begun-more {h} {seeds} {bound} {n} {seed} {old} {new} at rank_in count seeded was = record {
  nodes = count ∙ was.nodes;
  none = seeded-none within seeded was.none;
  of_seed = λ q e has. elim (seeded-label within seeded has) [
    | inl there ↦ was.of_seed q e there
    | inr is_new ↦ record {
      seed = record { seed = seed; among = among-from_get seeds n at; rank = sym is_new.at; cost = sym is_new.cost };
      foot = is_new.foot ∙ sym is_new.at;
    }
  ];
  short = λ q e has. elim (seeded-label within seeded has) [
    | inl there ↦ was.short q e there
    | inr is_new ↦ subst (λ (d : Cost). IsNoLonger d bound) (sym is_new.cost) is_new.short
  ];
  seeded = λ k other low is short. elim (cases_lt k n) [
    | inl before ↦ seeded-kept within seeded (rank_of h other.node) other.cost (was.seeded k other before is short)
    | inr last ↦
        let here : k ≡ n = omega (arith, low, last) in
        let same : seed ≡ other = some_seed (sym at ∙ (ap (slice_get seeds) (sym here) ∙ is)) in
        subst (λ (s : Seed). IsAtMost label_cost (mark new (rank_of h s.node)) s.cost) same (seeded-here within seeded (subst (λ (s : Seed). IsNoLonger s.cost bound) (sym same) short))
  ];
}
  where
    r : ℕ
    r = rank_of h seed.node

    within : rank_of h seed.node < length old
    within = omega (arith, rank_in, was.nodes)

-- All are: a side has begun

module _ {h : Hierarchy} (side : Side) {seeds : List Seed} (are : AreSeeds h seeds) {bound : Cost} {marks : List (Mark Label)} (begun : IsBegun h seeds bound (length seeds) marks) where
  pub searching-begun : IsSearching h side seeds bound marks
  searching-begun = record {
    nodes = begun.nodes;
    origin = λ r e has. inl (begun.of_seed r e has);
    fits = λ r e has.
        let from : IsOfSeed h seeds r e = begun.of_seed r e has in
        subst (λ (c : Cost). IsOfWalks (r + 1) c) from.seed.cost (of_walks_more {m = 1} {n = r + 1} (omega arith) (of_walks-from_arcs from.seed.seed.cost (seed-in seeds are from.seed.among).arcs));
    short = begun.short;
  }

  pub climbing-begun : {limit : Option Cost} → IsClimbing h side seeds bound limit marks
  climbing-begun {limit} = search-begin label_cost begun.none at_starts (λ r e has. (begun.of_seed r e has).seed)
    where
      at_starts : (r : ℕ) (c : Cost) → IsSeedAt h seeds r c → CountsBelow bound limit c → IsAtMost label_cost (mark marks r) c
      at_starts r c is counts =
          let short : IsNoLonger is.seed.cost bound = subst (λ (d : Cost). IsNoLonger d bound) (sym is.cost) counts.short in
          let there = begun.seeded is.among.0 is.seed is.among.1 (get-from_among seeds is.among) short in
          subst (λ (d : Cost). IsAtMost label_cost (mark marks r) d) is.cost (subst (λ q. IsAtMost label_cost (mark marks q) is.seed.cost) is.rank there)

  -- the sides haven't met yet
  pub best-begun : {down : List (Mark Label)} → IsBestSoFar bound marks down None
  best-begun = best-none begun.none

-- Turns

abbrev pub one_if : Bool → ℕ
one_if true = 1
one_if false = 0

pub turned-count : (goes_on : Bool) (old new : List (Mark Label)) (limit best : Option Cost) → IsTurned goes_on old new limit best → settled_count new ≡ settled_count old + one_if goes_on
turned-count true old new limit best turned = turned
turned-count false old new limit best turned = ap settled_count turned.1 ∙ omega arith

pub not-turned : {goes_on : Bool} {old new : List (Mark Label)} {limit best : Option Cost} → goes_on ≡ false → IsTurned goes_on old new limit best → IsStopped old limit × (new ≡ old) × (best ≡ limit)
not-turned {goes_on = true} is turned = absurd (cc)
not-turned {goes_on = false} is turned = turned

-- neither side went on: both have stopped at the same best sum
pub both-stopped : {up new_up down new_down : List (Mark Label)} {first second third : Option Cost} → IsStopped up first × (new_up ≡ up) × (second ≡ first) → IsStopped down second × (new_down ≡ down) × (third ≡ second) → IsStopped new_up third × IsStopped new_down third
both-stopped {up} {down} {third} rose fell = (
  subst (λ (ms : List (Mark Label)). IsStopped ms third) (sym rose.1) (subst (λ (o : Option Cost). IsStopped up o) (sym (fell.2 ∙ rose.2)) rose.0),
  subst (λ (ms : List (Mark Label)). IsStopped ms third) (sym fell.1) (subst (λ (o : Option Cost). IsStopped down o) (sym fell.2) fell.0),
)

pub neither : {a b : Bool} → (a || b) ≡ false → (a ≡ false) × (b ≡ false)
neither {a = true} e = absurd (cc)
neither {a = false} e = (refl, e)

pub either-one : (a b : Bool) → (a || b) ≡ true → 1 ≤ one_if a + one_if b
either-one true b e = omega arith
either-one false true e = omega arith
either-one false false e = absurd (cc)
