-- The best meeting so far of two sides, and the best where they have stopped.
use Rattle.std.proofs.Common.{ℕ, ◌≡◌, ◌⊎◌, List, Option, Some, None, ap, refl, sym, subst, ◌∙◌, inl, inr}
use Rattle.ch_cost.specs.declared.cost.Cost.{Cost}
use Rattle.ch_cost.specs.Cost.{◌⊕◌, ◌≼◌, IsNoLonger}
use Rattle.ch_cost.specs.Cost.Laws.{sum_comm, at_most_refl, at_most_trans, at_most_antisym, at_most-from_below, at_most_sum_left, at_most_sum_right, sum_at_most, no_longer_at_most}
use Rattle.ch_graph.specs.declared.mark.Mark.{Mark}
use Rattle.ch_graph.specs.declared.mark.Mark.TheVariants.{Settled}
use Rattle.ch_graph.specs.Marks.{mark, settled, IsAtMost}
use Rattle.ch_graph.specs.Marks.Laws.{label_cases, at_most-from_label}
use Rattle.ch_query.specs.declared.label.Label.{Label}
use Rattle.ch_query.specs.declared.meeting.Meeting.{Meeting}
use Rattle.ch_query.specs.Labels.{AreShort, Meets, IsShortLimit}
use Rattle.ch_query.specs.Marks.{costs_of, settled_in, settled_costs, IsBelow, HasLimit, IsNoMore, IsStopped, label_cost}
use Rattle.ch_query.specs.Meeting.{IsShortSum, IsBestMeeting, IsMet, IsBestSoFar, IsLooked, cost_of}
use Rattle.ch_query.proofs.MarkOrder.{has_label, cost_is, from_cost, settled_is, limit-given}

same_given : {o : Option Cost} {c d : Cost} → o ≡ Some c → o ≡ Some d → c ≡ d
same_given is other = cc

-- two labels have one sum
one_sum : {bound : Cost} {up down : Option Cost} {c d : Cost} → AreShort bound up down c → AreShort bound up down d → c ≡ d
one_sum first second =
    let rise : first.rise ≡ second.rise = same_given first.risen second.risen in
    let fall : first.fall ≡ second.fall = same_given first.fallen second.fallen in
    first.sum ∙ ap (λ (a : Cost). a ⊕ first.fall) rise ∙ ap (λ (b : Cost). second.rise ⊕ b) fall ∙ sym second.sum

-- either side may be named first
meets-flip : {bound : Cost} (up down : ℕ → Option Cost) {r : ℕ} {c : Cost} → Meets bound up down r c → Meets bound down up r c
meets-flip up down m = record { rise = m.fall; fall = m.rise; risen = m.fallen; fallen = m.risen; sum = m.sum ∙ sum_comm m.rise m.fall; short = m.short }

met-flip : {bound : Cost} {up down : ℕ → Option Cost} {m : Meeting} → IsMet bound up down m → IsMet bound down up m
met-flip {bound} {up} {down} {m} met = record { cost = met.cost; meets = meets-flip up down met.meets; at_most = met.at_most; short = met.short }

pub best-flip : {bound : Cost} {up down : List (Mark Label)} {best : Option Meeting} → IsBestSoFar bound up down best → IsBestSoFar bound down up best
best-flip {bound} {up} {down} is = record {
  met = λ m e. met-flip (is.met m e);
  least = λ r c m. is.least r c (meets-flip (settled_costs down) (settled_costs up) m);
}

-- where one side has settled no node, there is no meeting yet
pub best-none : {bound : Cost} {up down : List (Mark Label)} → ((r : ℕ) (e : Label) → mark up r ≡ Settled e → ⊥) → IsBestSoFar bound up down None
best-none never = record {
  met = λ m e. absurd (no_meeting m e);
  least = λ r c m. let e = settled_is m.risen in absurd (never r e.0 e.1);
}
  where
    no_meeting : (m : Meeting) → None ≡ Some m → ⊥
    no_meeting m e = cc

pub no_more-refl : (limit : Option Cost) → IsNoMore limit limit
no_more-refl limit a is = (a, is, at_most_refl a)

-- a lesser limit is at most what the greater one is
pub limit-less : {less more : Option Cost} {c : Cost} → IsNoMore less more → HasLimit more c → HasLimit less c
limit-less no_more has = let b = no_more has.0 has.1 in (b.0, b.1, at_most_trans b.2 has.2)

-- One look at a node, by whether the two labels make a short sum and whether that is below the best so far

pub looked-skips : {bound : Cost} {r : ℕ} {c : Cost} {other : Option Cost} {best : Option Meeting} → IsShortSum bound (Some c) other None → IsLooked bound r c other best best
looked-skips {best} never = record {
  less = no_more-refl (cost_of best);
  seen = λ d short. absurd (never d short);
  from = λ m e. inl e;
}

pub looked-less : {bound : Cost} {r : ℕ} {c : Cost} {other : Option Cost} {best : Option Meeting} {sum : Cost} → AreShort bound (Some c) other sum → IsBelow sum (cost_of best) → IsLooked bound r c other best (Some (record { rank = r; cost = sum }))
looked-less {bound} {r} {c} {other} {sum} short below = record {
  less = λ a is. (sum, refl, at_most-from_below (subst (λ (o : Option Cost). IsBelow sum o) is below));
  seen = λ d other_sum. (sum, refl, subst (λ (e : Cost). sum ≼ e) (one_sum short other_sum) (at_most_refl sum));
  from = λ m e.
      let same : record { rank = r; cost = sum } ≡ m = given m e in
      inr (ap (λ (n : Meeting). n.rank) (sym same), subst (λ (n : Meeting). AreShort bound (Some c) other n.cost) same short);
}
  where
    given : (m : Meeting) → Some (record { rank = r; cost = sum }) ≡ Some m → record { rank = r; cost = sum } ≡ m
    given m e = cc

pub looked-stays : {bound : Cost} {r : ℕ} {c : Cost} {other : Option Cost} {best : Option Meeting} {sum : Cost} → AreShort bound (Some c) other sum → (IsBelow sum (cost_of best) → ⊥) → IsLooked bound r c other best best
looked-stays {best} short never = record {
  less = no_more-refl (cost_of best);
  seen = λ d other_sum. subst (λ (e : Cost). HasLimit (cost_of best) e) (one_sum short other_sum) (limit-given never);
  from = λ m e. inl e;
}

-- where labels get less, a meeting stays
pub met-kept : {bound : Cost} (old new : List (Mark Label)) {there : ℕ → Option Cost} {m : Meeting} → ((q : ℕ) (c : Cost) → IsAtMost label_cost (mark old q) c → IsAtMost label_cost (mark new q) c) → IsMet bound (costs_of old) there m → IsMet bound (costs_of new) there m
met-kept {bound} old new {there} {m} kept met =
    let rise : Cost = met.meets.rise in
    let fall : Cost = met.meets.fall in
    let was = from_cost met.meets.risen in
    let has = has_label (mark new m.rank) (kept m.rank rise (at_most-from_label label_cost (mark old m.rank) was.0 rise was.1 (subst (λ (x : Cost). was.0.cost ≼ x) was.2 (at_most_refl was.0.cost)))) in
    let sum : has.0.cost ⊕ fall ≼ met.cost = subst (λ (x : Cost). has.0.cost ⊕ fall ≼ x) (sym met.meets.sum) (sum_at_most has.2 (at_most_refl fall)) in
    record {
      cost = has.0.cost ⊕ fall;
      meets = record { rise = has.0.cost; fall = fall; risen = cost_is new m.rank has.1; fallen = met.meets.fallen; sum = refl; short = no_longer_at_most sum met.meets.short };
      at_most = at_most_trans sum met.at_most;
      short = met.short;
    }

-- a sum of two labels is a meeting
pub met-from : {bound : Cost} {up down : ℕ → Option Cost} {m : Meeting} → Meets bound up down m.rank m.cost → IsMet bound up down m
met-from {m} meets = record { cost = m.cost; meets = meets; at_most = at_most_refl m.cost; short = meets.short }

-- Both sides have stopped: a node that one of them didn't settle has no lesser sum

module _ (bound : Cost) (up down : List (Mark Label)) where
  settled_or_stopped : (marks : List (Mark Label)) {limit : Option Cost} → IsStopped marks limit → (r : ℕ) {a : Cost} → costs_of marks r ≡ Some a → (settled_costs marks r ≡ Some a) ⊎ HasLimit limit a
  settled_or_stopped marks {limit} stopped r label =
      let l = from_cost label in
      elim (label_cases (mark marks r) l.0 l.1) [
        | inl opens ↦ inr (subst (λ (c : Cost). HasLimit limit c) l.2 (stopped r l.0 opens))
        | inr settled ↦ inl (ap settled_in settled ∙ ap (λ (c : Cost). Some c) l.2)
      ]

  limit-more : {limit : Option Cost} {c d : Cost} → c ≼ d → HasLimit limit c → HasLimit limit d
  limit-more less has = (has.0, has.1, at_most_trans has.2 less)

  limit-of_meeting : {best : Option Meeting} → IsBestSoFar bound up down best → IsStopped up (cost_of best) → IsStopped down (cost_of best) → (r : ℕ) {c : Cost} → Meets bound (costs_of up) (costs_of down) r c → HasLimit (cost_of best) c
  limit-of_meeting is up_stopped down_stopped r {c} m = elim (settled_or_stopped up up_stopped r m.risen) [
    | inl risen ↦ elim (settled_or_stopped down down_stopped r m.fallen) [
      | inl fallen ↦ is.least r c (record { rise = m.rise; fall = m.fall; risen = risen; fallen = fallen; sum = m.sum; short = m.short })
      | inr limit ↦ limit-more (subst (λ (d : Cost). m.fall ≼ d) (sym m.sum) (at_most_sum_right m.rise m.fall)) limit
    ]
    | inr limit ↦ limit-more (subst (λ (d : Cost). m.rise ≼ d) (sym m.sum) (at_most_sum_left m.rise m.fall)) limit
  ]

  no_limit : {a : Cost} → None ≡ Some a → ⊥
  no_limit e = cc

  same_limit : {a b : Cost} → Some a ≡ Some b → b ≡ a
  same_limit e = cc

  pub best-stopped : {best : Option Meeting} → IsBestSoFar bound up down best → IsStopped up (cost_of best) → IsStopped down (cost_of best) → IsBestMeeting bound (costs_of up) (costs_of down) best
  best-stopped {best = None} is up_stopped down_stopped = λ r d m.
      let limit = limit-of_meeting is up_stopped down_stopped r m in
      no_limit limit.1
  best-stopped {best = Some m} is up_stopped down_stopped =
      let met : IsMet bound (costs_of up) (costs_of down) m = is.met m refl in
      let back : m.cost ≼ met.cost = least m.rank met.cost met.meets in
      record {
        meets = subst (λ (c : Cost). Meets bound (costs_of up) (costs_of down) m.rank c) (at_most_antisym met.at_most back) met.meets;
        least = least;
      }
    where
      least : (r : ℕ) (d : Cost) → Meets bound (costs_of up) (costs_of down) r d → m.cost ≼ d
      least r d meets =
          let limit = limit-of_meeting is up_stopped down_stopped r meets in
          subst (λ (c : Cost). c ≼ d) (same_limit limit.1) limit.2

-- what is found is within the bound
pub looked-short : {bound : Cost} {up down : List (Mark Label)} {r : ℕ} {c : Cost} {other : Option Cost} {best found : Option Meeting} → IsBestSoFar bound up down best → IsLooked bound r c other best found → IsShortLimit bound (cost_of found)
looked-short {found = None} was looked = λ b e. absurd (none_some b e)
  where
    none_some : (b : Cost) → None ≡ Some b → ⊥
    none_some b e = cc
looked-short {bound} {found = Some m} was looked = λ b e. subst (λ (d : Cost). IsNoLonger d bound) (some_some m.cost b e) (elim (looked.from m refl) [
  | inl before ↦ (was.met m before).short
  | inr here ↦ here.1.short
])
  where
    some_some : (a b : Cost) → Some a ≡ Some b → a ≡ b
    some_some a b e = cc
