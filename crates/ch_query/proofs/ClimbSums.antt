-- Sums along climbs, of which each goes on one that is listed before.
use Rattle.std.proofs.Common.{ℕ, ◌≡◌, ◌≢◌, ◌+◌, ◌*◌, ◌^◌, ◌<◌, ◌≤◌, List, length, get_or, set, slice_index, Option, Some, ap, sym, subst, ◌∙◌, inl, inr, arith}
use Rattle.std.proofs.lemmas.Bool.{cases_eq, cases_lt}
use Rattle.std.proofs.lemmas.List.{get_or_default, get_or-set_same, get_or-set_other}
use Rattle.ch_cost.specs.declared.cost.Cost.{Cost}
use Rattle.ch_cost.specs.Cost.{◌⊕◌, length_of}
use Rattle.ch_cost.specs.Cost.Laws.{length_of-sum}
use Rattle.ch_graph.specs.declared.mark.Mark.{Mark}
use Rattle.ch_graph.specs.declared.mark.Mark.TheVariants.{Settled}
use Rattle.ch_graph.specs.Hierarchy.{Hierarchy, IsWellMade, rank_of}
use Rattle.ch_graph.specs.Marks.{mark, label_in, HasLabel}
use Rattle.ch_graph.specs.Marks.Laws.{label_settled}
use Rattle.ch_query.specs.declared.climb.Climbed.{Climbed}
use Rattle.ch_query.specs.declared.label.Label.{Label}
use Rattle.ch_query.specs.declared.seed.Seed.{Seed}
use Rattle.ch_query.specs.declared.side.Side.{Side}
use Rattle.ch_query.specs.declared.side.Side.TheVariants.{Rise}
use Rattle.ch_query.specs.Climb.{cost_at, LeadsUp}
use Rattle.ch_query.specs.Climbing.{AreListed}
use Rattle.ch_query.specs.Places.{link_at}
use Rattle.ch_query.specs.Searching.{IsSearching}
use Rattle.ch_query.specs.Sums.{AreSumsOf, HaveNumbers, IsClimbSum, IsFootSummed, IsSumAt, IsSummedWay, IsSummedWay.begin, IsSummedWay.over}
use Rattle.ch_query.proofs.ClimbLinks.{came_first, came_from, one_link}

same_label : {o : Option Label} {e d : Label} → o ≡ Some e → o ≡ Some d → e ≡ d
same_label is other = cc

module _ {h : Hierarchy} (made : IsWellMade h) {numbers : List ℕ} {seeds : List Seed} {bound : Cost} {marks : List (Mark Label)} (searching : IsSearching h Rise seeds bound marks) {r : ℕ} where
  -- where a climb begins
  pub sum-none : ((e : Label) → HasLabel (mark marks r) e → e.foot ≡ r) → IsClimbSum h numbers seeds marks r 0
  sum-none first e label =
      let own = (came_first searching label (first e label)).seed in (
        subst (λ (c : Cost). IsSummedWay h numbers seeds r (length_of c) 0) own.cost
            (subst (λ q. IsSummedWay h numbers seeds q (length_of own.seed.cost) 0) own.rank (begin own.seed own.among)),
        omega arith,
      )

  -- and where it goes on another
  module _ {sums : List ℕ} {foot k : ℕ} {e : Label} (label : HasLabel (mark marks r) e) (from : e.foot ≡ foot) (other : foot ≢ r) (leads : LeadsUp h Rise foot r k) (feet : IsFootSummed h numbers seeds marks sums r) where
    pub foot-sum : (n : ℕ) × IsSumAt h numbers seeds sums foot n
    foot-sum =
        let apart : e.foot ≢ r = λ same. other (sym from ∙ same) in
        let comes = came_from searching label apart in
        (length_of comes.foot.cost, subst (λ q. IsSumAt h numbers seeds sums q (length_of comes.foot.cost)) from (feet e comes.foot label apart comes.settled))

    pub sum-over : slice_index numbers k ≤ 2 ^ 36 → IsClimbSum h numbers seeds marks r (slice_index sums foot + slice_index numbers k)
    sum-over small d label_d =
        let apart : e.foot ≢ r = λ same. other (sym from ∙ same) in
        let comes = came_from searching label apart in
        let f : Label = comes.foot in
        let before : IsSumAt h numbers seeds sums foot (length_of f.cost) = subst (λ q. IsSumAt h numbers seeds sums q (length_of f.cost)) from (feet e f label apart comes.settled) in
        let link : comes.over.goes.link ≡ k = one_link made (subst (λ q. LeadsUp h Rise q r comes.over.goes.link) from comes.over.goes.leads) leads in
        let sum : d.cost ≡ f.cost ⊕ cost_at h k = ap (λ (l : Label). l.cost) (same_label label_d label) ∙ (sym comes.over.sum ∙ ap (λ (a : Cost). f.cost ⊕ a) (sym comes.over.goes.cost ∙ ap (cost_at h) link)) in
        let long : length_of f.cost + length_of (cost_at h k) ≡ length_of d.cost = sym (length_of-sum f.cost (cost_at h k)) ∙ ap length_of (sym sum) in
        let way : IsSummedWay h numbers seeds (rank_of h (link_at h k).to) (length_of f.cost + length_of (cost_at h k)) (slice_index sums foot + slice_index numbers k) = over k leads.climbs.within leads.foot before.way in
        let up : foot < r = omega (arith, leads.foot, leads.head, leads.climbs.rises) in (
          subst (λ n. IsSummedWay h numbers seeds r n (slice_index sums foot + slice_index numbers k)) long
              (subst (λ q. IsSummedWay h numbers seeds q (length_of f.cost + length_of (cost_at h k)) (slice_index sums foot + slice_index numbers k)) leads.head way),
          omega (arith, before.small, small, up),
        )

-- the first n climbs have their sums
pub record AreSummedTo (h : Hierarchy) (numbers : List ℕ) (seeds : List Seed) (marks : List (Mark Label)) (climbs : List Climbed) (n : ℕ) (sums : List ℕ) : Type 0 where
  pub done : (j : ℕ) (d : Climbed) (e : Label) → j < n → mark marks (get_or climbs j d).rank ≡ Settled e → IsSumAt h numbers seeds sums (get_or climbs j d).rank (length_of e.cost)

pub summed-none : {h : Hierarchy} {numbers : List ℕ} {seeds : List Seed} {marks : List (Mark Label)} {climbs : List Climbed} {sums : List ℕ} → AreSummedTo h numbers seeds marks climbs 0 sums
summed-none = record { done = λ j d e low. absurd (omega (arith, low)) }

module _ {h : Hierarchy} {numbers : List ℕ} {seeds : List Seed} {marks : List (Mark Label)} {climbs : List Climbed} (listed : AreListed marks climbs) where
  module _ {n : ℕ} {sums : List ℕ} (c : Climbed) (n_in : n < length climbs) (at : (d : Climbed) → get_or climbs n d ≡ c) (was : AreSummedTo h numbers seeds marks climbs n sums) where
    -- the climb that the next one goes on is one of them
    pub feet-summed : IsFootSummed h numbers seeds marks sums c.rank
    feet-summed e f label other settled =
        let one = listed.each n c n_in in
        let closed : mark marks c.rank ≡ Settled one.0 = subst (λ (b : Climbed). mark marks b.rank ≡ Settled one.0) (at c) one.1 in
        let same : one.0 ≡ e = same_label (label_settled (mark marks c.rank) one.0 closed) label in
        let here : mark marks (get_or climbs n c).rank ≡ Settled e = subst (λ (l : Label). mark marks (get_or climbs n c).rank ≡ Settled l) same one.1 in
        let foot = listed.before n c e n_in here (subst (λ (b : Climbed). e.foot ≢ b.rank) (sym (at c)) other) in
        let rank : (get_or climbs foot.0 c).rank ≡ e.foot = foot.2 c in
        subst (λ q. IsSumAt h numbers seeds sums q (length_of f.cost)) rank (was.done foot.0 c f foot.1 (subst (λ q. mark marks q ≡ Settled f) (sym rank) settled))

    -- with it they are one more
    pub summed-more : (m : ℕ) → c.rank < length sums → IsClimbSum h numbers seeds marks c.rank m → AreSummedTo h numbers seeds marks climbs (n + 1) (set sums c.rank m)
    summed-more m rank_in sum = record {
      done = λ j (d : Climbed) (e : Label) low closed. elim (cases_eq (get_or climbs j d).rank c.rank) [
        | inl here ↦
            let own = sum e (label_settled (mark marks c.rank) e (subst (λ q. mark marks q ≡ Settled e) here closed)) in
            let read : slice_index (set sums c.rank m) c.rank ≡ m = get_or-set_same sums c.rank m 0 rank_in in
            let all : IsSumAt h numbers seeds (set sums c.rank m) c.rank (length_of e.cost) = record {
              way = subst (IsSummedWay h numbers seeds c.rank (length_of e.cost)) (sym read) own.0;
              small = omega (arith, read, own.1);
            } in
            subst (λ q. IsSumAt h numbers seeds (set sums c.rank m) q (length_of e.cost)) (sym here) all
        | inr other ↦
            let earlier : j < n = elim (cases_eq j n) [
              | inl last ↦ absurd (other (ap (λ (b : Climbed). b.rank) (ap (λ i. get_or climbs i d) last ∙ at d)))
              | inr before ↦ omega (arith, low, before)
            ] in
            let old = was.done j d e earlier closed in
            let read : slice_index (set sums c.rank m) (get_or climbs j d).rank ≡ slice_index sums (get_or climbs j d).rank = get_or-set_other sums c.rank (get_or climbs j d).rank m 0 other in
            record {
              way = subst (IsSummedWay h numbers seeds (get_or climbs j d).rank (length_of e.cost)) (sym read) old.way;
              small = omega (arith, read, old.small);
            }
      ];
    }

  -- all are
  pub summed-all : {n : ℕ} {sums : List ℕ} → length climbs ≤ n → AreSummedTo h numbers seeds marks climbs n sums → AreSumsOf h numbers seeds sums climbs
  summed-all {sums = sums} whole is k d low =
      let one = listed.each k d low in
      subst (λ n. IsSumAt h numbers seeds sums (get_or climbs k d).rank n) (sym one.2) (is.done k d one.0 (omega (arith, low, whole)) one.1)
