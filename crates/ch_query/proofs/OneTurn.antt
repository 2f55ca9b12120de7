-- One side of a query: a turn.
use Rattle.std.proofs.Common.{ℕ, ◌≡◌, ◌+◌, ◌-◌, ◌<◌, ◌≤◌, ◌^◌, ◌⊎◌, List, length, set, Option, Some, None, IfSome, ap, sym, subst, ◌∙◌, inl, inr, arith}
use Rattle.std.proofs.lemmas.List.{length-set}
use Rattle.ch_cost.specs.declared.cost.Cost.{Cost}
use Rattle.ch_cost.specs.Cost.{IsNoLonger, IsInLimit, IsSummable, IsOfWalks}
use Rattle.ch_cost.specs.Cost.Laws.{of_walks_one, of_walks_sum, of_walks_more, summable-from_in_limit, summable-from_walks, cost_of_arcs_in_limit, in_limit-from_within, within_trans}
use Rattle.ch_graph.specs.declared.mark.Mark.{Mark}
use Rattle.ch_graph.specs.declared.mark.Mark.TheVariants.{Settled}
use Rattle.ch_graph.specs.Hierarchy.{Hierarchy, IsWellMade, rank_of}
use Rattle.ch_graph.specs.Marks.{mark, HasLabel, IsPut, settled_count}
use Rattle.ch_graph.specs.Searching.{LeadsTo, IsSearch, IsTurn}
use Rattle.ch_graph.specs.Marks.Laws.{put-set, open-in, label-in, label_open, count-settle}
use Rattle.ch_graph.specs.Searching.Laws.{settle-latest, turn-here, turn-stays, turn-settled, turn-kept, turn-label, search-fewer, search-turn}
use Rattle.ch_query.specs.declared.label.Label.{Label}
use Rattle.ch_query.specs.declared.seed.Seed.{Seed}
use Rattle.ch_query.specs.declared.side.Side.{Side}
use Rattle.ch_query.specs.declared.meeting.Meeting.{Meeting}
use Rattle.ch_query.specs.Labels.{AreShort, Meets, CountsBelow}
use Rattle.ch_query.specs.Seeds.{IsSeedAt}
use Rattle.ch_query.specs.Climb.{cost_at}
use Rattle.ch_query.specs.Climbing.{IsClimbedOn}
use Rattle.ch_query.specs.Marks.{label_cost, costs_of, settled_in, IsNoLater, IsLatest, IsLeastOpen, IsNoMore, FitAll}
use Rattle.ch_query.specs.Searching.{LinkArc, IsClimbing, IsFrom, IsSearching, ClimbsTo, IsOpenedOver, ArePassed}
use Rattle.ch_query.specs.Meeting.{IsBestSoFar, IsLooked}
use Rattle.ch_query.proofs.LinkEnds.{link-made}
use Rattle.ch_query.proofs.NodeOfRank.{rank_below}
use Rattle.ch_query.proofs.FollowedLinks.{counts-more}
use Rattle.ch_query.proofs.BestMeetings.{limit-less, met-kept, met-from}
use Rattle.ch_query.proofs.MarkOrder.{from_cost, settled_is, settled-cost, cost_is, arc-rises, by_lengths}

module _ {h : Hierarchy} (made : IsWellMade h) where
  -- the bound of a well made hierarchy is small enough to be a summand
  pub bound_in_limit : IsInLimit h.bound
  bound_in_limit = in_limit-from_within made.bound (cost_of_arcs_in_limit _ _ (omega (arith, made.few_nodes)) (omega arith))

  -- and so is a link's cost
  pub link_summable : {k : ℕ} → k < length h.links → IsSummable (cost_at h k)
  link_summable within = summable-from_in_limit (in_limit-from_within (within_trans (link-made made within).within made.bound) (cost_of_arcs_in_limit _ _ (omega (arith, made.few_nodes)) (omega arith)))

  -- an arc's cost is of one walk
  arc_of_walks : {side : Side} {q r : ℕ} {c : Cost} → LinkArc h side q r c → IsOfWalks 1 c
  arc_of_walks arc = subst (IsOfWalks 1) arc.cost (of_walks_one (length h.ranks - 1) (2 ^ 32 - 1) (omega (arith, made.few_nodes)) (omega arith) made.bound (link-made made arc.leads.climbs.within).within)

  pub rank_few : {x : ℕ} → x < length h.ranks → rank_of h x + 1 ≤ 2 ^ 25
  rank_few low = omega (arith, rank_below made low, made.few_nodes)

  -- a climb to the foot of an arc goes on to its head
  climb_of_walks : {side : Side} {q r : ℕ} {c d : Cost} → LeadsTo (LinkArc h side) q c r d → IsOfWalks (q + 1) c → IsOfWalks (r + 1) d
  climb_of_walks {r = r} leads fits = subst (IsOfWalks (r + 1)) leads.sum (of_walks_more (omega (arith, arc-rises leads.goes)) (of_walks_sum fits (arc_of_walks leads.goes)))

  module _ {side : Side} {seeds : List Seed} {bound : Cost} {marks : List (Mark Label)} (summable : IsSummable bound) (is : IsSearching h side seeds bound marks) where
    pub labels_fit : FitAll marks
    labels_fit r e label = summable-from_walks (omega (arith, label-in marks r e label, is.nodes, made.few_nodes)) (is.fits r e label) (is.short r e label) summable

-- the cost of a label, if there is one, is small enough to be a summand
pub fits-cost : (marks : List (Mark Label)) → FitAll marks → (r : ℕ) {o : Option Cost} → o ≡ costs_of marks r → IfSome o (λ (d : Cost). IsSummable d)
fits-cost marks fit r {o = None} is = tt
fits-cost marks fit r {o = Some d} is =
    let own = from_cost (sym is) in
    subst (λ (c : Cost). IsSummable c) own.2 (fit r own.0 own.1)

-- a lesser limit lets fewer sums count
pub climbing-less : {h : Hierarchy} {bound : Cost} {side : Side} {seeds : List Seed} {limit found : Option Cost} {marks : ℕ → Mark Label}
    → IsNoMore found limit → IsSearch label_cost IsNoLater (LinkArc h side) (CountsBelow bound limit) (IsSeedAt h seeds) marks
    → IsSearch label_cost IsNoLater (LinkArc h side) (CountsBelow bound found) (IsSeedAt h seeds) marks
climbing-less less climbing = search-fewer label_cost (λ c counts. counts-more less counts) climbing

-- A turn: the node of rank r is settled, and then its links are followed

module _ {h : Hierarchy} {side : Side} {seeds : List Seed} {bound : Cost} {old : List (Mark Label)} {r : ℕ} {e : Label} (is : IsSearching h side seeds bound old) (next : IsLeastOpen old r e) where
  abbrev mid : List (Mark Label)
  mid = set old r (Settled e)

  settles : IsPut (mark old) r (Settled e) (mark mid)
  settles = put-set old r (Settled e) (open-in old r e next.opens)

  pub turn-latest : {limit : Option Cost} → IsClimbing h side seeds bound limit old → IsLatest (set old r (Settled e)) e.cost r
  turn-latest climbing = settle-latest label_cost IsNoLater next settles (by_lengths h side).same (climbing.ordered r e next.opens)

  pub turn-fits : IsOfWalks (r + 1) e.cost
  turn-fits = is.fits r e (label_open (mark old r) e next.opens)

  pub turn-short : IsNoLonger e.cost bound
  turn-short = is.short r e (label_open (mark old r) e next.opens)

  module _ {new : List (Mark Label)} (opened : IsOpenedOver h side bound r e.cost (set old r (Settled e)) new) where
    turn : IsTurn label_cost IsNoLater (ClimbsTo h side bound r e.cost) r e (mark old) (mark new)
    turn = record { mid = mark mid; next = next; put = settles; opened = opened.is }

    pub climbing-turn : {limit found : Option Cost} → IsNoMore found limit → IsClimbing h side seeds bound limit old → ArePassed h side bound r e.cost found new → IsClimbing h side seeds bound found new
    climbing-turn less climbing passed = search-turn label_cost (by_lengths h side) (climbing-less less climbing) turn (λ q d climbs. climbs.over) passed

    from-more : {q : ℕ} {d : Label} → IsFrom h side seeds old q d → IsFrom h side seeds new q d
    from-more {d} from = elim from [
      | inl first ↦ inl first
      | inr comes ↦ inr (record { foot = comes.foot; settled = turn-stays label_cost IsNoLater (ClimbsTo h side bound r e.cost) turn d.foot comes.foot comes.settled; over = comes.over })
    ]

    climbed-from : {q : ℕ} {d : Label} → ClimbsTo h side bound r e.cost q d → IsFrom h side seeds new q d
    climbed-from {q} {d} climbs = inr (record {
      foot = e;
      settled = subst (λ p. mark new p ≡ Settled e) (sym climbs.foot) (turn-here label_cost IsNoLater (ClimbsTo h side bound r e.cost) turn);
      over = subst (λ p. LeadsTo (LinkArc h side) p e.cost q d.cost) (sym climbs.foot) climbs.over;
    })

    pub searching-turn : IsWellMade h → IsSearching h side seeds bound new
    searching-turn made = record {
      nodes = opened.nodes ∙ (length-set old r (Settled e) ∙ is.nodes);
      origin = λ q d has. elim (came q d has) [
        | inl there ↦ from-more (is.origin q d there)
        | inr climbs ↦ climbed-from climbs
      ];
      fits = λ q d has. elim (came q d has) [
        | inl there ↦ is.fits q d there
        | inr climbs ↦ climb_of_walks made climbs.over turn-fits
      ];
      short = λ q d has. elim (came q d has) [
        | inl there ↦ is.short q d there
        | inr climbs ↦ climbs.short
      ];
    }
      where
        came : (q : ℕ) (d : Label) → HasLabel (mark new q) d → HasLabel (mark old q) d ⊎ ClimbsTo h side bound r e.cost q d
        came = turn-label label_cost IsNoLater (ClimbsTo h side bound r e.cost) turn

    pub turn-count : settled_count new ≡ settled_count old + 1
    turn-count = opened.count ∙ count-settle old r e e next.opens

    -- it settled that node and no other
    pub turn-climbed_on : IsClimbedOn r e old new
    turn-climbed_on = record {
      here = turn-here label_cost IsNoLater (ClimbsTo h side bound r e.cost) turn;
      stays = λ q d was. turn-stays label_cost IsNoLater (ClimbsTo h side bound r e.cost) turn q d was;
      settled = λ q d closed. elim (turn-settled label_cost IsNoLater (ClimbsTo h side bound r e.cost) turn q d closed) [
        | inl this ↦ inl this.0
        | inr before ↦ inr before
      ];
      count = turn-count;
    }

    -- the best meeting so far, once the other side was looked at there
    pub best-turn : {there : List (Mark Label)} {best found : Option Meeting} → IsBestSoFar bound old there best → IsLooked bound r e.cost (costs_of there r) best found → IsBestSoFar bound new there found
    best-turn {there} was looked = record {
      met = λ m is. met-kept old new (turn-kept label_cost IsNoLater (ClimbsTo h side bound r e.cost) turn) (elim (looked.from m is) [
        | inl before ↦ was.met m before
        | inr here ↦ met-from (meets_here m here.0 here.1)
      ]);
      least = λ q c m.
          let d = settled_is m.risen in
          let cost : Some d.0.cost ≡ Some m.rise = ap (λ (a : Cost). Some a) d.2 in
          elim (turn-settled label_cost IsNoLater (ClimbsTo h side bound r e.cost) turn q d.0 d.1) [
            | inl this ↦ looked.seen c (record {
              rise = m.rise;
              fall = m.fall;
              risen = ap (λ (l : Label). Some l.cost) this.1 ∙ cost;
              fallen = subst (λ p. costs_of there p ≡ Some m.fall) this.0 (settled-cost there q m.fallen);
              sum = m.sum;
              short = m.short;
            })
            | inr before ↦ limit-less looked.less (was.least q c (record {
              rise = m.rise;
              fall = m.fall;
              risen = ap settled_in before ∙ cost;
              fallen = m.fallen;
              sum = m.sum;
              short = m.short;
            }))
          ];
    }
      where
        meets_here : (m : Meeting) → m.rank ≡ r → AreShort bound (Some e.cost) (costs_of there r) m.cost → Meets bound (costs_of old) (costs_of there) m.rank m.cost
        meets_here m at short = subst (λ p. Meets bound (costs_of old) (costs_of there) p m.cost) (sym at) (record {
          rise = short.rise;
          fall = short.fall;
          risen = cost_is old r (label_open _ e next.opens) ∙ short.risen;
          fallen = short.fallen;
          sum = short.sum;
          short = short.short;
        })
