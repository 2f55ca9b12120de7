-- The links that climb from a node, followed one by one.
use Rattle.std.proofs.Common.{ℕ, ◌≡◌, ◌↔◌, ◌+◌, ◌<◌, ◌≤◌, List, length, slice_index, set, Option, Some, None, ap, refl, sym, subst, ◌∙◌, inl, inr, arith}
use Rattle.std.proofs.lemmas.Bool.{cases_lt}
use Rattle.std.proofs.lemmas.List.{length-set}
use Rattle.ch_cost.specs.declared.cost.Cost.{Cost}
use Rattle.ch_cost.specs.Cost.{◌⊕◌, ◌≺◌, IsNoLonger}
use Rattle.ch_cost.specs.Cost.Laws.{at_most_refl, at_most-from_below, below_trans_at_most, no_longer_at_most}
use Rattle.ch_graph.specs.declared.mark.Mark.{Mark}
use Rattle.ch_graph.specs.declared.mark.Mark.TheVariants.{Open}
use Rattle.ch_graph.specs.Hierarchy.{Hierarchy, IsWellMade, rank_of}
use Rattle.ch_graph.specs.Marks.{mark, IsAtMost, Improves}
use Rattle.ch_graph.specs.Searching.{LeadsTo}
use Rattle.ch_graph.specs.Marks.Laws.{put-set, label_open, count-open, improves-unsettled, not_improves-at_most, at_most-from_label}
use Rattle.ch_graph.specs.Searching.Laws.{opened-none}
use Rattle.ch_graph.specs.Searching.Laws as searching
use Rattle.ch_query.specs.declared.label.Label.{Label}
use Rattle.ch_query.specs.declared.side.Side.{Side}
use Rattle.ch_query.specs.declared.upward.UpwardStep.{UpwardStep}
use Rattle.ch_query.specs.Labels.{CountsBelow}
use Rattle.ch_query.specs.Climb.{foot_rank, head_rank, cost_at, Climbs, ClimbsFrom}
use Rattle.ch_query.specs.Upward.{IsLaidOut}
use Rattle.ch_query.specs.Marks.{label_cost, IsNoMore, IsLatest, IsSettledAtMost}
use Rattle.ch_query.specs.Searching.{LinkArc, IsStepAt, IsFollowed, ClimbsTo, IsOpenedOver, ArePassed}
use Rattle.ch_query.proofs.LinkEnds.{foot_in}
use Rattle.ch_query.proofs.NodeOfRank.{same_node, rank_taken}
use Rattle.ch_query.proofs.LaidLinks.{links_are, step_at, as_many}
use Rattle.ch_query.proofs.MarkOrder.{by_lengths}

-- no link was followed yet
pub opened-start : {h : Hierarchy} {side : Side} {bound : Cost} {r : ℕ} {c : Cost} {marks : List (Mark Label)} → IsOpenedOver h side bound r c marks marks
opened-start {h} {side} {bound} {r} {c} {marks} = record { nodes = refl; count = refl; is = opened-none label_cost (ClimbsTo h side bound r c) (mark marks) }

pub opened-more : {h : Hierarchy} {side : Side} {bound : Cost} {r : ℕ} {c : Cost} {old mid new : List (Mark Label)} → IsOpenedOver h side bound r c old mid → IsOpenedOver h side bound r c mid new → IsOpenedOver h side bound r c old new
opened-more {h} {side} {bound} {r} {c} first second = record {
  nodes = second.nodes ∙ first.nodes;
  count = second.count ∙ first.count;
  is = searching.opened-more label_cost (ClimbsTo h side bound r c) first.is second.is;
}

-- the node of rank q is opened with the label e, to which a link leads
pub opened-one : {h : Hierarchy} {side : Side} {bound : Cost} {r : ℕ} {c : Cost} {marks : List (Mark Label)} {q : ℕ} {e : Label} → q < length marks → Improves label_cost e.cost (mark marks q) → ClimbsTo h side bound r c q e → IsOpenedOver h side bound r c marks (set marks q (Open e))
opened-one {h} {side} {bound} {r} {c} {marks} {q} {e} within improves climbs = record {
  nodes = length-set marks q (Open e);
  count = count-open marks q e within (improves-unsettled label_cost (mark marks q) e.cost improves);
  is = searching.opened-one label_cost (ClimbsTo h side bound r c) q e climbs improves (put-set marks q (Open e) within);
}

-- the step at a place leads on from its foot
pub leads-step : {h : Hierarchy} {side : Side} {links : List ℕ} {steps : List UpwardStep} {place r : ℕ} {c : Cost} → IsStepAt h side links steps place
    → foot_rank h side (slice_index links place) ≡ r → {head : ℕ} {sum : Cost} → head ≡ head_rank h side (slice_index links place)
    → sum ≡ c ⊕ cost_at h (slice_index links place) → LeadsTo (LinkArc h side) r c head sum
leads-step {h} {links} {place} step foot {head} {sum} at is_sum = record {
  arc = cost_at h (slice_index links place);
  goes = record { link = slice_index links place; leads = record { climbs = step.climbs; foot = foot; head = sym at }; cost = refl };
  sum = sym is_sum;
}

-- if its head is settled, the label there costs at most the climb
pub settled-step : {h : Hierarchy} {side : Side} (marks : List (Mark Label)) {r : ℕ} {c : Cost} {head : ℕ} {sum : Cost} → LeadsTo (LinkArc h side) r c head sum → IsLatest marks c r → IsSettledAtMost marks head sum
settled-step {h} {side} marks {r} {c} {head} {sum} leads latest e closed = (by_lengths h side).back e.cost c sum r head leads (latest head e closed)

-- the link at k was followed where its head's mark is at most the sum
followed-head : (h : Hierarchy) (side : Side) (c : Cost) (marks : List (Mark Label)) (k : ℕ) {head : ℕ} {sum : Cost} → head ≡ head_rank h side k → sum ≡ c ⊕ cost_at h k → IsAtMost label_cost (mark marks head) sum → IsAtMost label_cost (mark marks (head_rank h side k)) (c ⊕ cost_at h k)
followed-head h side c marks k {head} at is_sum most = subst (λ q. IsAtMost label_cost (mark marks q) (c ⊕ cost_at h k)) at (subst (λ (d : Cost). IsAtMost label_cost (mark marks head) d) is_sum most)

-- since it got the label
pub followed-put : (h : Hierarchy) (side : Side) (bound c : Cost) (limit : Option Cost) (marks : List (Mark Label)) (k : ℕ) {head : ℕ} (e : Label) → head < length marks → head ≡ head_rank h side k → e.cost ≡ c ⊕ cost_at h k → IsFollowed h side bound c limit (set marks head (Open e)) k
followed-put h side bound c limit marks k {head} e within at is_sum counts =
    followed-head h side c (set marks head (Open e)) k at is_sum
    (at_most-from_label label_cost (mark (set marks head (Open e)) head) e e.cost
    (label_open (mark (set marks head (Open e)) head) e (put-set marks head (Open e) within).here) (at_most_refl e.cost))

-- or had one of no more
pub followed-kept : (h : Hierarchy) (side : Side) (bound c : Cost) (limit : Option Cost) (marks : List (Mark Label)) (k : ℕ) {head : ℕ} {sum : Cost}
    → (Improves label_cost sum (mark marks head) → ⊥) → IsSettledAtMost marks head sum → head ≡ head_rank h side k → sum ≡ c ⊕ cost_at h k
    → IsFollowed h side bound c limit marks k
followed-kept h side bound c limit marks k {head} {sum} never above at is_sum counts = followed-head h side c marks k at is_sum (not_improves-at_most label_cost (mark marks head) sum never above)

-- what counts below a lesser limit counts below the greater one
pub counts-more : {bound : Cost} {less more : Option Cost} {c : Cost} → IsNoMore less more → CountsBelow bound less c → CountsBelow bound more c
counts-more no_more counts = record {
  short = counts.short;
  below = λ a is. let limit = no_more a is in below_trans_at_most (counts.below limit.0 limit.1) limit.2;
}

-- what is below a limit no longer than the bound is so too
pub counts-below : {bound b : Cost} (c : Cost) → IsNoLonger b bound → (c ≺ b) ↔ CountsBelow bound (Some b) c
counts-below {b} c short = (
  λ below. record {
    short = no_longer_at_most (at_most-from_below below) short;
    below = λ a is. subst (λ (d : Cost). c ≺ d) (same b a is) below;
  },
  λ counts. counts.below b refl,
)
  where
    same : (x y : Cost) → Some x ≡ Some y → x ≡ y
    same x y e = cc

pub counts-short : (bound c : Cost) → IsNoLonger c bound ↔ CountsBelow bound None c
counts-short bound c = (λ short. record { short = short; below = λ a is. absurd (never a is) }, λ counts. counts.short)
  where
    never : (a : Cost) → None ≡ Some a → ⊥
    never a e = cc

-- no more is settled by opening nodes
pub latest-more : {h : Hierarchy} {side : Side} {bound : Cost} {r : ℕ} {c : Cost} {old new : List (Mark Label)} → IsOpenedOver h side bound r c old new → IsLatest old c r → IsLatest new c r
latest-more opened latest q d closed = latest q d (opened.is.settled q d closed)

-- Links by their feet

-- a link that climbs from a node, climbs; and one that climbs from the rank of a node, climbs from it
pub climbs-from : {h : Hierarchy} {side : Side} {v k : ℕ} → ClimbsFrom h side v k → Climbs h side k
climbs-from {h} {side} {v} {k} from = record { within = from.within; rises = subst (λ x. rank_of h x < head_rank h side k) (sym from.foot) from.climbs }

pub foot-from : {h : Hierarchy} {side : Side} {v k : ℕ} → ClimbsFrom h side v k → foot_rank h side k ≡ rank_of h v
foot-from {h} from = ap (rank_of h) from.foot

pub from-climbs : {h : Hierarchy} → IsWellMade h → {side : Side} {v k : ℕ} → v < length h.ranks → Climbs h side k → foot_rank h side k ≡ rank_of h v → ClimbsFrom h side v k
from-climbs {h} made {side} {k} v_in climbs foot = record {
  within = climbs.within;
  foot = same_node made (foot_in made side climbs.within) v_in foot;
  climbs = subst (λ q. q < head_rank h side k) foot climbs.rises;
}

-- The links from one place on are followed one by one: those before the next one were.
pub record IsPassing (h : Hierarchy) (side : Side) (bound : Cost) (r : ℕ) (c : Cost) (links : List ℕ) (begin next : ℕ) (limit : Option Cost) (old new : List (Mark Label)) : Type 0 where
  pub opened : IsOpenedOver h side bound r c old new
  pub followed : (i : ℕ) → begin ≤ i → i < next → IsFollowed h side bound c limit new (slice_index links i)

pub passing-none : {h : Hierarchy} {side : Side} {bound : Cost} {r : ℕ} {c : Cost} {links : List ℕ} {begin : ℕ} {limit : Option Cost} {marks : List (Mark Label)} → IsPassing h side bound r c links begin begin limit marks marks
passing-none = record {
  opened = opened-start;
  followed = λ i from low. absurd (omega (arith, from, low));
}

-- one more link was followed
pub passing-more : {h : Hierarchy} {side : Side} {bound : Cost} {r : ℕ} {c : Cost} {links : List ℕ} {begin : ℕ} {limit : Option Cost} {old mid new : List (Mark Label)}
    {next : ℕ} → IsPassing h side bound r c links begin next limit old mid → IsOpenedOver h side bound r c mid new
    → IsFollowed h side bound c limit new (slice_index links next) → IsPassing h side bound r c links begin (next + 1) limit old new
passing-more {h} {side} {bound} {r} {c} {links} {limit = limit} {new = new} {next} is opened done = record {
  opened = opened-more is.opened opened;
  followed = λ i from low. elim (cases_lt i next) [
    | inl before ↦ λ counts. opened.is.kept (head_rank h side (slice_index links i)) (c ⊕ cost_at h (slice_index links i)) (is.followed i from before counts)
    | inr last ↦
        let same : i ≡ next = omega (arith, low, last) in
        subst (λ j. IsFollowed h side bound c limit new (slice_index links j)) (sym same) done
  ];
}

-- what a rank has in the lists of a side
module _ {h : Hierarchy} (made : IsWellMade h) {side : Side} {first links : List ℕ} {steps : List UpwardStep} (laid : IsLaidOut h side first links steps) {r : ℕ} (low : r < length h.ranks) where
  -- all its links were followed
  pub passed_over : {bound c : Cost} {next : ℕ} → slice_index first (r + 1) ≤ next → {limit : Option Cost} {old new : List (Mark Label)} → IsPassing h side bound r c links (slice_index first r) next limit old new → ArePassed h side bound r c limit new
  passed_over {bound} {c} whole {limit} {new} is u d leads counts =
      let arc : LinkArc h side r u leads.arc = leads.goes in
      let v = rank_taken made low in
      let from : ClimbsFrom h side v.0 arc.link = from-climbs made v.1 arc.leads.climbs (arc.leads.foot ∙ sym v.2) in
      let among = (links_are laid v.1 v.2).each arc.link from in
      let followed : IsFollowed h side bound c limit new arc.link = subst (λ j. IsFollowed h side bound c limit new j) among.3 (is.followed among.0 among.1 (omega (arith, among.2, whole))) in
      let sum : c ⊕ cost_at h arc.link ≡ d = ap (λ (a : Cost). c ⊕ a) arc.cost ∙ leads.sum in
      subst (λ q. IsAtMost label_cost (mark new q) d) arc.leads.head (subst (λ (a : Cost). IsAtMost label_cost (mark new (head_rank h side arc.link)) a) sum (followed (subst (λ (a : Cost). CountsBelow bound limit a) (sym sum) counts)))

  -- one of its links
  from_here : {i : ℕ} → slice_index first r ≤ i → i < slice_index first (r + 1) → Climbs h side (slice_index links i) × (foot_rank h side (slice_index links i) ≡ r)
  from_here {i} from before =
      let v = rank_taken made low in
      let one = (links_are laid v.1 v.2).climb i from before in
      (climbs-from one, foot-from one ∙ v.2)

  pub foot-made : {i : ℕ} → slice_index first r ≤ i → i < slice_index first (r + 1) → foot_rank h side (slice_index links i) ≡ r
  foot-made from before = (from_here from before).1

  pub step-made : {i : ℕ} → slice_index first r ≤ i → i < slice_index first (r + 1) → IsStepAt h side links steps i
  step-made {i} from before =
      let within : i < length links = omega (arith, before, laid.within (r + 1) (omega (arith, low, laid.nodes))) in
      record {
        link_in = within;
        step_in = omega (arith, within, as_many h side links laid.along);
        climbs = (from_here from before).0;
        along = step_at h side links laid.along within;
      }
