-- Marks, and the order in which they are settled.
use Rattle.std.proofs.Common.{ℕ, ◌≡◌, ◌<◌, ◌↔◌, List, Option, Some, None, ap, refl, sym, subst, ◌∙◌, inl, inr, arith}
use Rattle.std.proofs.lemmas.Bool.{cases_lt}
use Rattle.ch_cost.specs.declared.cost.Cost.{Cost}
use Rattle.ch_cost.specs.Cost.{◌⊕◌, ◌≼◌, ◌≺◌, length_of}
use Rattle.ch_cost.specs.Cost.Laws.{at_most-from_below, below_not_at_most, below-from_lengths, cases_cost, length_of-sum}
use Rattle.ch_graph.specs.declared.mark.Mark.{Mark}
use Rattle.ch_graph.specs.declared.mark.Mark.TheVariants.{Unseen, Open, Settled}
use Rattle.ch_graph.specs.Marks.{mark, label_in, HasLabel, Improves, IsAtMost}
use Rattle.ch_graph.specs.Hierarchy.{Hierarchy}
use Rattle.ch_graph.specs.Searching.{IsOrder}
use Rattle.ch_query.specs.declared.label.Label.{Label}
use Rattle.ch_query.specs.declared.side.Side.{Side}
use Rattle.ch_query.specs.Marks.{option_cost, costs_of, settled_in, settled_costs, IsNoLater, IsBelow, IsUpTo, HasLimit, label_cost}
use Rattle.ch_query.specs.Searching.{LinkArc}

-- a cost is that of a label
pub from_cost : {o : Option Label} {c : Cost} → option_cost o ≡ Some c → (e : Label) × (o ≡ Some e) × (e.cost ≡ c)
from_cost {o = None} is = absurd (cc)
from_cost {o = Some e} is = (e, refl, cc)

pub cost_is : (marks : List (Mark Label)) (r : ℕ) {e : Label} → HasLabel (mark marks r) e → costs_of marks r ≡ Some e.cost
cost_is marks r is = ap option_cost is

-- and a settled node's that of the label with which it was settled
pub settled_is : {m : Mark Label} {c : Cost} → settled_in m ≡ Some c → (e : Label) × (m ≡ Settled e) × (e.cost ≡ c)
settled_is {m = Unseen} is = absurd (cc)
settled_is {m = Open e} is = absurd (cc)
settled_is {m = Settled e} is = (e, refl, cc)

pub settled-cost : (marks : List (Mark Label)) (r : ℕ) {c : Cost} → settled_costs marks r ≡ Some c → costs_of marks r ≡ Some c
settled-cost marks r is =
    let e = settled_is is in
    ap (λ (m : Mark Label). option_cost (label_in m)) e.1 ∙ ap (λ (d : Cost). Some d) e.2

-- what isn't below a limit is at least that
pub limit-given : {c : Cost} {limit : Option Cost} → (IsBelow c limit → ⊥) → HasLimit limit c
limit-given {limit = None} never = absurd (never tt)
limit-given {c} {limit = Some b} never = (b, refl, elim (cases_cost c b) [ inl below ↦ absurd (never below) | inr most ↦ most ])

-- what is longer than a limit is at least that
pub limit-longer : {c : Cost} {limit : Option Cost} → (IsUpTo (length_of c) limit → ⊥) → HasLimit limit c
limit-longer {limit = None} never = absurd (never tt)
limit-longer {c} {limit = Some b} never = (b, refl, elim (cases_lt (length_of b) (length_of c)) [ inl longer ↦ at_most-from_below (below-from_lengths b c longer) | inr most ↦ absurd (never most) ])

-- what is at most a cost has a label that is
pub has_label : (m : Mark Label) {c : Cost} → IsAtMost label_cost m c → (e : Label) × HasLabel m e × (e.cost ≼ c)
has_label Unseen most = absurd most
has_label (Open e) most = (e, refl, most)
has_label (Settled e) most = (e, refl, most)

-- The order in which nodes are settled

no_later-refl : (c : Cost) (r : ℕ) → IsNoLater c r c r
no_later-refl c r = record { length = omega arith; rank = λ alike. omega arith }

no_later-trans : {c d e : Cost} {p q r : ℕ} → IsNoLater c p d q → IsNoLater d q e r → IsNoLater c p e r
no_later-trans {c} {d} {e} first second = record {
  length = omega (arith, first.length, second.length);
  rank = λ alike.
      let same : length_of c ≡ length_of d = omega (arith, first.length, second.length, alike) in
      let other : length_of d ≡ length_of e = omega (arith, first.length, second.length, alike) in
      omega (arith, first.rank same, second.rank other);
}

-- where a climb leads on to comes later
no_later-climb : {c : Cost} (w : Cost) {q r : ℕ} → r < q → IsNoLater c r (c ⊕ w) q
no_later-climb {c} w higher = record { length = omega (arith, length_of-sum c w); rank = λ alike. omega (arith, higher) }

-- and if it was settled before, its label is shorter than the climb
no_later-settled : {d c : Cost} {q r : ℕ} (w : Cost) → IsNoLater d q c r → r < q → d ≼ c ⊕ w
no_later-settled {d} {c} w before higher = at_most-from_below (below-from_lengths d (c ⊕ w) (elim (cases_lt (length_of d) (length_of c)) [
  | inl shorter ↦ omega (arith, shorter, length_of-sum c w)
  | inr as_long ↦ absurd (omega (arith, higher, before.rank (omega (arith, as_long, before.length))))
]))

-- it goes with the arcs of a side
pub arc-rises : {h : Hierarchy} {side : Side} {q r : ℕ} {c : Cost} → LinkArc h side q r c → q < r
arc-rises arc = omega (arith, arc.leads.climbs.rises, arc.leads.foot, arc.leads.head)

pub by_lengths : (h : Hierarchy) (side : Side) → IsOrder (LinkArc h side) IsNoLater
by_lengths h side = record {
  same = no_later-refl;
  chain = λ b c d u v w first second. no_later-trans first second;
  onward = λ c d v u leads. subst (λ (e : Cost). IsNoLater c v e u) leads.sum (no_later-climb leads.arc (arc-rises leads.goes));
  back = λ b c d v u leads before. subst (λ (e : Cost). b ≼ e) leads.sum (no_later-settled leads.arc before (arc-rises leads.goes));
}

-- A climb is better than a label where it costs less
pub better_than : {m : Mark Label} {c known : Cost} → ((e : Label) → m ≡ Settled e → e.cost ≼ c) → Some known ≡ option_cost (label_in m) → (c ≺ known) ↔ Improves label_cost c m
better_than {m = Unseen} latest is = absurd (cc)
better_than {m = Open e} {c} {known} latest is =
    let same : known ≡ e.cost = cc in
    (λ below. subst (λ (d : Cost). c ≺ d) same below, λ below. subst (λ (d : Cost). c ≺ d) (sym same) below)
better_than {m = Settled e} {c} {known} latest is =
    let same : known ≡ e.cost = cc in
    (λ below. below_not_at_most (subst (λ (d : Cost). c ≺ d) same below) (latest e refl), λ improves. absurd improves)
