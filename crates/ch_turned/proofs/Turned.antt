-- A turned hierarchy has the rise-fall walks and the unfolded links of the other one, turned, so it is right for the turned graph.
use Rattle.std.proofs.Common.{ℕ, ◌≢◌, ◌-◌, ◌^◌, ◌<◌, ◌≤◌, List, length, Option, All, AllPairs, Contains, slice_index, ap, sym, subst, ◌∙◌}
use Rattle.std.proofs.lemmas.List.Elements.{All-weaker, All-contains, All-contains_itself}
use Rattle.ch_cost.specs.declared.cost.Cost.{Cost}
use Rattle.ch_cost.specs.Cost.{cost_of_arcs, arcs_of, IsWithin, IsNoLonger}
use Rattle.ch_cost.specs.Cost.Laws.{sum_comm}
use Rattle.ch_graph.specs.declared.link.Link.{Link}
use Rattle.ch_graph.specs.declared.version.Version.{Version}
use Rattle.ch_graph.specs.declared.version.Version.TheVariants.{One, Two}
use Rattle.ch_graph.specs.Hierarchy.{Hierarchy, rank_of, Chain, IsRising, IsFalling, HasRiseFall, IsValue, IsLink, Unfolds, Unfolds.whole, Unfolds.halves, Counts, bound_arcs, IsLinkWellMade}
use Rattle.ch_turned.specs.Turned.{turned_link, IsTurned}
use Rattle.ch_turned.specs.Laws.{TurnedIsRight, TurnedIsRightByWeight, TurnedIsWellMade}
use Rattle.ch_turned.proofs.Walks.{arc-turned, least-same, distance-turned, distance-back, length-turned, flipped, flipped-join, flipped-flipped, chain-turned}

-- turned twice it is the same
back : {h t : Hierarchy} → IsTurned h t → IsTurned t h
back turned = record {
  version = sym turned.version;
  ranks = sym turned.ranks;
  bound = sym turned.bound;
  links = λ l. let same = turned.links (turned_link l) in (same.1, same.0);
}

module _ {h t : Hierarchy} (turned : IsTurned h t) where
  -- a link of the one, turned, is one of the other
  among : (l : Link) → Contains h.links l → Contains t.links (turned_link l)
  among l is = (turned.links (turned_link l)).1 is

  link : {x y : ℕ} {l : Link} → IsLink h x y l → IsLink t y x (turned_link l)
  link {l = l} is = record { among = among l is.among; from = is.to; to = is.from }

  -- ranks stay
  below : (x y : ℕ) → rank_of h x < rank_of h y → rank_of t x < rank_of t y
  below x y low = subst (λ (ranks : List ℕ). slice_index ranks x < slice_index ranks y) (sym turned.ranks) low

  -- so what rises falls
  falls : (l : Link) → IsRising h l → IsFalling t (turned_link l)
  falls l is = record { among = among l is.among; falls = below l.from l.to is.rises }

  rises : (l : Link) → IsFalling h l → IsRising t (turned_link l)
  rises l is = record { among = among l is.among; rises = below l.to l.from is.falls }

  rise_fall : (s e : ℕ) (c : Cost) → HasRiseFall h s e c → HasRiseFall t e s c
  rise_fall s e c has =
      let leads = has.leads in
      record {
        links = flipped has.links;
        leads = record {
          rise = flipped leads.fall;
          fall = flipped leads.rise;
          top = leads.top;
          up = leads.down;
          down = leads.up;
          parts = ap flipped leads.parts ∙ flipped-join leads.rise leads.fall;
          rises = chain-turned rises leads.falls;
          falls = chain-turned falls leads.rises;
          sum = leads.sum ∙ sum_comm leads.up leads.down;
        };
        short = subst (λ (bound : Cost). IsNoLonger c bound) (sym turned.bound) has.short;
      }

  -- and links unfold backwards
  unfolds : {l : Link} {arcs : List Link} → Unfolds h l arcs → Unfolds t (turned_link l) (flipped arcs)
  unfolds (whole none) = whole none
  unfolds (halves {l = l} {ls = ls} {rs = rs} middle first second us vs) =
      subst (λ (arcs : List Link). Unfolds t (turned_link l) arcs) (sym (flipped-join ls rs)) (halves middle (link second) (link first) (unfolds vs) (unfolds us))

module _ {h t : Hierarchy} (turned : IsTurned h t) where
  value : (x y : ℕ) (c : Option Cost) → IsValue h y x c → IsValue t x y c
  value x y = least-same (rise_fall turned y x) (rise_fall (back turned) x y)

  -- what a link of the turned hierarchy represents, if each link of the other one represents such arcs
  chain : {IsKind IsOther : Link → Type 0} → ((l : Link) → IsKind l → IsOther (turned_link l))
      → ((l : Link) (arcs : List Link) → Contains h.links l → Unfolds h l arcs → Chain IsKind arcs l.from l.to l.cost)
      → (l : Link) (arcs : List Link) → Contains t.links l → Unfolds t l arcs → Chain IsOther arcs l.from l.to l.cost
  chain {IsOther = IsOther} each all l arcs is us =
      subst (λ (ls : List Link). Chain IsOther ls l.from l.to l.cost) (flipped-flipped arcs)
      (chain-turned each (all (turned_link l) (flipped arcs) ((turned.links l).0 is) (unfolds (back turned) us)))

  some_arcs : ((l : Link) → Contains h.links l → (arcs : List Link) × Unfolds h l arcs) → (l : Link) → Contains t.links l → (arcs : List Link) × Unfolds t l arcs
  some_arcs all l is =
      let found = all (turned_link l) ((turned.links l).0 is) in
      (flipped found.0, unfolds turned found.1)

pub turned_is_right : TurnedIsRight
turned_is_right g h t turned right = record {
  nodes = ap length turned.ranks ∙ right.nodes;
  value = λ x y c x_in y_in. (
    λ distance. value turned x y c ((right.value y x c y_in x_in).0 (distance-back g x y c distance)),
    λ is. distance-turned g x y c ((right.value y x c y_in x_in).1 (value (back turned) y x c is)),
  );
  unfolds = some_arcs turned right.unfolds;
  unfolded = chain turned (λ l. arc-turned g l.from l.to l.cost) right.unfolded;
}

pub turned_is_right_by_weight : TurnedIsRightByWeight
turned_is_right_by_weight g h t turned right = record {
  nodes = ap length turned.ranks ∙ right.nodes;
  value = λ x y c x_in y_in is. length-turned g x y _ (right.value y x c y_in x_in (value (back turned) y x c is));
  unfolds = some_arcs turned right.unfolds;
  unfolded = chain turned (λ l arc. record { cost = arc.cost; arc = arc-turned g l.from l.to arc.cost arc.arc; weighs = arc.weighs }) right.unfolded;
}

-- Well made hierarchies

counts : (v : Version) (l : Link) → Counts v (turned_link l) → Counts v l
counts One l is = record { some = is.some; none = is.none }
counts Two l is = record { some = is.some; one = is.one }

made_link : {h t : Hierarchy} → IsTurned h t → (l : Link) → IsLinkWellMade h (turned_link l) → IsLinkWellMade t l
made_link {h} {t} turned l made = record {
  from_in = subst (λ (ranks : List ℕ). l.from < length ranks) (sym turned.ranks) made.to_in;
  to_in = subst (λ (ranks : List ℕ). l.to < length ranks) (sym turned.ranks) made.from_in;
  apart = λ same. made.apart (sym same);
  counts = subst (λ (v : Version). Counts v l) (sym turned.version) (counts h.version l made.counts);
  within = subst (λ (bound : Cost). IsWithin l.cost bound) (sym turned.bound) made.within;
  middle = λ m is.
      let parts = made.middle m is in
      let halves = parts.2 in (
        turned_link parts.1,
        turned_link parts.0,
        record {
          first = link turned halves.second;
          second = link turned halves.first;
          sum = halves.sum ∙ sum_comm parts.0.cost parts.1.cost;
          below_from = below turned m l.from halves.below_to;
          below_to = below turned m l.to halves.below_from;
        },
      );
}

pub turned_is_well_made : TurnedIsWellMade
turned_is_well_made h t turned sorted made = record {
  few_nodes = subst (λ (ranks : List ℕ). length ranks ≤ 2 ^ 25) (sym turned.ranks) made.few_nodes;
  bound = subst (λ (bound : Cost). IsWithin bound (cost_of_arcs (length t.ranks - 1) (2 ^ 32 - 1))) (sym turned.bound)
      (subst (λ (ranks : List ℕ). IsWithin h.bound (cost_of_arcs (length ranks - 1) (2 ^ 32 - 1))) (sym turned.ranks) made.bound);
  bound_arcs = ap arcs_of turned.bound ∙ made.bound_arcs ∙ sym (ap (λ (v : Version). bound_arcs v (length t.ranks)) turned.version ∙ ap (λ (ranks : List ℕ). bound_arcs h.version (length ranks)) turned.ranks);
  in_range = subst (λ (ranks : List ℕ). All (λ r. r < length ranks) ranks) (sym turned.ranks) made.in_range;
  once = subst (λ (ranks : List ℕ). AllPairs (λ q r. q ≢ r) ranks) (sym turned.ranks) made.once;
  sorted = sorted;
  links = All-weaker (Contains t.links) (IsLinkWellMade t) (λ l is. made_link turned l (All-contains (IsLinkWellMade h) h.links (turned_link l) made.links ((turned.links l).0 is))) t.links (All-contains_itself t.links);
}
