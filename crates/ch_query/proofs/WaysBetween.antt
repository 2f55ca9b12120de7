-- Ways over ranks as walks from a start to a node.
use Rattle.std.proofs.Common.{ℕ, ◌≡◌, ◌<◌, List, [], ◌∷◌, ◌++◌, length, ap, refl, sym, subst, ◌∙◌, arith}
use Rattle.ch_cost.specs.declared.cost.Cost.{Cost}
use Rattle.ch_cost.specs.Cost.{zero_cost, ◌⊕◌}
use Rattle.ch_cost.specs.Cost.Laws.{sum_assoc, sum-zero_cost}
use Rattle.ch_graph.specs.Hierarchy.{Hierarchy, IsWellMade, rank_of}
use Rattle.ch_graph.specs.Searching.{StartedWalk}
use Rattle.ch_graph.specs.Walk.{Walk}
use Rattle.ch_query.specs.declared.seed.Seed.{Seed}
use Rattle.ch_query.specs.declared.side.Side.TheVariants.{Rise, Fall as falling}
use Rattle.ch_query.specs.Searching.{LinkArc}
use Rattle.ch_query.specs.Seeds.{AreSeeds, IsSeedAt, HasWalkBetween, cost_between}
use Rattle.ch_query.specs.Ways.{IsWay, free, WaysAreWalks, FreeValueIsValue, LongestIsExact}
use Rattle.ch_query.proofs.SeedPlaces.{seed-in}
use Rattle.ch_query.proofs.NodeOfRank.{rank_below, rank_taken}
use Rattle.ch_query.proofs.LeastSum.{rise-walk, fall-walk, end_in, walk-rise, walk-fall, seed_parts}
use Rattle.ch_query.proofs.FreeSeeds.{same_seed, value-one}
use Rattle.ch_query.proofs.LeastOfPairs.{least_pair}

-- what a start, a climb and a fall cost together, with an end at no cost
free_end : (a u d : Cost) → (a ⊕ u) ⊕ d ≡ (a ⊕ (u ⊕ d)) ⊕ zero_cost
free_end a u d = sum_assoc a u d ∙ sym (sum-zero_cost (a ⊕ (u ⊕ d)))

module _ {h : Hierarchy} (made : IsWellMade h) {starts : List Seed} (begins : AreSeeds h starts) {bound : Cost} {t : ℕ} (t_in : t < length h.ranks) {c : Cost} where
  walk-from_way : IsWay h starts bound (rank_of h t) c → HasWalkBetween h starts (free t ∷ []) bound c
  walk-from_way way =
      let w : StartedWalk (LinkArc h Rise) (IsSeedAt h starts) way.top way.up = way.rise in
      let a : Seed = w.begins.seed in
      let a_in : a.node < length h.ranks = (seed-in starts begins w.begins.among).node_in in
      let low : w.start < length h.ranks = subst (λ q. q < length h.ranks) w.begins.rank (rank_below made a_in) in
      let node = rank_taken made (end_in made w.walk low) in
      let rise = walk-rise made w.walk a_in node.1 w.begins.rank node.2 in
      let fall = walk-fall made way.fall t_in node.1 refl node.2 in
      record {
        start = a;
        stop = free t;
        begins = w.begins.among;
        stops = (0, omega arith, refl);
        links = rise.0 ++ fall.0;
        way = w.rest ⊕ way.down;
        leads = record {
          rise = rise.0;
          fall = fall.0;
          top = node.0;
          up = w.rest;
          down = way.down;
          parts = refl {a = rise.0 ++ fall.0};
          rises = rise.1;
          falls = fall.1;
          sum = refl;
        };
        sum = way.sum ∙ (ap (λ (d : Cost). d ⊕ way.down) (seed_parts w refl) ∙ free_end a.cost w.rest way.down);
        short = way.short;
      }

  way-from_walk : HasWalkBetween h starts (free t ∷ []) bound c → IsWay h starts bound (rank_of h t) c
  way-from_walk walk =
      let stop : walk.stop ≡ free t = same_seed walk.stops in
      record {
        top = rank_of h walk.leads.top;
        up = walk.start.cost ⊕ walk.leads.up;
        rise = record {
          start = rank_of h walk.start.node;
          first = walk.start.cost;
          begins = record { seed = walk.start; among = walk.begins; rank = refl; cost = refl };
          rest = walk.leads.up;
          walk = rise-walk walk.leads.rises;
          sum = refl;
        };
        down = walk.leads.down;
        fall = subst (λ (s : Seed). Walk (LinkArc h falling) (rank_of h s.node) (rank_of h walk.leads.top) walk.leads.down) stop (fall-walk walk.leads.falls);
        sum = walk.sum ∙ (ap (λ (s : Seed). cost_between walk.start walk.way s) stop ∙ (ap (λ (d : Cost). cost_between walk.start d (free t)) walk.leads.sum ∙ sym (free_end walk.start.cost walk.leads.up walk.leads.down)));
        short = walk.short;
      }

pub ways_walks : WaysAreWalks
ways_walks h starts bound t made begins t_in c = (walk-from_way made begins t_in, way-from_walk made begins t_in)

pub free_value : FreeValueIsValue
free_value h s t v value = value-one h s t v value

pub longest_exact : LongestIsExact
longest_exact h starts ends v made begins stops value g right = least_pair right made starts ends begins stops v value
