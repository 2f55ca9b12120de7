use Rattle.std.proofs.Common.{ℕ, ◌≡◌, ◌<◌, ◌≤◌, ◌∙◌, List, length, Option, Some, None, get_or, refl, ap, subst, sym, arith}
use Rattle.std.proofs.lemmas.List.{get_or_read}
use Rattle.ch_cost.specs.Cost.{◌⊕◌, of_weight}
use Rattle.ch_cost.specs.Cost.Laws.{of_arcs_arc, in_limit-from_arcs, at_most_trans, at_most_sum_left}
use Rattle.ch_graph.specs.declared.road.Road.{Road}
use Rattle.ch_graph.specs.Graph.{Graph, ArcOf}
use Rattle.ch_graph.specs.Marks.{mark, IsAtMost}
use Rattle.ch_graph.specs.Outgoing.{road_at, IsLastFrom}
use Rattle.ch_cost.specs.declared.cost.Cost.{Cost}
use Rattle.ch_graph.specs.Searching.{LeadsTo}
use Rattle.ch_graph.specs.Search.{own_cost, IsOffered}
use Rattle.ch_graph.proofs.LastArcs.{places_to, last_from-below}
use Rattle.ch_graph.proofs.FollowedArcs.{opened-start, opened-more, leads-road, offer-opened, offer-at_most, followed-more}
use Rattle.ch_graph.proofs.search.follow.Goals as goal

pub arcs-init : goal.arcs-init
arcs-init c = record {
  opened = opened-start c.args.graph.now c.args.reached.node c.args.reached.cost c.args.frontier.now;
  from = length c.args.graph.now.arcs;
  within = omega arith;
  next = subst (λ (o : Option ℕ). IsLastFrom c.args.graph.now.arcs c.args.reached.node (length c.args.graph.now.arcs) o)
      (sym (get_or_read _ c.args.reached.node c.index-next.result.now
      (omega (arith, c.requires.node_in, c.requires.links.nodes)) c.index-next.ensures None))
      (c.requires.links.lasts c.args.reached.node c.requires.node_in);
  followed = λ k from h. absurd (omega (arith, from, h));
}

pub bounds-arcs-at : goal.bounds-arcs-at
bounds-arcs-at c = subst (λ (rs : List Road). c.in-Some.at < length rs) (sym c.arcs-arcs.ensures.list) (omega (arith, (c.arcs.invariant.next.leaves c.in-Some.at c.in-Some.is).0, c.arcs.invariant.within))

pub plus-requires-clause-second : goal.plus-requires-clause-second
plus-requires-clause-second c =
    let at_in : c.in-Some.at < length c.args.graph.now.arcs = omega (arith, (c.arcs.invariant.next.leaves c.in-Some.at c.in-Some.is).0, c.arcs.invariant.within) in
    rw c.of_weight.ensures (rw c.arcs-arcs.ensures.list (in_limit-from_arcs {n = 1} (omega arith) (of_arcs_arc (c.arcs-arcs.ensures.graph.roads c.in-Some.at (record { from = 0; to = 0; weight = 0 }) at_in).weighs)))

pub arcs-smaller : goal.arcs-smaller
arcs-smaller c =
    let at_in : c.in-Some.at < length c.args.graph.now.arcs = omega (arith, (c.arcs.invariant.next.leaves c.in-Some.at c.in-Some.is).0, c.arcs.invariant.within) in
    let read : c.index-next-in-Some.result.now ≡ get_or c.args.outgoing.now.before.items c.in-Some.at None = get_or_read c.args.outgoing.now.before.items c.in-Some.at c.index-next-in-Some.result.now (omega (arith, at_in, c.requires.links.arcs)) c.index-next-in-Some.ensures None in
    let below : places_to c.index-next-in-Some.result.now ≤ c.in-Some.at = subst (λ (o : Option ℕ). places_to o ≤ c.in-Some.at) (sym read) (last_from-below c.args.graph.now.arcs (road_at c.args.graph.now.arcs c.in-Some.at).from c.in-Some.at _ (c.requires.links.befores c.in-Some.at at_in)) in
    subst (λ (o : Option ℕ). places_to c.index-next-in-Some.result.now < places_to o) (sym c.in-Some.is) (omega (arith, below))

pub arcs-preserved : goal.arcs-preserved
arcs-preserved c =
    let graph : Graph = c.args.graph.now in
    let at = c.in-Some.at in
    let last : IsLastFrom graph.arcs c.args.reached.node c.arcs.invariant.from (Some at) = subst (IsLastFrom graph.arcs c.args.reached.node c.arcs.invariant.from) c.in-Some.is c.arcs.invariant.next in
    let at_in : at < length graph.arcs = omega (arith, (last.leaves at refl).0, c.arcs.invariant.within) in
    let leaves : (road_at graph.arcs at).from ≡ c.args.reached.node = (last.leaves at refl).1 in
    let read : c.index-next-in-Some.result.now ≡ get_or c.args.outgoing.now.before.items at None = get_or_read c.args.outgoing.now.before.items at c.index-next-in-Some.result.now (omega (arith, at_in, c.requires.links.arcs)) c.index-next-in-Some.ensures None in
    let place : (road_at graph.arcs at).to < length c.arcs.frontier = omega (arith, (c.arcs-arcs.ensures.graph.roads at (record { from = 0; to = 0; weight = 0 }) at_in).to_in, c.arcs.invariant.opened.nodes, c.requires.marks) in
    let cost : Cost = c.args.reached.cost ⊕ of_weight (road_at graph.arcs at).weight in
    let offered : IsOffered c.arcs.frontier (road_at graph.arcs at).to cost c.offer.new.self = subst
    (λ (rs : List Road). IsOffered c.arcs.frontier (road_at rs at).to
    (c.args.reached.cost ⊕ of_weight (road_at rs at).weight) c.offer.new.self) c.arcs-arcs.ensures.list
    (subst (λ (d : Cost). IsOffered c.arcs.frontier (road_at c.arcs-arcs.result.now at).to d c.offer.new.self)
    (c.plus.ensures ∙ ap (λ (d : Cost). c.args.reached.cost ⊕ d) c.of_weight.ensures) c.in_ok-offer.ensures) in
    let v : ℕ = c.args.reached.node in
    let to : ℕ = (road_at graph.arcs at).to in
    let leads : LeadsTo (ArcOf graph) v c.args.reached.cost to cost = leads-road graph c.args.reached.cost at at_in leaves in
    let kept : (u : ℕ) (d : Cost) → IsAtMost own_cost (mark c.arcs.frontier u) d → IsAtMost own_cost (mark c.offer.new.self u) d = (offer-opened c.arcs.frontier c.offer.new.self to cost place offered graph leads).kept in
    record {
      opened = opened-more c.arcs.frontier c.offer.new.self to cost place offered graph leads c.arcs.invariant.opened;
      from = at;
      within = omega (arith, at_in);
      next = subst (λ (n : ℕ). IsLastFrom graph.arcs n at c.index-next-in-Some.result.now) leaves (subst (λ (o : Option ℕ). IsLastFrom graph.arcs (road_at graph.arcs at).from at o) (sym read) (c.requires.links.befores at at_in));
      followed = followed-more graph c.args.reached.cost at c.arcs.frontier c.offer.new.self last kept
          (offer-at_most c.arcs.frontier c.offer.new.self to cost place offered
          (λ d is. at_most_trans (c.requires.latest to d (c.arcs.invariant.opened.is.settled to d is))
          (at_most_sum_left c.args.reached.cost (of_weight (road_at graph.arcs at).weight)))) c.arcs.invariant.followed;
    }
