use Rattle.std.proofs.Common.{ℕ, List, length, set, Some, ap, subst, sym, arith}
use Rattle.std.proofs.lemmas.List.{length-set}
use Rattle.ch_cost.specs.declared.cost.Cost.{Cost}
use Rattle.ch_cost.specs.Cost.{zero_cost}
use Rattle.ch_cost.specs.Cost.Laws.{ZERO-is, in_limit-from_arcs}
use Rattle.ch_graph.specs.declared.mark.Mark.{Mark}
use Rattle.ch_graph.specs.declared.mark.Mark.TheVariants.{Settled}
use Rattle.ch_graph.specs.Graph.{IsDistance}
use Rattle.ch_graph.specs.Marks.{mark, settled_count}
use Rattle.ch_graph.specs.Search.{IsOffered, IsLatest, IsOpenedFrom, AreDistances}
use Rattle.ch_graph.specs.Marks.Laws.{count-most}
use Rattle.ch_graph.proofs.Distances.{distance_within_bound}
use Rattle.ch_graph.proofs.Dijkstra.{search-start, search-turn, search-not_found, found-then, settled-then, settled_is_least, turn-latest, turn-fits, turn-count}
use Rattle.ch_graph.proofs.search.settle_to.Goals as goal

pub nodes-init : goal.nodes-init
nodes-init c = search-start c.args.graph.now c.args.source c.args.target c.requires.source_in c.offer.new.self
    (subst (λ (ls : List (Mark Cost)). IsOffered ls c.args.source zero_cost c.offer.new.self) c.requires.unseen
    (subst (λ (d : Cost). IsOffered c.args.frontier.now c.args.source d c.offer.new.self) ZERO-is c.in_ok-offer.ensures))

pub returns-then-reached-target-clause-distance : goal.returns-then-reached-target-clause-distance
returns-then-reached-target-clause-distance c = subst
    (λ (v : ℕ). IsDistance c.args.graph.now c.args.source v (Some c.in-Some.reached.cost)) c.if-reached-target.true
    (found-then c.args.graph.now c.args.source c.args.target c.nodes.frontier c.in-Some.reached.node c.in-Some.reached.cost c.nodes.invariant c.in-Some.ensures.least)

pub returns-then-reached-target-clause-settled : goal.returns-then-reached-target-clause-settled
returns-then-reached-target-clause-settled c = subst (λ (ls : List (Mark Cost)). AreDistances c.args.graph.now c.args.source (mark ls))
    (sym c.in-Some.ensures.settled) (settled-then c.args.graph.now c.args.source c.args.target c.nodes.frontier c.in-Some.reached.node c.in-Some.reached.cost c.nodes.invariant c.in-Some.ensures.least)

pub returns-then-reached-target-clause-bounded : goal.returns-then-reached-target-clause-bounded
returns-then-reached-target-clause-bounded c = distance_within_bound c.args.graph.now c.args.source c.args.target c.in-Some.reached.cost c.requires.graph (returns-then-reached-target-clause-distance c)

pub follow-requires-clause-latest : goal.follow-requires-clause-latest
follow-requires-clause-latest c = subst (λ (ls : List (Mark Cost)). IsLatest ls c.in-Some.reached.cost c.in-Some.reached.node)
    (sym c.in-Some.ensures.settled) (turn-latest c.args.graph.now c.args.source c.args.target c.nodes.frontier c.in-Some.reached.node c.in-Some.reached.cost c.nodes.invariant c.in-Some.ensures.least)

pub follow-requires-clause-fits : goal.follow-requires-clause-fits
follow-requires-clause-fits c = in_limit-from_arcs (omega (arith, count-most c.nodes.frontier, c.nodes.invariant.nodes, c.requires.graph.few_nodes))
    (turn-fits c.args.graph.now c.args.source c.args.target c.nodes.frontier c.in-Some.reached.node c.in-Some.reached.cost c.nodes.invariant c.in-Some.ensures.least)

pub nodes-smaller : goal.nodes-smaller
nodes-smaller c = omega (
  arith,
  turn-count c.args.graph.now c.args.source c.args.target c.nodes.frontier c.in-Some.reached.node c.in-Some.reached.cost c.nodes.invariant c.in-Some.ensures.least,
  c.in_ok-follow.ensures.opened.count,
  ap settled_count c.in-Some.ensures.settled,
  count-most c.follow.new.frontier,
  c.in_ok-follow.ensures.opened.nodes,
  ap length c.in-Some.ensures.settled,
  length-set c.nodes.frontier c.in-Some.reached.node (Settled c.in-Some.reached.cost),
  c.nodes.invariant.nodes,
)

pub nodes-preserved : goal.nodes-preserved
nodes-preserved c =
    let opened : IsOpenedFrom c.args.graph.now c.in-Some.reached.node c.in-Some.reached.cost
    (set c.nodes.frontier c.in-Some.reached.node (Settled c.in-Some.reached.cost)) c.follow.new.frontier = subst
    (λ (ls : List (Mark Cost)). IsOpenedFrom c.args.graph.now c.in-Some.reached.node c.in-Some.reached.cost ls c.follow.new.frontier) c.in-Some.ensures.settled c.in_ok-follow.ensures.opened in
    search-turn c.args.graph.now c.args.source c.args.target c.nodes.frontier c.in-Some.reached.node c.in-Some.reached.cost c.nodes.invariant c.in-Some.ensures.least c.follow.new.frontier opened c.requires.graph c.if-reached-target.false c.in_ok-follow.ensures.followed

pub returns-clause-distance : goal.returns-clause-distance
returns-clause-distance c = search-not_found c.nodes.invariant c.in_default.ensures.none

pub returns-clause-settled : goal.returns-clause-settled
returns-clause-settled c = subst (λ (ls : List (Mark Cost)). AreDistances c.args.graph.now c.args.source (mark ls)) (sym c.in_default.ensures.unchanged) (settled_is_least c.args.graph.now c.args.source (mark c.nodes.frontier) c.nodes.invariant.is)
