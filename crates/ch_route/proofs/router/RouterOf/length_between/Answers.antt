use Rattle.std.proofs.Common.{refl}
use Rattle.ch_route.proofs.RoutesAreLeast.{exact-of, shortest_length, value-of}
use Rattle.ch_route.proofs.router.RouterOf.length_between.Goals as goal

pub returns-clause-found : goal.returns-clause-found
returns-clause-found g c = record {
  value = c.in_ok-cost.cost;
  least = value-of c.args.starts.now c.args.ends.now c.in_ok-cost.cost c.in_ok-cost.cost c.self.view_is refl c.in_ok-cost.ensures.value;
  long = c.length_of.ensures;
}

pub returns-clause-exact : goal.returns-clause-exact
returns-clause-exact g c graph right = record {
  value = c.in_ok-cost.cost;
  least = exact-of c.args.starts.now c.args.ends.now c.in_ok-cost.cost c.in_ok-cost.cost c.self.view_is refl c.in_ok-cost.ensures.exact graph right;
  long = c.length_of.ensures;
}

pub returns-clause-by_weight : goal.returns-clause-by_weight
unfolding returns-clause-found
returns-clause-by_weight g c graph right =
    let found = returns-clause-found g c in
    shortest_length c.routes_are_least.ensures.between_lengths c.args.self.now c.args.starts.now c.args.ends.now c.in_ok-cost.cost c.length_of.result c.nodes-well_made.ensures.made c.requires.starts c.requires.ends found.least found.long graph right
