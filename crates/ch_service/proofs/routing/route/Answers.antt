use Rattle.std.proofs.Common.{rules}
use Rattle.ch_graph.specs.declared.version.Version.TheVariants.{One, Two}
use Rattle.ch_service.specs.Answer.{IsLeastWalk, IsFewestWalk}
use Rattle.ch_service.proofs.ByHierarchies.{routes-told, stops-routing, pairs-fault, queries-refused, file-refused, short-in_two, short-in_one, prepared-told, never_long-told}
use Rattle.ch_service.proofs.routing.route.Goals as goal

pub returns-clause-refused : goal.returns-clause-refused
returns-clause-refused g c =
    stops-routing c.in_ok-hierarchy.hierarchy c.as_slice.result.now _ _ _ _ _ (search rules) (search rules) c.answer_pairs.result c.answer_pairs.ensures.stops

pub returns-in_err-pairs-clause-refused : goal.returns-in_err-pairs-clause-refused
returns-in_err-pairs-clause-refused g c =
    queries-refused c.in_ok-hierarchy.hierarchy _ _ _ _ _ c.read_queries.result c.from_residual-in_err-pairs.result (search rules)
    (pairs-fault _ _ c.read_queries.result c.nodes.ensures.count c.read_queries.ensures.reads.reading) c.read_queries.ensures.reads.reached (search rules) c.map_err-2.ensures.cases c.in_err-pairs.was
    c.from_residual-in_err-pairs.ensures.1

pub returns-in_err-hierarchy-clause-refused : goal.returns-in_err-hierarchy-clause-refused
returns-in_err-hierarchy-clause-refused g c =
    file-refused _ _ _ _ _ c.read.result c.from_residual.result c.read.ensures.reads.err (search rules) c.map_err.ensures.cases c.in_err-hierarchy.was
    c.from_residual.ensures.1

pub returns-clause-routes : goal.returns-clause-routes
returns-clause-routes g c =
    routes-told c.in_ok-hierarchy.hierarchy c.as_slice.result.now _ _ _ _ c.answer_pairs.result (search rules) (search rules) c.answer_pairs.ensures.routed

pub returns-clause-exact : goal.returns-clause-exact
returns-clause-exact g c =
    prepared-told Two {Is = IsLeastWalk} c.routes_are_exact.ensures.exact c.in_ok-hierarchy.hierarchy c.as_slice.result.now _ _ _ _ c.answer_pairs.result (search rules) (search rules)
    c.answer_pairs.ensures.routed

pub returns-clause-fewest : goal.returns-clause-fewest
returns-clause-fewest g c =
    prepared-told Two {Is = IsFewestWalk} c.routes_are_exact.ensures.fewest c.in_ok-hierarchy.hierarchy c.as_slice.result.now _ _ _ _ c.answer_pairs.result (search rules) (search rules)
    c.answer_pairs.ensures.routed

pub returns-clause-never_long : goal.returns-clause-never_long
returns-clause-never_long g c =
    never_long-told Two c.hierarchies_have_one_spelling.ensures c.spelled_graphs_are_in_range.ensures (short-in_two c.routes_are_least.ensures.never_long) c.in_ok-hierarchy.hierarchy c.as_slice.result.now _ _ _ _ c.answer_pairs.result (search rules) (search rules)
    c.answer_pairs.ensures.stops

pub returns-clause-exact_by_weight : goal.returns-clause-exact_by_weight
returns-clause-exact_by_weight g c =
    prepared-told One {Is = IsLeastWalk} c.routes_are_exact.ensures.by_weight c.in_ok-hierarchy.hierarchy c.as_slice.result.now _ _ _ _ c.answer_pairs.result (search rules) (search rules)
    c.answer_pairs.ensures.routed

pub returns-clause-never_long_by_weight : goal.returns-clause-never_long_by_weight
returns-clause-never_long_by_weight g c =
    never_long-told One c.hierarchies_have_one_spelling.ensures c.spelled_graphs_are_in_range.ensures (short-in_one c.routes_are_least.ensures.never_long_by_weight) c.in_ok-hierarchy.hierarchy c.as_slice.result.now _ _ _ _ c.answer_pairs.result (search rules) (search rules)
    c.answer_pairs.ensures.stops
