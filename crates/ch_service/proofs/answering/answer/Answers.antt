use Rattle.std.proofs.Common.{rules, subst, arith, Ok}
use Rattle.std.proofs.lemmas.Result.{err_from_is_err_and}
use Rattle.std.proofs.lemmas.Grind.{common_steps}
use Rattle.ch_graph.specs.Graph.{Graph}
use Rattle.ch_graph.specs.Limits.{IsGraph}
use Rattle.ch_service.specs.Answer.{IsLeastWalk, IsFewestWalk}
use Rattle.ch_service.proofs.ByHierarchies.{walk-right, answers-told, both_read, pairs_refused, stops-answering, built-good, refused-bad}
use Rattle.ch_service.proofs.answering.answer.Goals as goal

pub returns-clause-answers : goal.returns-clause-answers
returns-clause-answers g c =
    answers-told {Is = IsLeastWalk} (walk-right c.routes_are_least.ensures.fewest) c.as_slice.result.now _ _ _ _ c.answer_pairs.result (search rules) (search rules)
    (subst (λ (g : Graph). IsGraph g) c.graph.view_is c.graph.invariant.0) c.in_ok-hierarchy.ensures.built.ok.right (search rules) c.answer_pairs.ensures.routed

pub returns-clause-fewest : goal.returns-clause-fewest
returns-clause-fewest g c =
    answers-told {Is = IsFewestWalk} c.routes_are_least.ensures.fewest c.as_slice.result.now _ _ _ _ c.answer_pairs.result (search rules) (search rules)
    (subst (λ (g : Graph). IsGraph g) c.graph.view_is c.graph.invariant.0) c.in_ok-hierarchy.ensures.built.ok.right (search rules) c.answer_pairs.ensures.routed

pub returns-clause-refused : goal.returns-clause-refused
returns-clause-refused g c =
    stops-answering c.in-Ok.graph _ _ (search rules) c.as_slice.result.now (search rules) _ _ _ _ _ _ c.routes_are_least.ensures.fewest c.routes_are_least.ensures.never_long
    (built-good _ _ (Ok tt) c.in_ok-hierarchy.was c.build.ensures.built.bad) c.in_ok-hierarchy.field-0.hierarchy
    (subst (λ (g : Graph). IsGraph g) c.graph.view_is c.graph.invariant.0) c.in_ok-hierarchy.ensures.built.ok.right (search rules) c.answer_pairs.result c.answer_pairs.ensures.stops

pub returns-in-Err-clause-refused : goal.returns-in-Err-clause-refused
returns-in-Err-clause-refused g c = rw c.refuse.ensures.refused (c.in-Err.ensures.reads.reading, c.in-Err.ensures.reads.reached, search rules)

pub returns-in-Err-read_queries-clause-refused : goal.returns-in-Err-read_queries-clause-refused
returns-in-Err-read_queries-clause-refused g c =
    rw c.refuse-in-Err-read_queries.ensures.refused
    (pairs_refused c.in-Ok.graph _ _ (search rules) c.in-Err-read_queries.fault (search rules), c.in-Err-read_queries.ensures.reads.reached, search rules)

pub returns-in_err-hierarchy-clause-refused : goal.returns-in_err-hierarchy-clause-refused
returns-in_err-hierarchy-clause-refused g c =
    let exit = err_from_is_err_and c.from_residual.result c.from_residual.ensures.1 in
    let fault = c.in_err-hierarchy.field-0.0 in
    let bad = refused-bad _ _ c.in_err-hierarchy.was c.build.ensures.built.bad in
    rw (exit.1, exit.2) (bad, both_read c.in-Ok.graph _ _ (search rules) c.in-Ok-read_queries.pairs.items (search rules), search rules)

pub returns-clause-good : goal.returns-clause-good
returns-clause-good g c = built-good _ _ c.answer_pairs.result c.in_ok-hierarchy.was c.build.ensures.built.bad

pub returns-clause-leases : goal.returns-clause-leases
returns-clause-leases c = grind (arith, common_steps) steps 600000

pub returns-in-Err-clause-answers : goal.returns-in-Err-clause-answers
returns-in-Err-clause-answers c = grind (arith, common_steps) steps 200000

pub returns-in-Err-clause-fewest : goal.returns-in-Err-clause-fewest
returns-in-Err-clause-fewest c = grind (arith, common_steps) steps 200000

pub returns-in-Err-clause-good : goal.returns-in-Err-clause-good
returns-in-Err-clause-good c = grind (arith, common_steps) steps 200000

pub returns-in-Err-read_queries-clause-answers : goal.returns-in-Err-read_queries-clause-answers
returns-in-Err-read_queries-clause-answers c = grind (arith, common_steps) steps 200000

pub returns-in-Err-read_queries-clause-fewest : goal.returns-in-Err-read_queries-clause-fewest
returns-in-Err-read_queries-clause-fewest c = grind (arith, common_steps) steps 200000

pub returns-in-Err-read_queries-clause-good : goal.returns-in-Err-read_queries-clause-good
returns-in-Err-read_queries-clause-good c = grind (arith, common_steps) steps 200000
