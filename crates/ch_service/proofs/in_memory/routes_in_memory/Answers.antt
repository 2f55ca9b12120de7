use Rattle.ch_service.specs.Answer.{IsFewestWalk, Prepares}
use Rattle.ch_service.proofs.ByHierarchies.{prepared-in_memory, all_of, refused-preparing, refused-routing}
use Rattle.std.proofs.Common.{rules, List, ℕ, ap, subst, sym, Some, Err}
use Rattle.std.proofs.lemmas.Result.{err_from_is_err_and}
use Rattle.ch_service.proofs.in_memory.routes_in_memory.Goals as goal

pub returns-clause-best : goal.returns-clause-best
returns-clause-best g c = (c.answers_are_best_routes.ensures c.args.graph.now c.args.pairs.now c.route.new.out.items).0
    (prepared-in_memory IsFewestWalk c.args.graph.now c.args.pairs.now {none = c.new-file.result.items} {bytes = c.prepare.new.out.items} {slice = c.as_slice-bytes.result.now} {empty = c.new-text.result.items} c.route.new.out.items
    (search rules) (search rules) (search rules) c.in_ok-prepare.ensures.prepared.prepares c.in_ok-route.ensures.fewest)

pub returns-clause-good : goal.returns-clause-good
returns-clause-good g c = c.in_ok-prepare.ensures.prepared.good

pub returns-in_err-prepare-clause-refused : goal.returns-in_err-prepare-clause-refused
returns-in_err-prepare-clause-refused g c =
    let exit = err_from_is_err_and c.from_residual.result c.from_residual.ensures.1 in
    rw (exit.1, exit.2) (refused-preparing _ _ c.args.graph.now c.args.pairs.now (Some c.prepare.new.gr.now) (Some c.new-file.result.items) (Some c.prepare.new.out.items) c.in_err-prepare.field-0.0 c.in_err-prepare.ensures.prepared.refused)

pub returns-in_err-route-clause-refused : goal.returns-in_err-route-clause-refused
returns-in_err-route-clause-refused g c =
    let exit = err_from_is_err_and c.from_residual-in_err-route.result c.from_residual-in_err-route.ensures.1 in
    let text : List ℕ = c.args.graph.now in
    let file : List ℕ = c.as_slice-bytes.result.now in
    let written : Prepares text c.prepare.new.out.items = all_of (Prepares text) {old = c.new-file.result.items} c.prepare.new.out.items (search rules) c.in_ok-prepare.ensures.prepared.prepares in
    let p : Prepares text file = subst (Prepares text) (sym c.as_slice-bytes.ensures.value) written in
    rw (exit.1, exit.2) (refused-routing _ _ c.hierarchies_have_one_spelling.ensures c.spellings_have_no_fault.ensures c.spelled_graphs_are_in_range.ensures text c.args.pairs.now file p (Some c.route.new.queries.now) (Some c.new-text.result.items) (Some c.route.new.out.items) c.in_err-route.field-0.0 c.in_err-route.ensures.refused
    (λ is. c.in_err-route.ensures.never_long (ap Err is) text p))
