use Rattle.std.proofs.Common.{◌≤◌, ◌∙◌, [], length, arith, refl, sym}
use Rattle.std.proofs.lemmas.Result.{err_from_is_err_and}
use Rattle.counted_io.specs.Sinks.Laws.{puts_nothing}
use Rattle.ch_service.specs.Answer.{nothing}
use Rattle.ch_service.proofs.ByHierarchies.{answers-next, in_range-by, not_both, stops-next}
use Rattle.ch_service.proofs.pairs.put_pairs.Goals as goal

pub pairs-init : goal.pairs-init
pairs-init g c = record { same = refl; answers = record { bytes = []; is = nothing; puts = puts_nothing _ _ } }

pub route-requires : goal.route-requires
route-requires g c = let within = in_range-by _ c.pairs.invariant.same (c.requires c.pairs.pair-index (0, 0) c.pairs-test.true) in record { source_in = within.0; target_in = within.1 }

pub returns-then-has_failed : goal.returns-then-has_failed
returns-then-has_failed g c =
    let answers = c.pairs.invariant.answers in
    record { count = c.pairs.pair-index; text = answers.bytes; routed = answers.is; puts = answers.puts; ends = λ well. absurd (not_both (sym c.has_failed.ensures ∙ c.if-has_failed.true) well) }

pub returns-in_err-route : goal.returns-in_err-route
returns-in_err-route g c =
    let exit = err_from_is_err_and c.from_residual.result c.from_residual.ensures.1 in
    rw (exit.1, exit.2) (stops-next c.args.pairs.now c.pairs.pair-index c.pairs-test.true c.pairs.invariant.same c.pairs.invariant.answers c.in_err-route.was c.route.ensures.too_long)

pub pairs-preserved : goal.pairs-preserved
pairs-preserved g c = record {
  same = c.route.ensures.kept ∙ c.pairs.invariant.same;
  answers = answers-next c.args.pairs.now c.pairs.pair-index c.in_ok-route.route c.pairs-test.true c.pairs.invariant.same c.pairs.invariant.answers c.in_ok-route.ensures.found c.put_line.ensures;
}

pub returns : goal.returns
returns g c =
    let answers = c.pairs.invariant.answers in
    let done : length c.args.pairs.now ≤ c.pairs.pair-index = omega (arith, c.pairs-test.false) in
    record { count = c.pairs.pair-index; text = answers.bytes; routed = answers.is; puts = answers.puts; ends = λ well. done }
