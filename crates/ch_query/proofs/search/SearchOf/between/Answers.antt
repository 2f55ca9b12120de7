use Rattle.std.proofs.Common.{Option}
use Rattle.std.proofs.lemmas.Result.{IfOk-weaker}
use Rattle.ch_query.specs.declared.search.FoundBetween.{FoundBetween}
use Rattle.ch_query.specs.Seeds.{IsValueBetween}
use Rattle.ch_query.proofs.LeastOfPairs.{longest_summable, cost_found, IsExact, exact_here, least_here}
use Rattle.ch_query.proofs.BothOk.{if_ok-both}
use Rattle.ch_query.proofs.search.SearchOf.between.Goals as goal

pub least_walk-requires-clause-bound : goal.least_walk-requires-clause-bound
least_walk-requires-clause-bound g c = longest_summable c.of_walk-bound.ensures

pub returns-clause-exact : goal.returns-clause-exact
returns-clause-exact g c =
    let h = c.args.self.now in
    let starts = c.args.starts.now in
    let ends = c.args.ends.now in
    IfOk-weaker c.least_walk.result
    (λ (found : Option FoundBetween). IsValueBetween h starts ends c.of_walk-bound.result (cost_found found))
    (λ (found : Option FoundBetween). IsExact h starts ends (cost_found found))
    (λ found. exact_here c.least_walk.ensures.made starts ends c.requires.starts c.requires.ends c.of_walk-bound.ensures (cost_found found))
    c.least_walk.ensures.value

pub returns-clause-walk : goal.returns-clause-walk
returns-clause-walk g c =
    let starts = c.args.starts.now in
    let ends = c.args.ends.now in
    if_ok-both c.least_walk.result
    (least_here c.least_walk.ensures.made starts ends c.requires.starts c.requires.ends c.of_walk-bound.ensures)
    c.least_walk.ensures.value c.least_walk.ensures.walk
