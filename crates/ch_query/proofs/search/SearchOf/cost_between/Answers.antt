use Rattle.std.proofs.lemmas.Result.{IfOk-weaker}
use Rattle.ch_query.specs.Seeds.{IsValueBetween}
use Rattle.ch_query.proofs.LeastOfPairs.{longest_summable, IsExact, exact_here}
use Rattle.ch_query.proofs.search.SearchOf.cost_between.Goals as goal

pub least_cost-requires-clause-bound : goal.least_cost-requires-clause-bound
least_cost-requires-clause-bound g c = longest_summable c.of_walk-bound.ensures

pub returns-clause-exact : goal.returns-clause-exact
returns-clause-exact g c =
    let h = c.args.self.now in
    let starts = c.args.starts.now in
    let ends = c.args.ends.now in
    IfOk-weaker c.least_cost.result
    (IsValueBetween h starts ends c.of_walk-bound.result)
    (IsExact h starts ends)
    (exact_here c.least_cost.ensures.made starts ends c.requires.starts c.requires.ends c.of_walk-bound.ensures)
    c.least_cost.ensures.value
