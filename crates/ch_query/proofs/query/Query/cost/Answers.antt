use Rattle.std.proofs.Common.{Option, sym, subst}
use Rattle.ch_cost.specs.declared.cost.Cost.{Cost}
use Rattle.ch_query.specs.Seeds.{IsValueBetween}
use Rattle.ch_query.proofs.query.Query.cost.Goals as goal

pub returns-clause-value : goal.returns-clause-value
returns-clause-value c =
    let query = c.args.self.now in
    subst (λ (o : Option Cost). IsValueBetween query.hierarchy.now query.starts.now query.ends.now query.bound o) (sym c.cost_of.ensures) c.in_ok-best.ensures.value
