use Rattle.std.proofs.Common.{Option, Some, IfSome, sym, subst}
use Rattle.ch_cost.specs.declared.cost.Cost.{Cost}
use Rattle.ch_query.specs.declared.meeting.Meeting.{Meeting}
use Rattle.ch_query.specs.Meeting.{IsMeetingOf, cost_of}
use Rattle.ch_query.specs.Seeds.{IsValueBetween}
use Rattle.ch_query.proofs.query.Query.found.Goals as goal

pub returns-in_default-clause-value : goal.returns-in_default-clause-value
returns-in_default-clause-value c =
    let query = c.args.self.now in
    subst (λ (o : Option Meeting). IsValueBetween query.hierarchy.now query.starts.now query.ends.now query.bound (cost_of o)) c.in_default.is c.in_ok-best.ensures.value

pub walk-requires-clause-met : goal.walk-requires-clause-met
walk-requires-clause-met c =
    let query = c.args.self.now in
    subst (λ (o : Option Meeting). IfSome o (IsMeetingOf query.hierarchy.now query.starts.now query.ends.now query.bound c.run.new.up c.run.new.down)) c.in-Some.is c.in_ok-best.ensures.met

pub returns-clause-value : goal.returns-clause-value
returns-clause-value c =
    let query = c.args.self.now in
    let met : IsValueBetween query.hierarchy.now query.starts.now query.ends.now query.bound (Some c.in-Some.meeting.cost) =
    subst (λ (o : Option Meeting). IsValueBetween query.hierarchy.now query.starts.now query.ends.now query.bound (cost_of o)) c.in-Some.is c.in_ok-best.ensures.value in
    subst (λ (d : Cost). IsValueBetween query.hierarchy.now query.starts.now query.ends.now query.bound (Some d)) (sym c.in_ok-found.ensures.cost) met
