use Rattle.std.proofs.Common.{◌↔◌, IsTrue, Option, subst, sym}
use Rattle.ch_cost.specs.declared.cost.Cost.{Cost}
use Rattle.ch_query.specs.Labels.{CountsBelow}
use Rattle.ch_query.proofs.FollowedLinks.{counts-below, counts-short}
use Rattle.ch_query.proofs.limit.counts.Goals as goal

pub returns-in-Some : goal.returns-in-Some
returns-in-Some c =
    let same = counts-below c.args.sum (c.requires c.in-Some.limit c.in-Some.is) in
    subst (λ (o : Option Cost). IsTrue c.is_below.result ↔ CountsBelow c.args.bound o c.args.sum) (sym c.in-Some.is) (λ t. same.0 (c.is_below.ensures.0 t), λ counts. c.is_below.ensures.1 (same.1 counts))

pub returns-in-None : goal.returns-in-None
returns-in-None c =
    let same = counts-short c.args.bound c.args.sum in
    subst (λ (o : Option Cost). IsTrue c.is_short.result ↔ CountsBelow c.args.bound o c.args.sum) (sym c.in-None.is) (λ t. same.0 (c.is_short.ensures.0 t), λ counts. c.is_short.ensures.1 (same.1 counts))
