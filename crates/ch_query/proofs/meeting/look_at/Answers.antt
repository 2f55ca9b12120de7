use Rattle.std.proofs.Common.{Option, subst}
use Rattle.std.proofs.lemmas.Bool.{iff_false}
use Rattle.ch_cost.specs.declared.cost.Cost.{Cost}
use Rattle.ch_query.specs.Marks.{IsBelow}
use Rattle.ch_query.proofs.BestMeetings.{looked-skips, looked-less, looked-stays}
use Rattle.ch_query.proofs.meeting.look_at.Goals as goal

pub returns-in_default : goal.returns-in_default
returns-in_default c = looked-skips c.in_default.ensures

pub returns-then-is_below : goal.returns-then-is_below
returns-then-is_below c = looked-less c.in-Some.ensures (subst (λ (o : Option Cost). IsBelow c.in-Some.sum o) c.cost_of.ensures (c.is_below.ensures.0 c.if-is_below.true))

pub returns : goal.returns
returns c = looked-stays c.in-Some.ensures (subst (λ (o : Option Cost). IsBelow c.in-Some.sum o → ⊥) c.cost_of.ensures (iff_false c.is_below.ensures c.if-is_below.false))
