use Rattle.std.proofs.Common.{List, None, set, subst}
use Rattle.ch_graph.specs.declared.mark.Mark.{Mark}
use Rattle.ch_graph.specs.declared.mark.Mark.TheVariants.{Settled}
use Rattle.ch_query.specs.declared.label.Label.{Label}
use Rattle.ch_query.specs.Searching.{IsOpenedOver}
use Rattle.ch_query.proofs.BestMeetings.{no_more-refl}
use Rattle.ch_query.proofs.OneTurn.{turn-fits, turn-short, searching-turn, climbing-turn, turn-climbed_on}
use Rattle.ch_query.proofs.half.Half.climb_on.Goals as goal

pub pass_over-requires-clause-fits : goal.pass_over-requires-clause-fits
pass_over-requires-clause-fits c = turn-fits c.requires.searching c.in-Some.ensures.least

pub pass_over-requires-clause-short : goal.pass_over-requires-clause-short
pass_over-requires-clause-short c = turn-short c.requires.searching c.in-Some.ensures.least

opened : (c : goal.In_ok-pass_over)
    → IsOpenedOver c.args.self.now.hierarchy.now c.args.self.now.side c.args.self.now.bound c.in-Some.reached.rank
    c.in-Some.reached.label.cost
    (set c.args.marks.now c.in-Some.reached.rank (Settled c.in-Some.reached.label)) c.pass_over.new.here
opened c =
    subst (λ (ms : List (Mark Label)). IsOpenedOver c.args.self.now.hierarchy.now c.args.self.now.side c.args.self.now.bound
    c.in-Some.reached.rank c.in-Some.reached.label.cost ms c.pass_over.new.here) c.in-Some.ensures.settled
    c.in_ok-pass_over.ensures.opened

pub returns-clause-searching : goal.returns-clause-searching
returns-clause-searching c = searching-turn c.requires.searching c.in-Some.ensures.least (opened c) c.requires.half.made

pub returns-clause-climbing : goal.returns-clause-climbing
returns-clause-climbing c =
    climbing-turn c.requires.searching c.in-Some.ensures.least (opened c) (no_more-refl None) c.requires.climbing
    c.in_ok-pass_over.ensures.passed

pub returns-clause-settled : goal.returns-clause-settled
returns-clause-settled c = turn-climbed_on c.requires.searching c.in-Some.ensures.least (opened c)
