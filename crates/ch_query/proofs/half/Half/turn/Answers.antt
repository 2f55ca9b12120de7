use Rattle.std.proofs.Common.{List, Option, set, sym, subst, arith}
use Rattle.std.proofs.lemmas.Grind.{common_steps}
use Rattle.ch_cost.specs.declared.cost.Cost.{Cost}
use Rattle.ch_graph.specs.declared.mark.Mark.{Mark}
use Rattle.ch_graph.specs.declared.mark.Mark.TheVariants.{Settled}
use Rattle.ch_graph.specs.Marks.Laws.{label_open, open-in}
use Rattle.ch_query.specs.declared.label.Label.{Label}
use Rattle.ch_query.specs.Labels.{IsShortLimit}
use Rattle.ch_query.specs.Marks.{costs_of, IsLatest}
use Rattle.ch_query.specs.Searching.{IsOpenedOver, IsClimbing, ArePassed}
use Rattle.ch_query.specs.Meeting.{IsLooked, cost_of}
use Rattle.ch_query.proofs.BestMeetings.{looked-short, no_more-refl}
use Rattle.ch_query.proofs.OneTurn.{fits-cost, labels_fit, turn-latest, turn-fits, turn-short, searching-turn}
use Rattle.ch_query.proofs.OneTurn.{climbing-turn, best-turn}
use Rattle.ch_query.proofs.half.Half.turn.Goals as goal

pub look_at-found-requires-clause-fits : goal.look_at-found-requires-clause-fits
look_at-found-requires-clause-fits c =
    labels_fit c.requires.half.made c.requires.half.bound c.requires.searching c.in-Some.reached.rank
    c.in-Some.reached.label (label_open _ c.in-Some.reached.label c.in-Some.ensures.least.opens)

pub look_at-found-requires-clause-other_fits : goal.look_at-found-requires-clause-other_fits
look_at-found-requires-clause-other_fits c =
    fits-cost c.args.there.now c.requires.there_fits c.in-Some.reached.rank c.cost.ensures

pub pass_over-requires-clause-limit : goal.pass_over-requires-clause-limit
pass_over-requires-clause-limit c =
    subst (λ (o : Option Cost). IsShortLimit c.args.self.now.bound o) (sym c.cost_of-limit.ensures)
    (looked-short c.requires.best c.look_at-found.ensures)

pub pass_over-requires-clause-latest : goal.pass_over-requires-clause-latest
pass_over-requires-clause-latest c =
    subst (λ (ms : List (Mark Label)). IsLatest ms c.in-Some.reached.label.cost c.in-Some.reached.rank)
    (sym c.in-Some.ensures.settled)
    (turn-latest c.requires.searching c.in-Some.ensures.least c.requires.climbing)

pub pass_over-requires-clause-rank_in : goal.pass_over-requires-clause-rank_in
pass_over-requires-clause-rank_in c =
    omega (
      arith,
      open-in c.args.here.now c.in-Some.reached.rank c.in-Some.reached.label c.in-Some.ensures.least.opens,
      c.requires.searching.nodes,
    )

pub pass_over-requires-clause-fits : goal.pass_over-requires-clause-fits
pass_over-requires-clause-fits c = turn-fits c.requires.searching c.in-Some.ensures.least

pub pass_over-requires-clause-short : goal.pass_over-requires-clause-short
pass_over-requires-clause-short c = turn-short c.requires.searching c.in-Some.ensures.least

looked : (c : goal.In_ok-pass_over) → IsLooked c.args.self.now.bound c.in-Some.reached.rank c.in-Some.reached.label.cost
    (costs_of c.args.there.now c.in-Some.reached.rank) c.args.best.now c.look_at-found.result
looked c =
    subst (λ (o : Option Cost). IsLooked c.args.self.now.bound c.in-Some.reached.rank c.in-Some.reached.label.cost o
    c.args.best.now c.look_at-found.result) c.cost.ensures c.look_at-found.ensures

opened : (c : goal.In_ok-pass_over)
    → IsOpenedOver c.args.self.now.hierarchy.now c.args.self.now.side c.args.self.now.bound c.in-Some.reached.rank
    c.in-Some.reached.label.cost
    (set c.args.here.now c.in-Some.reached.rank (Settled c.in-Some.reached.label)) c.pass_over.new.here
opened c =
    subst (λ (ms : List (Mark Label)). IsOpenedOver c.args.self.now.hierarchy.now c.args.self.now.side c.args.self.now.bound
    c.in-Some.reached.rank c.in-Some.reached.label.cost ms c.pass_over.new.here) c.in-Some.ensures.settled
    c.in_ok-pass_over.ensures.opened

pub returns-clause-searching : goal.returns-clause-searching
returns-clause-searching c = searching-turn c.requires.searching c.in-Some.ensures.least (opened c) c.requires.half.made

pub returns-clause-less : goal.returns-clause-less
returns-clause-less c = (looked c).less

pub returns-clause-climbing : goal.returns-clause-climbing
returns-clause-climbing c =
    let passed = subst (λ (o : Option Cost). ArePassed c.args.self.now.hierarchy.now c.args.self.now.side
    c.args.self.now.bound c.in-Some.reached.rank c.in-Some.reached.label.cost o c.pass_over.new.here)
    c.cost_of-limit.ensures c.in_ok-pass_over.ensures.passed in
    climbing-turn c.requires.searching c.in-Some.ensures.least (opened c) (looked c).less c.requires.climbing passed

pub returns-clause-best : goal.returns-clause-best
returns-clause-best c = best-turn c.requires.searching c.in-Some.ensures.least (opened c) c.requires.best (looked c)

pub returns-in_default-clause-less : goal.returns-in_default-clause-less
returns-in_default-clause-less c = no_more-refl (cost_of c.args.best.now)

pub returns-in_default-clause-climbing : goal.returns-in_default-clause-climbing
returns-in_default-clause-climbing c =
    subst (λ (ms : List (Mark Label)). IsClimbing c.args.self.now.hierarchy.now c.args.self.now.side
    c.args.self.now.seeds.now c.args.self.now.bound (cost_of c.args.best.now) ms) (sym c.in_default.ensures.unchanged)
    c.requires.climbing

pub cost-requires : goal.cost-requires
cost-requires c = grind (arith, common_steps) steps 200000
