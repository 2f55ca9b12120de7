use Rattle.std.proofs.Common.{List, Option, IfNone, IfSome, sym, subst, arith}
use Rattle.ch_graph.specs.Marks.Laws.{count-most}
use Rattle.ch_query.specs.declared.climb.Climbed.{Climbed}
use Rattle.ch_query.specs.declared.frontier.Reached.{Reached}
use Rattle.ch_query.specs.Climbing.{IsClimbedOn, IsEnd, AreListed}
use Rattle.ch_query.proofs.BeginAndStop.{searching-begun, climbing-begun}
use Rattle.ch_query.proofs.ListedClimbs.{listed-none, listed-more, climbs-listed}
use Rattle.ch_query.proofs.half.Half.climb.Goals as goal

pub turns-init : goal.turns-init
turns-init c =
    record {
      searching = searching-begun c.args.self.now.side c.requires.half.seeds c.in_ok-begin.ensures.begun;
      climbing = climbing-begun c.args.self.now.side c.requires.half.seeds c.in_ok-begin.ensures.begun;
      listed = listed-none c.clear.ensures.items c.in_ok-begin.ensures.begun.none;
    }

pub returns-in-None-clause-climbs : goal.returns-in-None-clause-climbs
returns-in-None-clause-climbs c =
    let end : IsEnd c.turns.marks c.climb_on.new.marks = subst (λ (o : Option Reached). IfNone o (IsEnd c.turns.marks c.climb_on.new.marks)) c.in-None.is c.in_ok-reached.ensures.end in
    climbs-listed c.in_ok-reached.ensures.searching c.in_ok-reached.ensures.climbing end.none
    (subst (λ ms. AreListed ms c.turns.climbs.items) (sym end.same) c.turns.invariant.listed)

pub returns-in-None-clause-listed : goal.returns-in-None-clause-listed
returns-in-None-clause-listed c =
    let end : IsEnd c.turns.marks c.climb_on.new.marks = subst (λ (o : Option Reached). IfNone o (IsEnd c.turns.marks c.climb_on.new.marks)) c.in-None.is c.in_ok-reached.ensures.end in
    subst (λ ms. AreListed ms c.turns.climbs.items) (sym end.same) c.turns.invariant.listed

turned : (c : goal.In_ok-push-in-Some) → IsClimbedOn c.in-Some.reached.rank c.in-Some.reached.label c.turns.marks c.climb_on.new.marks
turned c = subst (λ (o : Option Reached). IfSome o (λ (r : Reached). IsClimbedOn r.rank r.label c.turns.marks c.climb_on.new.marks)) c.in-Some.is c.in_ok-reached.ensures.settled

pub turns-smaller : goal.turns-smaller
turns-smaller c = omega (arith, (turned c).count, count-most c.climb_on.new.marks, c.in_ok-reached.ensures.searching.nodes)

pub turns-preserved : goal.turns-preserved
turns-preserved c =
    record {
      searching = c.in_ok-reached.ensures.searching;
      climbing = c.in_ok-reached.ensures.climbing;
      listed = subst (λ (cs : List Climbed). AreListed c.climb_on.new.marks cs) (sym c.in_ok-push-in-Some.ensures.items)
          (listed-more c.in_ok-reached.ensures.searching (turned c) c.length-length.ensures c.turns.invariant.listed);
    }
