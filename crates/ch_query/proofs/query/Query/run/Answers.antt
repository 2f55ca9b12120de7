use Rattle.std.proofs.Common.{◌≡◌, ◌+◌, ◌≤◌, arith}
use Rattle.ch_graph.specs.Marks.{settled_count}
use Rattle.ch_graph.specs.Marks.Laws.{count-most}
use Rattle.ch_query.specs.declared.side.Side.TheVariants.{Rise, Fall}
use Rattle.ch_query.specs.Marks.{costs_of, IsStopped}
use Rattle.ch_query.specs.Meeting.{IsBestMeeting, cost_of}
use Rattle.ch_query.proofs.StoppedSides.{answered, meeting_of}
use Rattle.ch_query.proofs.BestMeetings.{best-flip, best-stopped}
use Rattle.ch_query.proofs.OneTurn.{labels_fit, climbing-less}
use Rattle.ch_query.proofs.BeginAndStop.{searching-begun, climbing-begun, best-begun, turned-count, not-turned, both-stopped, neither, either-one, one_if}
use Rattle.ch_query.proofs.query.Query.run.Goals as goal

pub turns-init : goal.turns-init
turns-init c =
    record {
      rises = searching-begun Rise c.requires.query.starts c.in_ok-begin.ensures.begun;
      falls = searching-begun Fall c.requires.query.ends c.in_ok-begin-2.ensures.begun;
      up_climbing = climbing-begun Rise c.requires.query.starts c.in_ok-begin.ensures.begun;
      down_climbing = climbing-begun Fall c.requires.query.ends c.in_ok-begin-2.ensures.begun;
      best = best-begun Rise c.requires.query.starts c.in_ok-begin.ensures.begun;
    }

pub turn-requires-clause-there_fits : goal.turn-requires-clause-there_fits
turn-requires-clause-there_fits c = labels_fit c.requires.query.made c.requires.query.bound c.turns.invariant.falls

pub turn-requires-in-turns-clause-there_fits : goal.turn-requires-in-turns-clause-there_fits
turn-requires-in-turns-clause-there_fits c = labels_fit c.requires.query.made c.requires.query.bound c.in_ok-rose.ensures.searching

pub turn-requires-in-turns-clause-best : goal.turn-requires-in-turns-clause-best
turn-requires-in-turns-clause-best c = best-flip c.in_ok-rose.ensures.best

pub turn-requires-in-turns-clause-climbing : goal.turn-requires-in-turns-clause-climbing
turn-requires-in-turns-clause-climbing c = climbing-less c.in_ok-rose.ensures.less c.turns.invariant.down_climbing

stopped : (c : goal.Then-not-goes_on) → IsStopped c.turn.new.here (cost_of c.turn-in-turns.new.best) × IsStopped c.turn-in-turns.new.here (cost_of c.turn-in-turns.new.best)
stopped c =
    let both = neither c.if-not-goes_on.true in
    let rose = not-turned both.0 c.in_ok-rose.ensures.turned in
    let fell = not-turned both.1 c.in_ok-fell.ensures.turned in
    both-stopped rose fell

best : (c : goal.Then-not-goes_on) → IsBestMeeting c.args.self.now.bound (costs_of c.turn.new.here) (costs_of c.turn-in-turns.new.here) c.turn-in-turns.new.best
best c =
    let both = stopped c in
    best-stopped c.args.self.now.bound c.turn.new.here c.turn-in-turns.new.here (best-flip c.in_ok-fell.ensures.best) both.0 both.1

pub returns-then-not-goes_on-clause-value : goal.returns-then-not-goes_on-clause-value
returns-then-not-goes_on-clause-value c =
    let both = stopped c in
    let rising = climbing-less c.in_ok-fell.ensures.less c.in_ok-rose.ensures.climbing in
    answered c.requires.query.made c.requires.query.starts c.requires.query.ends c.turn.new.here c.turn-in-turns.new.here
    c.turn-in-turns.new.best rising c.in_ok-fell.ensures.climbing both.0 both.1 (best c)

pub returns-then-not-goes_on-clause-met : goal.returns-then-not-goes_on-clause-met
returns-then-not-goes_on-clause-met c =
    meeting_of c.in_ok-rose.ensures.searching c.in_ok-fell.ensures.searching c.turn-in-turns.new.best (best c)

pub turns-smaller : goal.turns-smaller
turns-smaller c =
    let one : 1 ≤ one_if c.in_ok-rose.rose + one_if c.in_ok-fell.fell = either-one c.in_ok-rose.rose c.in_ok-fell.fell c.if-not-goes_on.false in
    let up : settled_count c.turn.new.here ≡ settled_count c.turns.up + one_if c.in_ok-rose.rose = turned-count c.in_ok-rose.rose c.turns.up c.turn.new.here (cost_of c.turns.best) (cost_of c.turn.new.best) c.in_ok-rose.ensures.turned in
    let down : settled_count c.turn-in-turns.new.here ≡ settled_count c.turns.down + one_if c.in_ok-fell.fell = turned-count c.in_ok-fell.fell c.turns.down c.turn-in-turns.new.here (cost_of c.turn.new.best) (cost_of c.turn-in-turns.new.best) c.in_ok-fell.ensures.turned in
    omega (arith, one, up, down, count-most c.turn.new.here, count-most c.turn-in-turns.new.here, c.in_ok-rose.ensures.searching.nodes, c.in_ok-fell.ensures.searching.nodes)

pub turns-preserved : goal.turns-preserved
turns-preserved c = record {
  rises = c.in_ok-rose.ensures.searching;
  falls = c.in_ok-fell.ensures.searching;
  up_climbing = climbing-less c.in_ok-fell.ensures.less c.in_ok-rose.ensures.climbing;
  down_climbing = c.in_ok-fell.ensures.climbing;
  best = best-flip c.in_ok-fell.ensures.best;
}
