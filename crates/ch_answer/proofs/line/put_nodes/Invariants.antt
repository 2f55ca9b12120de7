use Rattle.std.proofs.Common.{◌-◌, ◌≤◌, take, length}
use Rattle.counted_io.specs.Sinks.{Puts}
use Rattle.ch_answer.specs.Line.{named}
use Rattle.ch_answer.proofs.line.put_nodes.Given as goal

abbrev pub invariant-pieces : goal.invariant-pieces
invariant-pieces g l = record {
  within : l.at ≤ length l.nodes;
  puts : Puts g.W.StepWrite.step g.W.Write.contents l.fn.sink l.sink l.fn.out l.out (named (take l.at l.nodes));
}

abbrev pub decreases-pieces : goal.decreases-pieces
decreases-pieces g l = length l.nodes - l.at
