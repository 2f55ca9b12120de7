use Rattle.std.proofs.Common.{◌≡◌, ◌-◌, ◌≤◌, ◌++◌, length, take, drop}
use Rattle.ch_service.specs.Answer.{graph_part, pairs_part}
use Rattle.ch_service.proofs.joined.parts.Given as goal

abbrev pub invariant-loop-start : goal.invariant-loop-start
invariant-loop-start l = record {
  within : l.start ≤ length l.input;
  graph : graph_part l.input ≡ take l.start l.input ++ graph_part (drop l.start l.input);
  pairs : pairs_part l.input ≡ pairs_part (drop l.start l.input);
}

abbrev pub decreases-loop-start : goal.decreases-loop-start
decreases-loop-start l = length l.input - l.start
