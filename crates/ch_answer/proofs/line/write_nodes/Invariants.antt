use Rattle.std.proofs.Common.{◌≡◌, ◌*◌, ◌≤◌, length, drop}
use Rattle.ch_answer.specs.Line.{named}
use Rattle.ch_answer.proofs.line.write_nodes.Given as goal

abbrev pub invariant-nodes : goal.invariant-nodes
invariant-nodes l = record {
  within : l.left ≤ length l.nodes;
  room : 11 * l.left ≤ l.at;
  size : length l.text ≡ 352;
  end : l.at ≤ 352;
  written : drop l.at l.text ≡ named (drop l.left l.nodes);
}

abbrev pub decreases-nodes : goal.decreases-nodes
decreases-nodes l = l.left
