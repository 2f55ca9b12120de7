use Rattle.std.proofs.Common.{◌≡◌, ◌≤◌, take}
use Rattle.ch_sums.specs.Numbers.{count_arcs}
use Rattle.ch_sums.proofs.numbers.count_arcs.Given as goal

abbrev pub invariant-links : goal.invariant-links
invariant-links l = record {
  count : l.count ≡ count_arcs (take l.at l.links);
  few : l.count ≤ l.at;
}
