use Rattle.std.proofs.Common.{◌≡◌, ◌*◌, ◌≤◌, ◌^◌, take}
use Rattle.ch_sums.specs.Numbers.{sum_at}
use Rattle.ch_sums.proofs.numbers.Numbers.along.Given as goal

abbrev pub invariant-links : goal.invariant-links
invariant-links l = record {
  sum : l.sum ≡ sum_at l.self-inside.links.items (take l.at l.links);
  small : l.sum ≤ l.at * 2 ^ 36;
}
