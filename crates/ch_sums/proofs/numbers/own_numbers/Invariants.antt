use Rattle.std.proofs.Common.{◌≡◌, take}
use Rattle.ch_sums.specs.Numbers.{count_arcs}
use Rattle.ch_sums.specs.Order.{AreOwn}
use Rattle.ch_sums.proofs.numbers.own_numbers.Given as goal

abbrev pub invariant-links : goal.invariant-links
invariant-links l = record {
  own : AreOwn l.hierarchy l.given l.at l.numbers.items;
  next : l.next ≡ count_arcs (take l.at l.links);
}
