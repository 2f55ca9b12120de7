use Rattle.std.proofs.Common.{◌≡◌, ◌++◌, map, take}
use Rattle.ch_query.specs.declared.fall.Fall.{Fall}
use Rattle.ch_table.proofs.steps.Steps+u64.lay.Given as goal

abbrev pub invariant-falls : goal.invariant-falls
invariant-falls l = record {
  tails : l.self.tails.items ≡ l.initial.self.tails.items ++ map (λ (f : Fall). f.tail) (take l.fall-index l.falls);
  lengths : l.self.lengths.items ≡ l.initial.self.lengths.items ++ map (λ (f : Fall). f.length) (take l.fall-index l.falls);
  first : l.self.first.items ≡ l.initial.self.first.items;
}
