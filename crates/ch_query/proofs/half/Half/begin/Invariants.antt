use Rattle.ch_query.specs.Beginning.{IsBegun}
use Rattle.ch_query.proofs.half.Half.begin.Given as goal

abbrev pub invariant-seeds : goal.invariant-seeds
invariant-seeds l = IsBegun l.self.hierarchy.now l.self.seeds.now l.self.bound l.at l.marks
