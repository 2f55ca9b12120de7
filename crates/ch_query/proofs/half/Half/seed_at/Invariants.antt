use Rattle.std.proofs.Common.{◌-◌, length}
use Rattle.ch_query.proofs.SeedPlaces.{IsSeedAhead}
use Rattle.ch_query.proofs.half.Half.seed_at.Given as goal

abbrev pub invariant-seeds : goal.invariant-seeds
invariant-seeds l = IsSeedAhead l.self.hierarchy.now l.self.seeds.now l.rank l.cost l.place

abbrev pub decreases-seeds : goal.decreases-seeds
decreases-seeds l = length l.self.seeds.now - l.place
