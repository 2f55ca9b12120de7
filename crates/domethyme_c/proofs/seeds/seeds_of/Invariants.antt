use Rattle.std.proofs.Common.{◌≡◌, All, map, take}
use Rattle.ch_query.specs.Seeds.{IsSeed}
use Rattle.domethyme_c.specs.Answers.{seed_of}
use Rattle.domethyme_c.specs.declared.seeds.SeedInfo.{SeedInfo}
use Rattle.domethyme_c.proofs.seeds.seeds_of.Given as goal

abbrev pub invariant-infos : goal.invariant-infos
invariant-infos l = (l.seeds.items ≡ map seed_of (take l.info-index l.infos)) × All (λ (s : SeedInfo). IsSeed l.engine (seed_of s)) (take l.info-index l.infos)
