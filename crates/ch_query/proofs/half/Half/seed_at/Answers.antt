use Rattle.ch_query.proofs.SeedPlaces.{seed_ahead-first}
use Rattle.ch_query.proofs.half.Half.seed_at.Goals as goal

pub seeds-init : goal.seeds-init
seeds-init c = seed_ahead-first c.requires.one.1 c.requires.one.2
