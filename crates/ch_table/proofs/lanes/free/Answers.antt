use Rattle.std.proofs.Common.{ℕ, ap}
use Rattle.ch_cost.specs.declared.cost.Cost.{Cost}
use Rattle.ch_cost.specs.Cost.Laws.{ZERO-is}
use Rattle.ch_query.specs.declared.seed.Seed.{Seed}
use Rattle.ch_table.proofs.lanes.free.Goals as goal

abbrev seed_with : ℕ → Cost → Seed
seed_with v d = record { node = v; cost = d }

pub returns : goal.returns
returns c = ap (seed_with c.args.node) ZERO-is
