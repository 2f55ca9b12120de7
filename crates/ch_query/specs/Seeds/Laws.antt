-- Seeds as callers make them: one by one, and in a list.
use Rattle.std.proofs.Common.{ℕ, ◌<◌, ◌^◌, List, [], ◌∷◌, length, arith}
use Rattle.std.proofs.lemmas.List.Elements.{All-nil, All-cons}
use Rattle.ch_cost.specs.Cost.{zero_cost, of_weight}
use Rattle.ch_cost.specs.Cost.Laws.{length_of-zero_cost, arcs_of-zero_cost, length_of-of_weight, arcs_of-of_weight}
use Rattle.ch_graph.specs.Hierarchy.{Hierarchy}
use Rattle.ch_query.specs.declared.seed.Seed.{Seed}
use Rattle.ch_query.specs.Seeds.{IsSeed, AreSeeds}

-- a node at no cost
pub seed-node : (h : Hierarchy) (v : ℕ) → v < length h.ranks → IsSeed h (record { node = v; cost = zero_cost })
seed-node h v low = record { node_in = low; length = omega (arith, length_of-zero_cost); arcs = omega (arith, arcs_of-zero_cost) }

-- a node at the cost of an arc, or of a part of one
pub seed-arc : (h : Hierarchy) (v w : ℕ) → v < length h.ranks → w < 2 ^ 32 → IsSeed h (record { node = v; cost = of_weight w })
seed-arc h v w low fits = record { node_in = low; length = omega (arith, length_of-of_weight w, fits); arcs = omega (arith, arcs_of-of_weight w) }

-- none, and one more before others
pub seeds-none : (h : Hierarchy) → AreSeeds h []
seeds-none h = All-nil (IsSeed h)

pub seeds-cons : (h : Hierarchy) (seed : Seed) (seeds : List Seed) → IsSeed h seed → AreSeeds h seeds → AreSeeds h (seed ∷ seeds)
seeds-cons h seed seeds first rest = All-cons (IsSeed h) seed seeds first rest
