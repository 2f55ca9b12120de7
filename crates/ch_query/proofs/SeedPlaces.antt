-- Seeds by their places in a list.
use Rattle.std.proofs.Common.{ℕ, ◌≡◌, ◌≤◌, List, Option, Some, Contains, slice_get, ap, sym, ◌∙◌, arith}
use Rattle.std.proofs.lemmas.List.Elements.{All-contains}
use Rattle.std.proofs.lemmas.Option.{slice_get-get_or, slice_get_within, get_or_from_slice_get}
use Rattle.ch_cost.specs.declared.cost.Cost.{Cost}
use Rattle.ch_graph.specs.Hierarchy.{Hierarchy, rank_of}
use Rattle.ch_query.specs.declared.seed.Seed.{Seed}
use Rattle.ch_query.specs.Seeds.{IsSeed, AreSeeds, IsSeedAt}

pub among-from_get : (seeds : List Seed) (k : ℕ) {seed : Seed} → slice_get seeds k ≡ Some seed → Contains seeds seed
among-from_get seeds k {seed} is = (k, slice_get_within seeds k seed is, get_or_from_slice_get seeds k seed seed is)

pub get-from_among : (seeds : List Seed) {seed : Seed} → (among : Contains seeds seed) → slice_get seeds among.0 ≡ Some seed
get-from_among seeds {seed} among = slice_get-get_or seeds among.0 seed among.1 ∙ ap (λ (s : Seed). Some s) among.2

pub seed-in : {h : Hierarchy} (seeds : List Seed) {seed : Seed} → AreSeeds h seeds → Contains seeds seed → IsSeed h seed
seed-in {h} seeds {seed} all among = All-contains (IsSeed h) seeds seed all among

-- a seed is at the node of a rank and costs this
abbrev pub IsThere : Hierarchy → ℕ → Option Cost → Seed → Type 0
IsThere h rank cost seed = (rank_of h seed.node ≡ rank) × (cost ≡ Some seed.cost)

-- at this place, or after it, is one that is
pub record IsSeedAhead (h : Hierarchy) (seeds : List Seed) (rank : ℕ) (cost : Option Cost) (place : ℕ) : Type 0 where
  pub at : ℕ
  pub still : place ≤ at
  pub seed : Seed
  pub is : slice_get seeds at ≡ Some seed
  pub there : IsThere h rank cost seed

pub seed_ahead-first : {h : Hierarchy} {seeds : List Seed} {rank : ℕ} {c : Cost} {cost : Option Cost} → cost ≡ Some c → IsSeedAt h seeds rank c → IsSeedAhead h seeds rank cost 0
seed_ahead-first {seeds} is one = record {
  at = one.among.0;
  still = omega arith;
  seed = one.seed;
  is = get-from_among seeds one.among;
  there = (one.rank, is ∙ ap (λ (d : Cost). Some d) (sym one.cost));
}
