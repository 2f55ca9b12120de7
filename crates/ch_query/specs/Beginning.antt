-- A side of a query begins at its seeds, one after the other.
use Rattle.std.specs.Prelude.{ℕ, ◌≡◌, ◌<◌, ◌⊎◌, List, length, slice_set, Some, slice_get}
use Rattle.ch_cost.specs.declared.cost.Cost.{Cost}
use Rattle.ch_cost.specs.Cost.{IsNoLonger}
use Rattle.ch_graph.specs.declared.mark.Mark.{Mark}
use Rattle.ch_graph.specs.declared.mark.Mark.TheVariants.{Open, Settled}
use Rattle.ch_graph.specs.Hierarchy.{Hierarchy, rank_of}
use Rattle.ch_graph.specs.Marks.{mark, HasLabel, IsAtMost, Improves}
use Rattle.ch_query.specs.declared.label.Label.{Label}
use Rattle.ch_query.specs.declared.seed.Seed.{Seed}
use Rattle.ch_query.specs.Marks.{label_cost}
use Rattle.ch_query.specs.Searching.{IsOfSeed}

-- no node is settled
abbrev pub NoneSettled : List (Mark Label) → Type 0
NoneSettled marks = (r : ℕ) (e : Label) → mark marks r ≡ Settled e → ⊥

-- a seed at the rank r was opened: the node is opened with its cost where that is short and improves on what is known,
-- and else nothing changes
abbrev pub IsPlanted : Cost → ℕ → Cost → List (Mark Label) → List (Mark Label) → Type 0
IsPlanted bound r c old new =
    (IsNoLonger c bound × Improves label_cost c (mark old r) × (new ≡ slice_set old r (Open (record { cost = c; foot = r }))))
    ⊎ ((IsNoLonger c bound → IsAtMost label_cost (mark old r) c) × (new ≡ old))

-- The first n seeds are opened: each label is that of a short seed, and where a short one is, the label is no more.
pub record IsBegun (h : Hierarchy) (seeds : List Seed) (bound : Cost) (n : ℕ) (marks : List (Mark Label)) : Type 0 where
  pub nodes : length marks ≡ length h.ranks
  pub none : NoneSettled marks
  pub of_seed : (r : ℕ) (e : Label) → HasLabel (mark marks r) e → IsOfSeed h seeds r e
  pub short : (r : ℕ) (e : Label) → HasLabel (mark marks r) e → IsNoLonger e.cost bound
  pub seeded : (k : ℕ) (seed : Seed) → k < n → slice_get seeds k ≡ Some seed → IsNoLonger seed.cost bound → IsAtMost label_cost (mark marks (rank_of h seed.node)) seed.cost
