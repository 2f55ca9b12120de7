-- Numbers of links, and what they sum to along walks.
use Rattle.std.specs.Prelude.{ℕ, ◌≡◌, ◌≢◌, ◌+◌, ◌*◌, ◌^◌, ◌<◌, ◌≤◌, List, length, slice_index, All, Contains}
use Rattle.ch_cost.specs.Cost.{length_of}
use Rattle.ch_graph.specs.declared.mark.Mark.{Mark}
use Rattle.ch_graph.specs.declared.mark.Mark.TheVariants.{Settled}
use Rattle.ch_graph.specs.Hierarchy.{Hierarchy, rank_of}
use Rattle.ch_graph.specs.Marks.{mark, HasLabel}
use Rattle.ch_query.specs.declared.climb.Climbed.{Climbed}
use Rattle.ch_query.specs.declared.label.Label.{Label}
use Rattle.ch_query.specs.declared.seed.Seed.{Seed}
use Rattle.ch_query.specs.Climb.{cost_at}
use Rattle.ch_query.specs.Places.{link_at}

-- a number for each link, of at most 2^36
pub record HaveNumbers (h : Hierarchy) (numbers : List ℕ) : Type 0 where
  pub count : length numbers ≡ length h.links
  pub small : All (λ x. x ≤ 2 ^ 36) numbers

-- Links lead from one of the starts to the rank r. With the start they are n long, and their numbers sum to m.
pub data IsSummedWay (h : Hierarchy) (numbers : List ℕ) (starts : List Seed) : ℕ → ℕ → ℕ → Type 0 where
  begin : (seed : Seed) → Contains starts seed → IsSummedWay h numbers starts (rank_of h seed.node) (length_of seed.cost) 0
  over : {q n m : ℕ} (k : ℕ) → k < length h.links → rank_of h (link_at h k).from ≡ q → IsSummedWay h numbers starts q n m
      → IsSummedWay h numbers starts (rank_of h (link_at h k).to) (n + length_of (cost_at h k)) (m + slice_index numbers k)

-- The number that is kept for a rank is what those of links to it sum to. Each link leads up, so they are no more than
-- ranks.
pub record IsSumAt (h : Hierarchy) (numbers : List ℕ) (starts : List Seed) (sums : List ℕ) (r n : ℕ) : Type 0 where
  pub way : IsSummedWay h numbers starts r n (slice_index sums r)
  pub small : slice_index sums r ≤ r * 2 ^ 36

-- so it is along each climb of a list
abbrev pub AreSumsOf : Hierarchy → List ℕ → List Seed → List ℕ → List Climbed → Type 0
AreSumsOf h numbers starts sums climbs = All (λ (c : Climbed). IsSumAt h numbers starts sums c.rank c.length) climbs

-- and for the rank from which a climb came to the rank r
abbrev pub IsFootSummed : Hierarchy → List ℕ → List Seed → List (Mark Label) → List ℕ → ℕ → Type 0
IsFootSummed h numbers starts marks sums r =
    (e f : Label) → HasLabel (mark marks r) e → e.foot ≢ r → mark marks e.foot ≡ Settled f → IsSumAt h numbers starts sums e.foot (length_of f.cost)

-- a climb to the rank r has this sum
abbrev pub IsClimbSum : Hierarchy → List ℕ → List Seed → List (Mark Label) → ℕ → ℕ → Type 0
IsClimbSum h numbers starts marks r m = (e : Label) → HasLabel (mark marks r) e → IsSummedWay h numbers starts r (length_of e.cost) m × (m ≤ r * 2 ^ 36)
