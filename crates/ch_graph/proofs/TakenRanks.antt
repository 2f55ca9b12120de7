-- Marks of the numbers that have come as ranks.
use Rattle.std.proofs.Common.{ℕ, ◌≡◌, ◌≢◌, ◌<◌, List, length, slice_index, get_or, Bool, true, false, All, AllPairs, sym, subst, ◌∙◌, arith}
use Rattle.std.proofs.lemmas.Grind.{get_or_default_zero}
use Rattle.ch_graph.specs.Checking.{IsNewRank}

-- the marks say of each number whether it is one of the ranks before a place
pub record AreTaken (ranks : List ℕ) (place : ℕ) (marks : List Bool) : Type 0 where
  pub free : (r : ℕ) → get_or marks r false ≡ false → (k : ℕ) → k < place → slice_index ranks k ≢ r
  pub had : (r : ℕ) → get_or marks r false ≡ true → (k : ℕ) × (k < place) × (slice_index ranks k ≡ r)

-- Ranks that are all new are in range and occur once

pub ranks_in_range : (ranks : List ℕ) → ((k : ℕ) → k < length ranks → IsNewRank ranks k) → All (λ r. r < length ranks) ranks
ranks_in_range ranks new k d h = subst (λ r. r < length ranks) (sym (get_or_default_zero ranks k d h)) (new k h).in_range

pub ranks_once : (ranks : List ℕ) → ((k : ℕ) → k < length ranks → IsNewRank ranks k) → AllPairs (λ q r. q ≢ r) ranks
ranks_once ranks new i j d less within same =
    let first : get_or ranks i d ≡ get_or ranks i 0 = get_or_default_zero ranks i d (omega arith) in
    let second : get_or ranks j d ≡ get_or ranks j 0 = get_or_default_zero ranks j d within in
    (new j within).new i less (sym first ∙ (same ∙ second))
