-- A selection as it is made: ranks are marked, listed and laid down with the links that fall to them, and then get places.
use Rattle.std.specs.Prelude.{ℕ, ◌≡◌, ◌+◌, ◌-◌, ◌<◌, ◌≤◌, List, ◌∷◌, [], ◌++◌, length, map, slice_index, slice_index_or, All, AllPairs, Contains}
use Rattle.ch_graph.specs.Hierarchy.{Hierarchy, rank_of}
use Rattle.ch_query.specs.declared.fall.Fall.{Fall}
use Rattle.ch_query.specs.Ways.{AreFallsTo}
use Rattle.ch_table.specs.Selection.{AreRanksAbove}

-- a rank is marked
abbrev pub IsMarked : List ℕ → ℕ → Type 0
IsMarked marks r = (d : ℕ) → slice_index_or marks r d ≡ 1

-- these marks are kept, and the tails of the falls are marked
pub record AreMarkedWith (falls : List Fall) (old new : List ℕ) : Type 0 where
  pub count : length new ≡ length old
  pub kept : (r : ℕ) → r < length old → IsMarked old r → IsMarked new r
  pub below : (n r : ℕ) → All (λ (f : Fall). n ≤ f.tail) falls → r < n → r < length old → IsMarked new r → IsMarked old r
  pub tails : All (λ (f : Fall). IsMarked new f.tail) falls

-- The ranks below this one are dealt with: those of them that are marked are listed, and all that links to these leave is marked.
pub record AreListedTo (h : Hierarchy) (targets marks ranks tails : List ℕ) (low : ℕ) : Type 0 where
  pub nodes : length marks ≡ length h.ranks
  pub few : length ranks ≤ low
  pub rising : AllPairs ◌<◌ ranks
  pub below : All (λ r. r < low) ranks
  pub ends : All (λ t. IsMarked marks (rank_of h t)) targets
  pub listed : (r : ℕ) → r < low → IsMarked marks r → Contains ranks r
  pub left : All (IsMarked marks) tails

-- a link as it is laid down: the rank that it leaves, and its length
pub record IsAlong (tails lengths : List ℕ) (at : ℕ) (fall : Fall) : Type 0 where
  pub tail : slice_index tails at ≡ fall.tail
  pub long : slice_index lengths at ≡ fall.length

-- the links that fall to the rank at a place lie where its links begin
pub record IsDown (h : Hierarchy) (ranks first tails lengths : List ℕ) (p : ℕ) : Type 0 where
  pub falls : List Fall
  pub are : AreFallsTo h (slice_index ranks p) falls
  pub next : slice_index first (p + 1) ≡ slice_index first p + length falls
  pub within : slice_index first (p + 1) ≤ length tails
  pub each : (i : ℕ) (d : Fall) → i < length falls → IsAlong tails lengths (slice_index first p + i) (slice_index_or falls i d)

-- the links of all ranks that are listed are laid down
pub record AreDown (h : Hierarchy) (ranks first tails lengths : List ℕ) : Type 0 where
  pub count : length first ≡ length ranks + 1
  pub last : slice_index first (length ranks) ≡ length tails
  pub even : length lengths ≡ length tails
  pub down : (p : ℕ) → p < length ranks → IsDown h ranks first tails lengths p

-- one more rank is: its links are the falls
pub record IsLaidMore (falls : List Fall) (first tails lengths new_first new_tails new_lengths : List ℕ) : Type 0 where
  pub more_tails : new_tails ≡ tails ++ map (λ (f : Fall). f.tail) falls
  pub more_lengths : new_lengths ≡ lengths ++ map (λ (f : Fall). f.length) falls
  pub more_first : new_first ≡ first ++ length new_tails ∷ []

-- the ranks above all targets, each with its links, which leave none but these
pub record AreAllDown (h : Hierarchy) (targets ranks first tails lengths : List ℕ) : Type 0 where
  pub above : AreRanksAbove h targets ranks
  pub down : AreDown h ranks first tails lengths
  pub closed : All (Contains ranks) tails

-- each rank that a link leaves is changed for its place
pub record ArePlacesOf (places old new : List ℕ) : Type 0 where
  pub count : length new ≡ length old
  pub each : (k : ℕ) → k < length old → slice_index new k ≡ slice_index places (slice_index old k) - 1
