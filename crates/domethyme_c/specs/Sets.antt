-- Sets of numbers: arrays of the caller's, each of which says of which hierarchy it is.
use Rattle.std.specs.Prelude.{ℕ, ◌≡◌, ◌+◌, ◌*◌, ◌%◌, ◌<◌, ◌≤◌, ◌^◌, List, [], ◌∷◌, ◌++◌, All, Option, Some, None, drop, length, slice_index}
use Rattle.ch_cost.specs.Cost.{length_of}
use Rattle.ch_graph.specs.declared.link.Link.{Link}
use Rattle.ch_graph.specs.Hierarchy.{Hierarchy}
use Rattle.ch_sums.specs.Numbers.{AreGiven, AreNumbersOf, HasGreat, count_arcs}
use Rattle.domethyme_c.specs.Answers.{IsWritten}
use Rattle.domethyme_c.specs.declared.code.TheConstants.{OK, NO_ROOM, OUT_OF_MEMORY, NUMBER_COUNT, NUMBER_GREAT}
use Rattle.domethyme_c.specs.declared.digest.TheConstants.{FACTOR}
use Rattle.domethyme_c.specs.declared.lengths.Pair.{Pair}

-- Digests

-- the digest of one word more
abbrev pub digest_word : ℕ → ℕ → ℕ
digest_word digest word = ((digest * FACTOR) % 2 ^ 64 + word) % 2 ^ 64

-- a middle as a word
abbrev pub middle_word : Option ℕ → ℕ
middle_word None = 0
middle_word (Some m) = m + 1

-- and of one link more: its ends, its length and its middle
abbrev pub digest_link : ℕ → Link → ℕ
digest_link digest l = digest_word (digest_word (digest_word digest (l.from * 2 ^ 32 + l.to)) (length_of l.cost)) (middle_word l.middle)

-- and of more
abbrev pub digest_links : ℕ → List Link → ℕ
digest_links digest [] = digest
digest_links digest (l ∷ links) = digest_links (digest_link digest l) links

-- those of two hierarchies with other links differ, but for chance
abbrev pub digest_of : Hierarchy → ℕ
digest_of h = digest_links 0 h.links

-- Sets

-- the digest of the hierarchy, and a number for each of its links, of at most 2^36
pub record IsSet (h : Hierarchy) (set : List ℕ) : Type 0 where
  pub count : length set ≡ length h.links + 1
  pub digest : slice_index set 0 ≡ digest_of h
  pub small : All (λ n. n ≤ 2 ^ 36) (drop 1 set)

-- and they are those of the numbers that were given for the links without a middle
pub record IsSetOf (h : Hierarchy) (given set : List ℕ) : Type 0 where
  pub is : IsSet h set
  pub numbers : AreNumbersOf h given (drop 1 set)

-- The set of the given numbers, at the array's beginning. Refusals write nothing.
pub data IsNumbersAnswer (h : Hierarchy) (given : List ℕ) (code : ℕ) (old new : List ℕ) : Type 0 where
  made : (set : List ℕ) → code ≡ OK → IsSetOf h given set → new ≡ set ++ drop (length set) old → IsNumbersAnswer h given code old new
  no_room : code ≡ NO_ROOM → length old < length h.links + 1 → new ≡ old → IsNumbersAnswer h given code old new
  bad_count : code ≡ NUMBER_COUNT → length h.links + 1 ≤ length old → (length given ≡ count_arcs h.links → ⊥) → new ≡ old → IsNumbersAnswer h given code old new
  great : code ≡ NUMBER_GREAT → length h.links + 1 ≤ length old → ((number : ℕ → ℕ → ℕ) → AreGiven h given number → HasGreat h number) → new ≡ old → IsNumbersAnswer h given code old new
  no_memory : code ≡ OUT_OF_MEMORY → length h.links + 1 ≤ length old → new ≡ old → IsNumbersAnswer h given code old new

-- Which links numbers are given for

-- the ends of a link without a middle
abbrev pub arc_at : Link → Option ℕ → List Pair
arc_at l None = record { from = l.from; to = l.to } ∷ []
arc_at l (Some m) = []

-- and of each of some, in order
abbrev pub arcs_of : List Link → List Pair
arcs_of [] = []
arcs_of (l ∷ links) = arc_at l l.middle ++ arcs_of links

-- They are written at the array's beginning, or have no room; their count is told.
pub data IsArcsAnswer (h : Hierarchy) (code : ℕ) (old new : List Pair) (count told : ℕ) : Type 0 where
  found : IsWritten (arcs_of h.links) code old new → told ≡ length (arcs_of h.links) → IsArcsAnswer h code old new count told
  no_memory : code ≡ OUT_OF_MEMORY → new ≡ old → told ≡ count → IsArcsAnswer h code old new count told
