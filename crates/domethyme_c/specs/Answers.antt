-- What each call answers, of the hierarchy that its handle has.
use Rattle.std.specs.Prelude.{ℕ, ◌≡◌, ◌+◌, ◌*◌, ◌<◌, ◌≤◌, List, ◌++◌, ◌∷◌, ◌/◌, ◌%◌, ◌^◌, ◌⊎◌, All, map, length, slice_index, slice_index_or, drop, take, Option, Some, None, IsSome, []}
use Rattle.ch_cost.specs.Cost.{length_of, of_walk}
use Rattle.ch_graph.specs.declared.version.Version.TheVariants.{One, Two}
use Rattle.ch_graph.specs.Graph.{Graph, IsLeastLength}
use Rattle.ch_graph.specs.Hierarchy.{Hierarchy, IsRight, IsWellMade}
use Rattle.ch_graph.specs.Limits.{IsGraph}
use Rattle.ch_laws.specs.ByWeight.{IsRightByWeight}
use Rattle.ch_query.specs.declared.seed.Seed.{Seed}
use Rattle.ch_query.specs.Seeds.{AreSeeds, IsSeed}
use Rattle.ch_route.specs.Between.{RouteBetween, HasTooLongBetween, IsLeastBetween, IsRouteBetweenBy, IsRowLengthFrom, IsRowLengthWithin, IsShortestBetween, IsLeastLengthBetween, IsLeastLengthWithin}
use Rattle.ch_route.specs.Routes.{Route, HasTooLong, IsFewestWalk, IsLeastWalk, IsLengthBy, IsRouteBy, or_none as or_no_length}
use Rattle.hierfile.specs.Bytes.{OfBytes}
use Rattle.hierfile.specs.Fault.{first_fault}
use Rattle.hierfile.specs.Spelling.{bytes_of}
use Rattle.hierfile.specs.declared.error.HierError.{HierError}
use Rattle.domethyme_c.specs.Codes.{fault_code}
use Rattle.domethyme_c.specs.declared.code.TheConstants.{OK, NO_PATH, NO_HANDLE, NODE_RANGE, NO_ROOM, OUT_OF_MEMORY, TOO_LONG, SEED_COST, BAD_LIMIT, NO_LENGTH}
use Rattle.domethyme_c.specs.declared.lengths.Pair.{Pair}
use Rattle.domethyme_c.specs.declared.route.RouteInfo.{RouteInfo}
use Rattle.domethyme_c.specs.declared.between.BetweenInfo.{BetweenInfo}
use Rattle.domethyme_c.specs.declared.seeds.SeedInfo.{SeedInfo}
use Rattle.ch_query.specs.Ways.{free}

-- a call of an open handle answers by its hierarchy; of a closed one it says so, and writes nothing
abbrev pub Answers : Option Hierarchy → ℕ → Type 0 → (Hierarchy → Type 0) → Type 0
Answers None code Unwritten Is = (code ≡ NO_HANDLE) × Unwritten
Answers (Some h) code Unwritten Is = Is h

-- A file

-- the bytes are those of the hierarchy that the handle has, or have this first fault and the handle is closed
pub data IsOpened (bytes : List ℕ) (code : ℕ) (held : Option Hierarchy) : Type 0 where
  opened : code ≡ OK → (h : Hierarchy) → held ≡ Some h → IsWellMade h → bytes ≡ bytes_of h → IsOpened bytes code held
  refused : (e : HierError) → code ≡ fault_code e → OfBytes e (first_fault bytes ≡ Some e) → held ≡ None → IsOpened bytes code held

-- another handle has the same hierarchy afterwards, or what it had
pub data IsBeside (held : Option Hierarchy) (code : ℕ) (old new : Option Hierarchy) : Type 0 where
  opened : code ≡ OK → IsSome held → new ≡ held → IsBeside held code old new
  closed : code ≡ NO_HANDLE → held ≡ None → new ≡ old → IsBeside held code old new
  no_memory : code ≡ OUT_OF_MEMORY → IsSome held → new ≡ old → IsBeside held code old new

-- a number of the hierarchy
pub record IsCount (count code new : ℕ) : Type 0 where
  pub ok : code ≡ OK
  pub written : new ≡ count

-- One pair

abbrev pub AreNodes : Hierarchy → ℕ → ℕ → Type 0
AreNodes h from to = (from < length h.ranks) × (to < length h.ranks)

-- The length by the hierarchy, or none where it has none: where it is right for a graph, be it by weight alone, the least
-- over all walks.
pub record IsLength (h : Hierarchy) (from to : ℕ) (n : Option ℕ) : Type 0 where
  pub found : IsLengthBy h from to n
  pub exact : (g : Graph) → IsRight g h → IsLeastLength g from to n
  pub by_weight : (g : Graph) → IsRightByWeight g h → IsLeastLength g from to n

pub data IsLengthAnswer (h : Hierarchy) (from to code old new : ℕ) : Type 0 where
  found : code ≡ OK → IsLength h from to (Some new) → IsLengthAnswer h from to code old new
  none : code ≡ NO_PATH → IsLength h from to None → new ≡ old → IsLengthAnswer h from to code old new
  out_of_range : code ≡ NODE_RANGE → (AreNodes h from to → ⊥) → new ≡ old → IsLengthAnswer h from to code old new
  no_memory : code ≡ OUT_OF_MEMORY → AreNodes h from to → new ≡ old → IsLengthAnswer h from to code old new

-- Many pairs

-- a length, or the number that stands for none
abbrev pub or_none : Option ℕ → ℕ
or_none (Some n) = n
or_none None = NO_LENGTH

-- what is written of a pair
pub record IsLengthOrNone (h : Hierarchy) (from to n : ℕ) : Type 0 where
  pub length : Option ℕ
  pub is : IsLength h from to length
  pub written : n ≡ or_none length

-- so many numbers are written, each of which is right, and the others stay
pub record AreWritten (count : ℕ) (Is : ℕ → ℕ → Type 0) (old new : List ℕ) : Type 0 where
  pub room : length new ≡ length old
  pub each : (k : ℕ) → k < count → Is k (slice_index new k)
  pub rest : (k : ℕ) → count ≤ k → slice_index new k ≡ slice_index old k

-- What is asked for: how many numbers, whether all nodes are in range, and which numbers are right. Refusals come in this order.
pub data AreAnswered (count : ℕ) (InRange : Type 0) (Is : ℕ → ℕ → Type 0) (code : ℕ) (old new : List ℕ) : Type 0 where
  found : code ≡ OK → AreWritten count Is old new → AreAnswered count InRange Is code old new
  no_room : code ≡ NO_ROOM → length old < count → new ≡ old → AreAnswered count InRange Is code old new
  out_of_range : code ≡ NODE_RANGE → count ≤ length old → (InRange → ⊥) → new ≡ old → AreAnswered count InRange Is code old new
  no_memory : code ≡ OUT_OF_MEMORY → count ≤ length old → InRange → AreAnswered count InRange Is code old new

-- the length of each pair, in order
abbrev pub IsLengthsAnswer : Hierarchy → List Pair → ℕ → List ℕ → List ℕ → Type 0
IsLengthsAnswer h pairs = AreAnswered (length pairs) (All (λ (p : Pair). AreNodes h p.from p.to) pairs) (λ k n. (d : Pair) → IsLengthOrNone h (slice_index_or pairs k d).from (slice_index_or pairs k d).to n)

-- the length from each source to each target, row by row
abbrev pub IsTableAnswer : Hierarchy → List ℕ → List ℕ → ℕ → List ℕ → List ℕ → Type 0
IsTableAnswer h sources targets =
    AreAnswered (length sources * length targets) (All (λ v. v < length h.ranks) sources × All (λ v. v < length h.ranks) targets)
    (λ k n. IsLengthOrNone h (slice_index sources (k / length targets)) (slice_index targets (k % length targets)) n)

-- Routes

-- the values are written at the array's beginning, or have no room
pub data IsWritten {X : Type 0} (values : List X) (code : ℕ) (old new : List X) : Type 0 where
  all : code ≡ OK → length values ≤ length old → new ≡ values ++ drop (length values) old → IsWritten values code old new
  no_room : code ≡ NO_ROOM → length old < length values → new ≡ old → IsWritten values code old new

-- The route by the hierarchy, or none where it has none: where it is right for a graph, a least walk with the fewest arcs,
-- and where it is right by weight a least walk.
pub record IsRoute (h : Hierarchy) (from to : ℕ) (r : Option Route) : Type 0 where
  pub found : IsRouteBy h from to r
  pub exact : (g : Graph) → IsGraph g → IsRight g h → IsFewestWalk g from to r
  pub by_weight : (g : Graph) → IsRightByWeight g h → IsLeastWalk g from to r

-- the hierarchy is right for no graph, in the sense of its version
pub record IsWrong (h : Hierarchy) : Type 0 where
  pub never : (g : Graph) → IsGraph g → IsRight g h → ⊥
  pub never_by_weight : h.version ≡ One → (g : Graph) → IsGraph g → IsRightByWeight g h → ⊥

abbrev pub info_of : Route → RouteInfo
info_of r = record { length = length_of r.cost; nodes = length r.nodes }

pub data IsRouteAnswer (h : Hierarchy) (from to code : ℕ) (old new : RouteInfo) (nodes written : List ℕ) : Type 0 where
  found : (r : Route) → IsRoute h from to (Some r) → new ≡ info_of r → IsWritten r.nodes code nodes written → IsRouteAnswer h from to code old new nodes written
  none : code ≡ NO_PATH → IsRoute h from to None → new ≡ old → written ≡ nodes → IsRouteAnswer h from to code old new nodes written
  out_of_range : code ≡ NODE_RANGE → (AreNodes h from to → ⊥) → new ≡ old → written ≡ nodes → IsRouteAnswer h from to code old new nodes written
  too_long : code ≡ TOO_LONG → HasTooLong h from to → IsWrong h → new ≡ old → written ≡ nodes → IsRouteAnswer h from to code old new nodes written
  no_memory : code ≡ OUT_OF_MEMORY → AreNodes h from to → new ≡ old → written ≡ nodes → IsRouteAnswer h from to code old new nodes written

-- Between several starts and several ends

abbrev pub seed_of : SeedInfo → Seed
seed_of s = record { node = s.node; cost = of_walk s.length s.arcs }

pub record IsBetween (h : Hierarchy) (starts ends : List Seed) (r : Option RouteBetween) : Type 0 where
  pub found : IsRouteBetweenBy h starts ends r
  pub exact : (g : Graph) → IsGraph g → IsRight g h → IsLeastBetween g starts ends r
  pub by_weight : (g : Graph) → IsRightByWeight g h → IsShortestBetween IsLeastWalk g starts ends r

abbrev pub between_info_of : RouteBetween → BetweenInfo
between_info_of r = record { length = length_of r.cost; start = r.start; end = r.end; nodes = length r.nodes }

-- of seeds of the hierarchy
pub data IsFoundBetween (h : Hierarchy) (starts ends : List Seed) (code : ℕ) (old new : BetweenInfo) (nodes written : List ℕ) : Type 0 where
  found : (r : RouteBetween) → IsBetween h starts ends (Some r) → new ≡ between_info_of r → IsWritten r.nodes code nodes written → IsFoundBetween h starts ends code old new nodes written
  none : code ≡ NO_PATH → IsBetween h starts ends None → new ≡ old → written ≡ nodes → IsFoundBetween h starts ends code old new nodes written
  too_long : code ≡ TOO_LONG → HasTooLongBetween h starts ends → IsWrong h → new ≡ old → written ≡ nodes → IsFoundBetween h starts ends code old new nodes written
  no_memory : code ≡ OUT_OF_MEMORY → AreSeeds h starts → AreSeeds h ends → new ≡ old → written ≡ nodes → IsFoundBetween h starts ends code old new nodes written

-- why one seed is none of the hierarchy
pub data IsSeedFault (h : Hierarchy) (seed : SeedInfo) (code : ℕ) : Type 0 where
  out_of_range : code ≡ NODE_RANGE → (seed.node < length h.ranks → ⊥) → IsSeedFault h seed code
  costly : code ≡ SEED_COST → seed.node < length h.ranks → (IsSeed h (seed_of seed) → ⊥) → IsSeedFault h seed code

-- the first seeds, so many, are seeds of the hierarchy
abbrev pub AreFirstSeeds : Hierarchy → List SeedInfo → ℕ → Type 0
AreFirstSeeds h seeds count = All (λ (s : SeedInfo). IsSeed h (seed_of s)) (take count seeds)

-- why the first seed that is none of the hierarchy is none, or the place at which memory ran out
pub data IsSeedRefusal (h : Hierarchy) (seeds : List SeedInfo) (code : ℕ) : Type 0 where
  fault : (k : ℕ) → k < length seeds → AreFirstSeeds h seeds k → ((d : SeedInfo) → IsSeedFault h (slice_index_or seeds k d) code) → IsSeedRefusal h seeds code
  no_memory : code ≡ OUT_OF_MEMORY → (k : ℕ) → k < length seeds → AreFirstSeeds h seeds (k + 1) → IsSeedRefusal h seeds code

pub data IsBetweenAnswer (h : Hierarchy) (starts ends : List SeedInfo) (code : ℕ) (old new : BetweenInfo) (nodes written : List ℕ) : Type 0 where
  answered : IsFoundBetween h (map seed_of starts) (map seed_of ends) code old new nodes written → IsBetweenAnswer h starts ends code old new nodes written
  no_start : IsSeedRefusal h starts code → new ≡ old → written ≡ nodes → IsBetweenAnswer h starts ends code old new nodes written
  no_end : AreSeeds h (map seed_of starts) → IsSeedRefusal h ends code → new ≡ old → written ≡ nodes → IsBetweenAnswer h starts ends code old new nodes written

-- Within a limit

-- a limit is a length of at most 2^62, or the number that stands for none
abbrev pub IsLimit : ℕ → Type 0
IsLimit limit = (limit ≤ 2 ^ 62) ⊎ (limit ≡ NO_LENGTH)

-- how long a path may be at most: no path is as long as 2^62
pub record IsMostOf (limit most : ℕ) : Type 0 where
  pub allowed : IsLimit limit
  pub short : most ≤ 2 ^ 62
  pub same : limit ≤ 2 ^ 62 → most ≡ limit
  pub unlimited : limit ≡ NO_LENGTH → most ≡ 2 ^ 62

-- the least length from a start to a node, where it is within the limit; and where there is no limit, any
pub record IsReached (h : Hierarchy) (starts : List Seed) (limit node n : ℕ) : Type 0 where
  pub within : limit ≤ 2 ^ 62 → IsRowLengthWithin h starts limit node n
  pub unlimited : limit ≡ NO_LENGTH → IsRowLengthFrom h starts node n

-- The length of each node. Refusals come in this order, and each has written nothing.
pub data IsReachAnswer (h : Hierarchy) (starts : List SeedInfo) (limit code : ℕ) (old new : List ℕ) : Type 0 where
  found : code ≡ OK → AreWritten (length h.ranks) (IsReached h (map seed_of starts) limit) old new → IsReachAnswer h starts limit code old new
  bad_limit : code ≡ BAD_LIMIT → (IsLimit limit → ⊥) → new ≡ old → IsReachAnswer h starts limit code old new
  no_room : code ≡ NO_ROOM → IsLimit limit → length old < length h.ranks → new ≡ old → IsReachAnswer h starts limit code old new
  no_start : IsSeedRefusal h starts code → IsLimit limit → length h.ranks ≤ length old → new ≡ old → IsReachAnswer h starts limit code old new
  no_memory : code ≡ OUT_OF_MEMORY → IsLimit limit → length h.ranks ≤ length old → AreSeeds h (map seed_of starts) → new ≡ old → IsReachAnswer h starts limit code old new

-- Texts

-- some bytes with a zero behind them are written, or have no room; their count is told
pub record IsText (count : ℕ) (old new : List ℕ) : Type 0 where
  pub text : List ℕ
  pub short : length text < 80
  pub told : count ≡ length text + 1
  pub fits : count ≤ length old → new ≡ text ++ 0 ∷ drop count old
  pub no_room : length old < count → new ≡ old

-- The bytes are the file of a hierarchy that is right for the graph by weight, and in version 2 right. So is what `prepare`
-- writes for the graph of a text.
pub record IsFileFor (g : Graph) (bytes : List ℕ) : Type 0 where
  pub hierarchy : Hierarchy
  pub made : IsWellMade hierarchy
  pub by_weight : IsRightByWeight g hierarchy
  pub right : hierarchy.version ≡ Two → IsRight g hierarchy
  pub spelled : bytes ≡ bytes_of hierarchy

-- What each call says by the hierarchy of its handle is so in the graph, and no route is too long.
pub record AnswersOver (g : Graph) (h : Hierarchy) : Type 0 where
  pub nodes : length h.ranks ≡ g.nodes
  pub lengths : (from to : ℕ) (n : Option ℕ) → IsLength h from to n → IsLeastLength g from to n
  pub routes : (from to : ℕ) (r : Option Route) → IsRoute h from to r → IsLeastWalk g from to r
  pub fewest : h.version ≡ Two → (from to : ℕ) (r : Option Route) → IsRoute h from to r → IsFewestWalk g from to r
  pub between : (starts ends : List Seed) (r : Option RouteBetween) → IsBetween h starts ends r → IsShortestBetween IsLeastWalk g starts ends r
  pub within : (starts : List Seed) (limit node n : ℕ) → limit ≤ 2 ^ 62 → IsReached h starts limit node n → (m : Option ℕ) × IsLeastLengthWithin g starts (free node ∷ []) limit m × (n ≡ or_no_length m)
  pub unlimited : (starts : List Seed) (node n : ℕ) → IsReached h starts NO_LENGTH node n → (m : Option ℕ) × IsLeastLengthBetween g starts (free node ∷ []) m × (n ≡ or_no_length m)
  pub never_long : IsWrong h → ⊥

-- A handle that is open from such bytes answers over that graph.
abbrev pub OpenedFilesAnswerExactly : Type 0
OpenedFilesAnswerExactly = (g : Graph) (bytes : List ℕ) (code : ℕ) (h : Hierarchy) → IsGraph g → IsFileFor g bytes → IsOpened bytes code (Some h) → AnswersOver g h
