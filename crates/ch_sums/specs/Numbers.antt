-- Numbers of arcs, and what they sum to along links and along paths.
use Rattle.std.specs.Prelude.{ℕ, ◌≡◌, ◌<◌, ◌≤◌, ◌^◌, List, [], ◌∷◌, length, take, slice_index, slice_index_or, Option, Some, None, option_map, Contains}
use Rattle.std.specs.List.{sum_by}
use Rattle.ch_cost.specs.declared.cost.Cost.{Cost}
use Rattle.ch_cost.specs.Cost.{length_of}
use Rattle.ch_graph.specs.declared.road.Road.{Road}
use Rattle.ch_graph.specs.declared.link.Link.{Link}
use Rattle.ch_graph.specs.declared.hierarchy.LinkId.{LinkId}
use Rattle.ch_graph.specs.Graph.{Graph}
use Rattle.ch_graph.specs.Hierarchy.{Hierarchy, IsValue, IsWellMade, Unfolds, rank_of}
use Rattle.ch_laws.specs.ByWeight.{IsRightByWeight}
use Rattle.ch_query.specs.Places.{IsRiseFallAt}
use Rattle.ch_query.specs.Sums.{IsSummedWay}
use Rattle.ch_query.specs.Ways.{free}
use Rattle.best_routes.specs.BestRoutes.{IsPath, path_length}
use Rattle.ch_sums.specs.declared.along.Summed.{Summed}
use Rattle.ch_sums.specs.declared.error.NumbersError.{NumbersError}
use Rattle.ch_sums.specs.declared.error.NumbersError.TheVariants.{OutOfMemory, Count, TooGreat}

-- Along paths. `number x y` is the number of the arc from x to y.

-- what the numbers of the arcs of a path sum to
abbrev pub path_number : (ℕ → ℕ → ℕ) → List Road → ℕ
path_number number path = sum_by (λ (arc : Road). number arc.from arc.to) path

-- the sum is that of the numbers along some path of this length, which is the least
pub record SumIsAlong (g : Graph) (number : ℕ → ℕ → ℕ) (s t n sum : ℕ) : Type 0 where
  pub path : List Road
  pub leads : IsPath g s t path
  pub long : path_length path ≡ n
  pub least : (other : List Road) → IsPath g s t other → n ≤ path_length other
  pub sums : sum ≡ path_number number path

-- the length and the sum, or none where there is no path
abbrev pub IsSummed : Graph → (ℕ → ℕ → ℕ) → ℕ → ℕ → Option Summed → Type 0
IsSummed g number s t (Some f) = SumIsAlong g number s t f.length f.sum
IsSummed g number s t None = (path : List Road) → IsPath g s t path → ⊥

-- Of links

-- one for a link without a middle
abbrev pub one_arc : Option ℕ → ℕ
one_arc None = 1
one_arc (Some m) = 0

-- how many of the links have no middle
abbrev pub count_arcs : List Link → ℕ
count_arcs links = sum_by (λ (l : Link). one_arc l.middle) links

-- The number of each link without a middle is the one that is given for it, of those in the order of the links.
pub record AreGiven (h : Hierarchy) (given : List ℕ) (number : ℕ → ℕ → ℕ) : Type 0 where
  pub each : (k : ℕ) (l : Link) → k < length h.links → slice_index_or h.links k l ≡ l → l.middle ≡ None → number l.from l.to ≡ slice_index given (count_arcs (take k h.links))

-- what the numbers of links without a middle sum to
abbrev pub links_number : (ℕ → ℕ → ℕ) → List Link → ℕ
links_number number arcs = sum_by (λ (l : Link). number l.from l.to) arcs

-- each link's number is what those of the links that it represents sum to
pub record AreSums (h : Hierarchy) (number : ℕ → ℕ → ℕ) (numbers : List ℕ) : Type 0 where
  pub count : length numbers ≡ length h.links
  pub each : (k : ℕ) (l : Link) (arcs : List Link) → k < length h.links → slice_index_or h.links k l ≡ l → Unfolds h l arcs → slice_index numbers k ≡ links_number number arcs

-- so it is with the given numbers, by whatever pairs of nodes they are told
pub record AreNumbersOf (h : Hierarchy) (given numbers : List ℕ) : Type 0 where
  pub count : length numbers ≡ length h.links
  pub sums : (number : ℕ → ℕ → ℕ) → AreGiven h given number → AreSums h number numbers

-- what the numbers of the links at some places sum to
abbrev pub sum_at : List ℕ → List LinkId → ℕ
sum_at numbers places = sum_by (λ (id : LinkId). slice_index numbers id.0) places

-- a link represents arcs whose numbers sum to more than a link may have
pub record HasGreat (h : Hierarchy) (number : ℕ → ℕ → ℕ) : Type 0 where
  pub link : Link
  pub among : Contains h.links link
  pub arcs : List Link
  pub unfolds : Unfolds h link arcs
  pub great : 2 ^ 36 < links_number number arcs

-- why numbers were refused
pub data IsNumbersFault (h : Hierarchy) (given : List ℕ) (e : NumbersError) : Type 0 where
  no_memory : e ≡ OutOfMemory → IsNumbersFault h given e
  count : e ≡ Count → (length given ≡ count_arcs h.links → ⊥) → IsNumbersFault h given e
  great : e ≡ TooGreat → ((number : ℕ → ℕ → ℕ) → AreGiven h given number → HasGreat h number) → IsNumbersFault h given e

-- the length of the value of the hierarchy, or none where it has none
pub record IsLengthBy (h : Hierarchy) (s t : ℕ) (n : Option ℕ) : Type 0 where
  pub value : Option Cost
  pub least : IsValue h s t value
  pub long : n ≡ option_map length_of value

-- The law

-- a least rise-fall walk unfolds to a path of the least length, whose numbers sum to those of the links
abbrev pub SumsAreAlong : Type 0
SumsAreAlong =
    (g : Graph) (h : Hierarchy) (number : ℕ → ℕ → ℕ) (numbers : List ℕ) (s t : ℕ) → IsRightByWeight g h → AreSums h number numbers → s < length h.ranks → t < length h.ranks
    → ((c : Cost) (places : List LinkId) → IsValue h s t (Some c) → IsRiseFallAt h places s t c → SumIsAlong g number s t (length_of c) (sum_at numbers places))
    × (IsValue h s t None → (path : List Road) → IsPath g s t path → ⊥)

-- links from one node to another unfold to a path that is as long as they are, and whose numbers sum to theirs
abbrev pub SummedWaysAreAlong : Type 0
SummedWaysAreAlong =
    (g : Graph) (h : Hierarchy) (number : ℕ → ℕ → ℕ) (numbers : List ℕ) (s t : ℕ) → IsRightByWeight g h → IsWellMade h → AreSums h number numbers → s < length h.ranks → t < length h.ranks
    → ((c : Cost) (sum : ℕ) → IsValue h s t (Some c) → IsSummedWay h numbers (free s ∷ []) (rank_of h t) (length_of c) sum → SumIsAlong g number s t (length_of c) sum)
    × (IsValue h s t None → (path : List Road) → IsPath g s t path → ⊥)
