-- The first fault of the bytes of a file, in the order in which faults are reported.
use Rattle.std.specs.Prelude.{ℕ, zero, suc, ◌+◌, ◌-◌, ◌*◌, ◌^◌, ◌==◌, Bool, not, ◌||◌, ◌&&◌, nat_lt, nat_le, List, [], ◌∷◌, length, drop, take, Option, Some, None, if◌then◌else◌, slice_index, slice_get, option_and_then, is_some, true}
use Rattle.std.specs.List.{list_any, find}
use Rattle.ch_cost.specs.declared.cost.Cost.{Cost}
use Rattle.ch_cost.specs.Cost.{◌⊕◌, length_of, arcs_of, same}
use Rattle.ch_graph.specs.declared.link.Link.{Link}
use Rattle.ch_graph.specs.declared.version.Version.{Version}
use Rattle.ch_graph.specs.declared.version.Version.TheVariants.{One, Two}
use Rattle.hierfile.specs.declared.error.HierError.{HierError}
use Rattle.hierfile.specs.declared.error.HierError.TheVariants.{BadMagic, Truncated, TooBig, BoundTooBig, RankRange, RankTwice, LinkEnds, LinkOrder, LinkWeight, MiddleRange, MiddleRank, HalfMissing, HalfSum, Trailing}
use Rattle.hierfile.specs.Spelling.{magic_of, link_size, word_in, long_in, version_in, bound_in, words_in, links_in}

infixl 20 ◌otherwise◌
-- the first of two faults
abbrev pub ◌otherwise◌ : Option HierError → Option HierError → Option HierError
None otherwise later = later
Some e otherwise later = Some e

-- this fault, where the test finds it
abbrev pub fault_if : Bool → HierError → Option HierError
fault_if found e = if found then Some e else None

-- the first fault at one of the places below n
abbrev pub first_below : ℕ → (ℕ → Option HierError) → Option HierError
first_below zero fault_at = None
first_below (suc n) fault_at = first_below n fault_at otherwise fault_at n

-- fewer than this many bytes
abbrev pub cut : ℕ → List ℕ → Option HierError
cut n bytes = fault_if (nat_lt (length bytes) n) Truncated

-- whether this byte is at this place of some magic
abbrev pub is_magic : ℕ → ℕ → Bool
is_magic k byte = byte == slice_index (magic_of One) k || byte == slice_index (magic_of Two) k

-- Each byte of the magic, as it comes. The magics differ in the last byte alone, so bytes of some magic are one.
abbrev pub magic_fault : List ℕ → Option HierError
magic_fault bytes = first_below 4 (λ k. cut (k + 1) bytes otherwise fault_if (not (is_magic k (slice_index bytes k))) BadMagic)

-- this many nodes and links, and a bound of this length
abbrev pub size_fault : ℕ → ℕ → ℕ → Option HierError
size_fault nodes links bound = fault_if (nat_lt (2 ^ 25) nodes || nat_lt (nodes * (nodes - 1)) links) TooBig
    otherwise fault_if (nat_lt ((nodes - 1) * (2 ^ 32 - 1)) bound) BoundTooBig

-- the numbers that the bytes behind the magic begin with
abbrev pub head_fault : List ℕ → Option HierError
head_fault bytes = cut 20 bytes otherwise size_fault (word_in bytes) (long_in (drop 4 bytes)) (long_in (drop 12 bytes))

-- a rank of one of this many nodes, beside the earlier ranks
unfoldable pub rank_test : ℕ → List ℕ → ℕ → Option HierError
rank_test nodes earlier rank = fault_if (nat_le nodes rank) RankRange otherwise fault_if (list_any (λ r. r == rank) earlier) RankTwice

-- the rank at this place
abbrev pub rank_fault : ℕ → List ℕ → ℕ → Option HierError
rank_fault nodes ranks k = rank_test nodes (take k ranks) (slice_index ranks k)

-- the ranks that the bytes begin with
abbrev pub ranks_fault : ℕ → List ℕ → Option HierError
ranks_fault nodes bytes = first_below nodes (λ k. cut (4 * (k + 1)) bytes otherwise rank_fault nodes (words_in nodes bytes) k)

abbrev pub is_before : Link → Link → Bool
is_before a b = nat_lt a.from b.from || a.from == b.from && nat_lt a.to b.to

-- no earlier link, or one that comes before this one
abbrev pub is_in_order : Option Link → Link → Bool
is_in_order None l = true
is_in_order (Some earlier) l = is_before earlier l

-- a middle of a link from x to y
abbrev pub middle_fault : List ℕ → ℕ → ℕ → Option ℕ → Option HierError
middle_fault ranks x y None = None
middle_fault ranks x y (Some m) = fault_if (nat_le (length ranks) m) MiddleRange
    otherwise fault_if (not (nat_lt (slice_index ranks m) (slice_index ranks x) && nat_lt (slice_index ranks m) (slice_index ranks y))) MiddleRank

-- What a link's cost counts. In version 1 it is some weight and no arcs; in version 2 it is some arcs, exactly one where
-- there is no middle.
abbrev pub does_count : Version → Link → Bool
does_count One l = nat_lt 0 (length_of l.cost) && arcs_of l.cost == 0
does_count Two l = nat_lt 0 (arcs_of l.cost) && (is_some l.middle || arcs_of l.cost == 1)

-- what a link's cost may be, by the link alone: within the bound, and what the version counts
unfoldable pub has_weight : Version → Cost → Link → Bool
has_weight v bound l = nat_le (length_of l.cost) (length_of bound) && nat_le (arcs_of l.cost) (arcs_of bound) && does_count v l

-- a link by itself, beside the one before it
unfoldable pub link_fault : Version → List ℕ → Cost → Option Link → Link → Option HierError
link_fault v ranks bound earlier l =
    fault_if (nat_le (length ranks) l.from || nat_le (length ranks) l.to || l.from == l.to) LinkEnds
    otherwise fault_if (not (is_in_order earlier l)) LinkOrder
    otherwise fault_if (not (has_weight v bound l)) LinkWeight
    otherwise middle_fault ranks l.from l.to l.middle

-- the link at this place
abbrev pub link_fault_at : Version → List ℕ → Cost → List Link → ℕ → Option HierError
link_fault_at v ranks bound links k = option_and_then (link_fault v ranks bound (slice_get (take k links) (k - 1))) (slice_get links k)

-- the links that the bytes begin with
abbrev pub links_fault : Version → List ℕ → Cost → ℕ → List ℕ → Option HierError
links_fault v ranks bound count bytes = first_below count (λ k. cut (link_size v * (k + 1)) bytes otherwise link_fault_at v ranks bound (links_in v count bytes) k)

abbrev pub leads : ℕ → ℕ → Link → Bool
leads x y l = l.from == x && l.to == y

-- halves that were looked for, of a link that costs this much
abbrev pub sum_fault : Option Link → Option Link → Cost → Option HierError
sum_fault None b cost = Some HalfMissing
sum_fault (Some a) None cost = Some HalfMissing
sum_fault (Some a) (Some b) cost = fault_if (not (same cost (a.cost ⊕ b.cost))) HalfSum

abbrev pub halves_fault : List Link → ℕ → ℕ → Cost → Option ℕ → Option HierError
halves_fault links x y cost None = None
halves_fault links x y cost (Some m) = sum_fault (find (leads x m) links) (find (leads m y) links) cost

-- the halves of a link, among all links
unfoldable pub half_fault : List Link → Link → Option HierError
half_fault links l = halves_fault links l.from l.to l.cost l.middle

-- the first fault along a list
abbrev pub first_along : (Link → Option HierError) → List Link → Option HierError
first_along fault_of [] = None
first_along fault_of (l ∷ ls) = fault_of l otherwise first_along fault_of ls

-- what follows the last link
abbrev pub end_fault : List ℕ → Option HierError
end_fault bytes = fault_if (nat_lt 0 (length bytes)) Trailing

-- the bytes behind the head of a version, where it gives this many nodes and links and a bound of this length
unfoldable pub body_fault : Version → ℕ → ℕ → ℕ → List ℕ → Option HierError
body_fault v nodes count bound bytes =
    let rest = drop (4 * nodes) bytes in
    let links = links_in v count rest in
    ranks_fault nodes bytes otherwise links_fault v (words_in nodes bytes) (bound_in v nodes bound) count rest otherwise first_along (half_fault links) links otherwise end_fault (drop (link_size v * count) rest)

-- the bytes of a file
unfoldable pub first_fault : List ℕ → Option HierError
first_fault bytes =
    let head = drop 4 bytes in
    magic_fault bytes otherwise head_fault head otherwise body_fault (version_in bytes) (word_in head) (long_in (drop 4 head)) (long_in (drop 12 head)) (drop 20 head)
