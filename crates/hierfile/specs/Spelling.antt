-- Hierarchies as bytes: how one is spelled, and what bytes say where they are read by the same table.
use Rattle.std.specs.Prelude.{ℕ, zero, suc, ◌+◌, ◌-◌, ◌^◌, ◌==◌, List, [], ◌∷◌, ◌++◌, length, drop, slice_index, codes, Option, Some, None, if◌then◌else◌}
use Rattle.std.specs.Int.{w32, w64, to_be_bytes, from_be_bytes}
use Rattle.std.specs.List.{flat_map}
use Rattle.ch_cost.specs.declared.cost.Cost.{Cost}
use Rattle.ch_cost.specs.Cost.{length_of, arcs_of, of_walk}
use Rattle.ch_graph.specs.declared.link.Link.{Link}
use Rattle.ch_graph.specs.declared.version.Version.{Version}
use Rattle.ch_graph.specs.declared.version.Version.TheVariants.{One, Two}
use Rattle.ch_graph.specs.Hierarchy.{Hierarchy, bound_arcs}

-- numbers of four and of eight bytes, the highest byte first
unfoldable pub word : ℕ → List ℕ
word n = to_be_bytes w32 n

unfoldable pub long : ℕ → List ℕ
long n = to_be_bytes w64 n

-- what a file of a version begins with
abbrev pub magic_of : Version → List ℕ
magic_of One = codes "RCH1"
magic_of Two = codes "RCH2"

-- what a file of any version begins with
abbrev pub stem : List ℕ
stem = codes "RCH"

-- The arcs of a link are written in version 2 alone.
abbrev pub arcs_bytes : Version → ℕ → List ℕ
arcs_bytes One n = []
arcs_bytes Two n = word n

-- how many bytes the arcs of a link have, and the whole link
abbrev pub arcs_size : Version → ℕ
arcs_size One = 0
arcs_size Two = 4

abbrev pub link_size : Version → ℕ
link_size v = 20 + arcs_size v

-- a middle is written as its number, and none as the greatest of four bytes
abbrev pub middle_number : Option ℕ → ℕ
middle_number None = 2 ^ 32 - 1
middle_number (Some m) = m

unfoldable pub link_bytes : Version → Link → List ℕ
link_bytes v l = word l.from ++ word l.to ++ long (length_of l.cost) ++ arcs_bytes v (arcs_of l.cost) ++ word (middle_number l.middle)

-- the magic, how many nodes and links there are, and the bound
unfoldable pub head_bytes : Version → ℕ → ℕ → Cost → List ℕ
head_bytes v nodes links bound = magic_of v ++ (word nodes ++ long links ++ long (length_of bound))

abbrev pub bytes_of : Hierarchy → List ℕ
bytes_of h = head_bytes h.version (length h.ranks) (length h.links) h.bound ++ flat_map word h.ranks ++ flat_map (link_bytes h.version) h.links

-- What bytes say. Bytes that are missing count as 0; where some are missing is asked for apart.

-- the number in the first four bytes, and in the first eight
unfoldable pub word_in : List ℕ → ℕ
word_in bytes = from_be_bytes w32 bytes

unfoldable pub long_in : List ℕ → ℕ
long_in bytes = from_be_bytes w64 bytes

-- the version of a file, by the last byte of its magic
abbrev pub version_in : List ℕ → Version
version_in bytes = if slice_index bytes 3 == slice_index (magic_of One) 3 then One else Two

abbrev pub middle_in : ℕ → Option ℕ
middle_in m = if m == 2 ^ 32 - 1 then None else Some m

-- how many arcs a link counts, by the bytes behind its weight
abbrev pub arcs_in : Version → List ℕ → ℕ
arcs_in One bytes = 0
arcs_in Two bytes = word_in bytes

unfoldable pub link_in : Version → List ℕ → Link
link_in v bytes = record { from = word_in bytes; to = word_in (drop 4 bytes); cost = of_walk (long_in (drop 8 bytes)) (arcs_in v (drop 16 bytes)); middle = middle_in (word_in (drop (16 + arcs_size v) bytes)) }

-- the bound of a hierarchy of this many nodes, where the file gives this length
abbrev pub bound_in : Version → ℕ → ℕ → Cost
bound_in v nodes length = of_walk length (bound_arcs v nodes)

-- this many numbers of four bytes, and this many links
abbrev pub words_in : ℕ → List ℕ → List ℕ
words_in zero bytes = []
words_in (suc n) bytes = word_in bytes ∷ words_in n (drop 4 bytes)

abbrev pub links_in : Version → ℕ → List ℕ → List Link
links_in v zero bytes = []
links_in v (suc n) bytes = link_in v bytes ∷ links_in v n (drop (link_size v) bytes)
