-- The lines of a graph's text.
use Rattle.std.specs.Prelude.{ℕ, ◌-◌, ◌^◌, ◌==◌, Bool, ◌||◌, if◌then◌else◌, nat_lt, List, [], ◌∷◌, codes, Result, Ok}
use Rattle.std.specs.Str.{bytes_eq}
use Rattle.grfile.specs.Letters.{letter_a}
use Rattle.ch_graph.specs.declared.road.Road.{Road}
use Rattle.grfile.specs.declared.error.GrError.{GrError}
use Rattle.grfile.specs.declared.error.GrErrorKind.TheVariants.{UnknownLine, FieldCount, NodeRange, WeightTooBig, TooManyNodes, TooManyArcs}
use Rattle.grfile.specs.declared.form.Size.{Size}
use Rattle.grfile.specs.Outcome.{◌>>=◌, fault}
use Rattle.grfile.specs.Grammar.{Grammar, number_in}

abbrev pub size_in_range : ℕ → ℕ → ℕ → Result Size GrError
size_in_range line nodes arcs =
    if nat_lt (2 ^ 25) nodes then fault TooManyNodes line
    else if nat_lt (2 ^ 27) arcs then fault TooManyArcs line
    else Ok (record { nodes = nodes; entries = arcs })

-- the fields of a problem line after the p: sp N M
unfoldable pub graph_size : ℕ → List (List ℕ) → Result Size GrError
graph_size line (word ∷ n ∷ m ∷ []) =
    if bytes_eq word (codes "sp") then number_in line n >>= (λ nodes. number_in line m >>= (λ arcs. size_in_range line nodes arcs))
    else fault UnknownLine line
graph_size line fields = fault FieldCount line

-- a number of a node in a text that has this many
abbrev pub is_outside : ℕ → ℕ → Bool
is_outside nodes node = node == 0 || nat_lt nodes node

abbrev pub road_in_range : ℕ → ℕ → ℕ → ℕ → ℕ → Result Road GrError
road_in_range nodes line from to weight =
    if is_outside nodes from then fault NodeRange line
    else if is_outside nodes to then fault NodeRange line
    else if nat_lt (2 ^ 32 - 1) weight then fault WeightTooBig line
    else Ok (record { from = from - 1; to = to - 1; weight = weight })

-- the fields of an arc line after the a: U V W
unfoldable pub road_of : ℕ → ℕ → List (List ℕ) → Result Road GrError
road_of nodes line (u ∷ v ∷ w ∷ []) = number_in line u >>= (λ from. number_in line v >>= (λ to. number_in line w >>= (λ weight. road_in_range nodes line from to weight)))
road_of nodes line fields = fault FieldCount line

abbrev pub graph_grammar : Grammar Road
graph_grammar = record { letter = letter_a; size_of = graph_size; entry_of = λ size. road_of size.nodes }
