-- The lines of a query file.
use Rattle.std.specs.Prelude.{ℕ, ◌-◌, ◌^◌, ◌&&◌, if◌then◌else◌, nat_lt, List, [], ◌∷◌, codes, Result, Ok}
use Rattle.std.specs.Str.{bytes_eq}
use Rattle.grfile.specs.Letters.{letter_q}
use Rattle.grfile.specs.declared.error.GrError.{GrError}
use Rattle.grfile.specs.declared.error.GrErrorKind.TheVariants.{UnknownLine, FieldCount, NodeRange, TooManyArcs}
use Rattle.grfile.specs.declared.form.Size.{Size}
use Rattle.grfile.specs.Outcome.{◌>>=◌, fault}
use Rattle.grfile.specs.Grammar.{Grammar, number_in}
use Rattle.grfile.specs.Roads.{is_outside}
pub mod Laws

abbrev pub count_in_range : ℕ → ℕ → ℕ → Result Size GrError
count_in_range nodes line count =
    if nat_lt (2 ^ 27) count then fault TooManyArcs line
    else Ok (record { nodes = nodes; entries = count })

-- the fields of a problem line after the p: aux sp p2p K; how many nodes there are is known
unfoldable pub pairs_size : ℕ → ℕ → List (List ℕ) → Result Size GrError
pairs_size nodes line (first ∷ second ∷ third ∷ k ∷ []) =
    if bytes_eq first (codes "aux") && bytes_eq second (codes "sp") && bytes_eq third (codes "p2p") then number_in line k >>= (λ count. count_in_range nodes line count)
    else fault UnknownLine line
pairs_size nodes line fields = fault FieldCount line

abbrev pub pair_in_range : ℕ → ℕ → ℕ → ℕ → Result (ℕ × ℕ) GrError
pair_in_range nodes line source target =
    if is_outside nodes source then fault NodeRange line
    else if is_outside nodes target then fault NodeRange line
    else Ok (source - 1, target - 1)

-- the fields of a line of a pair after the q: S T
unfoldable pub pair_of : ℕ → ℕ → List (List ℕ) → Result (ℕ × ℕ) GrError
pair_of nodes line (s ∷ t ∷ []) = number_in line s >>= (λ source. number_in line t >>= (λ target. pair_in_range nodes line source target))
pair_of nodes line fields = fault FieldCount line

abbrev pub pair_grammar : ℕ → Grammar (ℕ × ℕ)
pair_grammar nodes = record { letter = letter_q; size_of = pairs_size nodes; entry_of = λ size. pair_of size.nodes }
