-- The grammar that the texts share: comments, a problem line, and then as many lines of entries as that one says.
use Rattle.std.specs.Prelude.{ℕ, ◌-◌, ◌==◌, if◌then◌else◌, List, [], ◌∷◌, drop, Some, None, Result, Ok}
use Rattle.grfile.specs.Letters.{letter_c, letter_p}
use Rattle.grfile.specs.declared.error.GrError.{GrError}
use Rattle.grfile.specs.declared.error.GrErrorKind.TheVariants.{UnknownLine, NoProblemLine, SecondProblemLine, NotANumber, ArcCount}
use Rattle.grfile.specs.declared.kind.LineKind.{LineKind}
use Rattle.grfile.specs.declared.kind.LineKind.TheVariants.{Skipped, Problem, Entry, Unknown}
use Rattle.grfile.specs.declared.form.Size.{Size}
use Rattle.text_lines.specs.Fields.{fields_of}
use Rattle.text_lines.specs.Numbers.{number_of, capped}
use Rattle.grfile.specs.Outcome.{◌>>=◌, fault, next_line}

-- The kind of a line with these fields: it is skipped if there is none or the first begins with c, and else the
-- first field is p, or the letter of the entries.
abbrev pub kind_of : ℕ → List (List ℕ) → LineKind
kind_of letter [] = Skipped
kind_of letter ([] ∷ more) = Unknown
kind_of letter ((b ∷ []) ∷ more) = if b == letter_c then Skipped else if b == letter_p then Problem else if b == letter then Entry else Unknown
kind_of letter ((b ∷ c ∷ bs) ∷ more) = if b == letter_c then Skipped else Unknown

-- the number in a field of this line
abbrev pub number_in : ℕ → List ℕ → Result ℕ GrError
number_in line field = elim (number_of field) [ Some n ↦ Ok n | None ↦ fault NotANumber line ]

-- the same, as the code keeps it: a number that would pass 2^64 - 1 stays there
abbrev pub capped_in : ℕ → List ℕ → Result ℕ GrError
capped_in line field = elim (number_of field) [ Some n ↦ Ok (capped n) | None ↦ fault NotANumber line ]

-- What a text has of its own: the letter of its entries, what its problem line says, and what a line of an entry
-- says. Both take the number of the line and the fields after the first.
pub record Grammar (E : Type 0) : Type 0 where
  pub letter : ℕ
  pub size_of : ℕ → List (List ℕ) → Result Size GrError
  pub entry_of : Size → ℕ → List (List ℕ) → Result E GrError

-- a text of this grammar, read
pub record Listing (E : Type 0) : Type 0 where
  pub size : Size
  pub entries : List E

-- the entries in the lines after line n, where `left` of them have to come
unfoldable pub entries_after : {E : Type 0} → Grammar E → Size → ℕ → ℕ → List (List ℕ) → Result (List E) GrError
entries_after grammar size left n [] = if left == 0 then Ok [] else fault ArcCount n
entries_after grammar size left n (line ∷ lines) = elim (kind_of grammar.letter (fields_of line)) [
  | Skipped ↦ entries_after grammar size left (next_line n) lines
  | Unknown ↦ fault UnknownLine (next_line n)
  | Problem ↦ fault SecondProblemLine (next_line n)
  | Entry ↦ if left == 0 then fault ArcCount (next_line n) else (grammar.entry_of size (next_line n) (drop 1 (fields_of line)) >>= (λ entry. entries_after grammar size (left - 1) (next_line n) lines >>= (λ entries. Ok (entry ∷ entries))))
]

-- what the lines after line n say, where no problem line has come
unfoldable pub listing_after : {E : Type 0} → Grammar E → ℕ → List (List ℕ) → Result (Listing E) GrError
listing_after grammar n [] = fault NoProblemLine n
listing_after grammar n (line ∷ lines) = elim (kind_of grammar.letter (fields_of line)) [
  | Skipped ↦ listing_after grammar (next_line n) lines
  | Unknown ↦ fault UnknownLine (next_line n)
  | Problem ↦ grammar.size_of (next_line n) (drop 1 (fields_of line)) >>= (λ size. entries_after grammar size size.entries (next_line n) lines >>= (λ entries. Ok (record { size = size; entries = entries })))
  | Entry ↦ fault NoProblemLine (next_line n)
]
