-- Lines as nearly all are: a letter and decimal numbers, with one space before each.
use Rattle.std.specs.Prelude.{ℕ, ◌≡◌, ◌<◌, ⊤, true, List, [], ◌∷◌, ◌++◌, length}
use Rattle.std.specs.Str.{all_ascii_digits}
use Rattle.text_lines.specs.Letters.{space}
pub mod Laws

-- each field, with a space before it
abbrev pub spaced : List (List ℕ) → List ℕ
spaced [] = []
spaced (field ∷ fields) = space ∷ (field ++ spaced fields)

abbrev pub plain_line : ℕ → List (List ℕ) → List ℕ
plain_line letter fields = letter ∷ spaced fields

-- each field is one decimal digit or more
abbrev pub AreNumbers : List (List ℕ) → Type 0
AreNumbers [] = ⊤
AreNumbers (field ∷ fields) = (0 < length field) × (all_ascii_digits field ≡ true) × AreNumbers fields
