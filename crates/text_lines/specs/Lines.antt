-- The lines of a text.
use Rattle.std.specs.Prelude.{ℕ, ◌+◌, ◌==◌, if◌then◌else◌, List, [], ◌∷◌, ◌++◌, map}
use Rattle.std.specs.List.{onto_first}
use Rattle.std.specs.Str.Lines.{strip_carriage_return}
use Rattle.text_lines.specs.Letters.{line_feed}
pub mod Laws

-- A text is cut at each line feed. What follows the last one is a line only if there is any of it.
abbrev pub cut_lines : List ℕ → List (List ℕ)
cut_lines [] = []
cut_lines (b ∷ text) = if b == line_feed then [] ∷ cut_lines text else onto_first b (cut_lines text)

-- the lines of a text, each without the one carriage return at its end
abbrev pub lines_of : List ℕ → List (List ℕ)
lines_of text = map strip_carriage_return (cut_lines text)

-- A text's last line, which is one only if there is any of it.
abbrev pub last_line : List ℕ → List (List ℕ)
last_line [] = []
last_line (b ∷ begun) = (b ∷ begun) ∷ []

-- The lines of the bytes that follow, where these bytes of the first line came before.
abbrev pub cut_after : List ℕ → List ℕ → List (List ℕ)
cut_after begun [] = last_line begun
cut_after begun (b ∷ text) = if b == line_feed then begun ∷ cut_after [] text else cut_after (begun ++ b ∷ []) text

-- the same, each line without the one carriage return at its end
abbrev pub lines_after : List ℕ → List ℕ → List (List ℕ)
lines_after begun text = map strip_carriage_return (cut_after begun text)

-- how many line feeds there are
abbrev pub line_feeds : List ℕ → ℕ
line_feeds [] = 0
line_feeds (b ∷ text) = if b == line_feed then line_feeds text + 1 else line_feeds text
