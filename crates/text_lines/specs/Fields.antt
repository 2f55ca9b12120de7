-- The fields of a line.
use Rattle.std.specs.Prelude.{ℕ, Bool, ◌==◌, ◌||◌, nat_lt, List, length, filter}
use Rattle.std.specs.List.{slice_split}
use Rattle.text_lines.specs.Letters.{tab, space}

-- a space or a tab
abbrev pub is_blank : ℕ → Bool
is_blank b = b == space || b == tab

abbrev pub is_field : List ℕ → Bool
is_field part = nat_lt 0 (length part)

-- the longest runs of bytes that aren't blanks
abbrev pub fields_of : List ℕ → List (List ℕ)
fields_of line = filter is_field (slice_split is_blank line)
