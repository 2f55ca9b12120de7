-- Lines of entries as nearly all are: a letter and decimal numbers, with one space between.
use Rattle.std.specs.Prelude.{◌≡◌, ℕ, List, ◌∷◌, ◌++◌, drop, Ok}
use Rattle.std.specs.Str.Lines.{strip_carriage_return}
use Rattle.grfile.specs.declared.kind.LineKind.TheVariants.{Entry}
use Rattle.grfile.specs.declared.form.Size.{Size}
use Rattle.text_lines.specs.Fields.{fields_of}
use Rattle.grfile.specs.Grammar.{Grammar, kind_of}
use Rattle.text_lines.specs.Lines.{line_feeds}

-- The text begins with a line that ends in it, and the rest follows. That line, with this number, is of an entry and
-- says this one.
pub record IsEntryBefore {E : Type 0} (grammar : Grammar E) (size : Size) (n : ℕ) (text : List ℕ) (entry : E) (rest : List ℕ) : Type 0 where
  pub line : List ℕ
  pub text_is : text ≡ line ++ 10 ∷ rest
  pub one_line : line_feeds line ≡ 0
  pub kind_is : kind_of grammar.letter (fields_of (strip_carriage_return line)) ≡ Entry
  pub says : grammar.entry_of size n (drop 1 (fields_of (strip_carriage_return line))) ≡ Ok entry
