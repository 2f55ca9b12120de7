-- Blanks: books that no type names yet.
use Rattle.ch_rowbook.specs.declared.blank.Blank.{Blank}
use Rattle.ch_rowbook.specs.Books.{BookName}

-- what a type that names the blank's book says
abbrev pub name_of : Blank → BookName
name_of b = record { list = b.list; words = b.table.shared.table_id; nodes = b.nodes; bound = b.bound }
