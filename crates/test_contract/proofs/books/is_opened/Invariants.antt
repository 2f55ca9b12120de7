use Rattle.ch_rowbook.specs.Blanks.{name_of}
use Rattle.test_contract.proofs.books.is_opened.Given as goal

-- the book is the blank's
abbrev pub ghosts-is_read : goal.ghosts-is_read
ghosts-is_read g a = record { book = name_of a.blank }
