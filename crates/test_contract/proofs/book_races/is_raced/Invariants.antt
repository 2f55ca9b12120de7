use Rattle.ch_rowbook.specs.Blanks.{name_of}
use Rattle.test_contract.proofs.book_races.is_raced.Given as goal

-- the book is the blank's
abbrev pub ghosts-race : goal.ghosts-race
ghosts-race g a = record { book = name_of a.blank }
