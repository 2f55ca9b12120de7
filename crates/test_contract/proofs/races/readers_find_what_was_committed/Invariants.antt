use Rattle.ch_rowbook.specs.Blanks.{name_of}
use Rattle.test_contract.proofs.races.readers_find_what_was_committed.Given as goal

-- the book is the blank's, and the graph the one that is passed
abbrev pub ghosts-race-S-Book : goal.ghosts-race-S-Book
ghosts-race-S-Book g a = record { book = name_of a.blank }

abbrev pub ghosts-race-S-Site : goal.ghosts-race-S-Site
ghosts-race-S-Site g a = record { graph = a.graph }
