use Rattle.ch_rowbook.specs.Blanks.{name_of}
use Rattle.test_contract.proofs.refused.commit_and_readers.Given as goal

-- the book is the blank's, and the graph the one that is passed
abbrev pub ghosts-are_found-S-Book : goal.ghosts-are_found-S-Book
ghosts-are_found-S-Book g a = record { book = name_of a.blank }

abbrev pub ghosts-are_found-S-Site : goal.ghosts-are_found-S-Site
ghosts-are_found-S-Site g a = record { graph = a.graph }
