use Rattle.ch_rowbook.specs.Blanks.{name_of}
use Rattle.test_contract.proofs.searches.searches_by_a_board_and_its_reader.Given as goal

-- the book is the blank's, and the graph the one that is passed
abbrev pub ghosts-both_find-S-Book : goal.ghosts-both_find-S-Book
ghosts-both_find-S-Book g a = record { book = name_of a.blank }

abbrev pub ghosts-both_find-S-Site : goal.ghosts-both_find-S-Site
ghosts-both_find-S-Site g a = record { graph = a.graph }
