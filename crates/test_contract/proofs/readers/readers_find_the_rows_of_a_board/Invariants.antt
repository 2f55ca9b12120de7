use Rattle.ch_rowbook.specs.Blanks.{name_of}
use Rattle.test_contract.proofs.readers.readers_find_the_rows_of_a_board.Given as goal

-- the book is the blank's, and the graph the one that is passed
abbrev pub ghosts-follows-S-Book : goal.ghosts-follows-S-Book
ghosts-follows-S-Book g a = record { book = name_of a.blank }

abbrev pub ghosts-follows-S-Site : goal.ghosts-follows-S-Site
ghosts-follows-S-Site g a = record { graph = a.graph }
