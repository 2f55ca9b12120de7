use Rattle.ch_rowbook.specs.Blanks.{name_of}
use Rattle.test_contract.proofs.refused.board_and_reader.Given as goal

-- the book is the blank's, and the graph the one that is passed
abbrev pub ghosts-is_seen-S-Book : goal.ghosts-is_seen-S-Book
ghosts-is_seen-S-Book g a = record { book = name_of a.blank }

abbrev pub ghosts-is_seen-S-Site : goal.ghosts-is_seen-S-Site
ghosts-is_seen-S-Site g a = record { graph = a.graph }
