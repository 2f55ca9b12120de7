use Rattle.ch_rowbook.specs.Blanks.{name_of}
use Rattle.test_contract.proofs.boards.nodes_left.Given as goal

-- the book is the blank's, and the graph the one that is passed
abbrev pub ghosts-has_nodes_left-S-Book : goal.ghosts-has_nodes_left-S-Book
ghosts-has_nodes_left-S-Book g a = record { book = name_of a.blank }

abbrev pub ghosts-has_nodes_left-S-Site : goal.ghosts-has_nodes_left-S-Site
ghosts-has_nodes_left-S-Site g a = record { graph = a.graph }
