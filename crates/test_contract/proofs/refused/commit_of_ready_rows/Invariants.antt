use Rattle.ch_rowbook.specs.Blanks.{name_of}
use Rattle.test_contract.proofs.refused.commit_of_ready_rows.Given as goal

-- the book is the blank's, and the graph the one that is passed
abbrev pub ghosts-is_ready-S-Book : goal.ghosts-is_ready-S-Book
ghosts-is_ready-S-Book g a = record { book = name_of a.blank }

abbrev pub ghosts-is_ready-S-Site : goal.ghosts-is_ready-S-Site
ghosts-is_ready-S-Site g a = record { graph = a.graph }
