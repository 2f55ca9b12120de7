use Rattle.ch_rowbook.specs.Blanks.{name_of}
use Rattle.test_contract.proofs.ready.are_rows.Given as goal

-- the book is the blank's, and the graph the one that is passed
abbrev pub ghosts-leads_to-S-Book : goal.ghosts-leads_to-S-Book
ghosts-leads_to-S-Book g a = record { book = name_of a.blank }

abbrev pub ghosts-leads_to-S-Site : goal.ghosts-leads_to-S-Site
ghosts-leads_to-S-Site g a = record { graph = a.graph }
