use Rattle.ch_rowbook.specs.Blanks.{name_of}
use Rattle.test_contract.proofs.refused.goes_on_again.Given as goal

-- the book is the blank's, and the graph the ledger's
abbrev pub ghosts-goes_on-S-Book : goal.ghosts-goes_on-S-Book
ghosts-goes_on-S-Book g a = record { book = name_of a.blank }

abbrev pub ghosts-goes_on-S-Site : goal.ghosts-goes_on-S-Site
ghosts-goes_on-S-Site g a = record { graph = a.ledger.graph }
