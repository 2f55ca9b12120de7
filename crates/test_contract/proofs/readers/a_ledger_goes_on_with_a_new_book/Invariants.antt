use Rattle.ch_rowbook.specs.Blanks.{name_of}
use Rattle.test_contract.proofs.readers.a_ledger_goes_on_with_a_new_book.Given as goal

-- each book is the blank's, and the graph the one that is passed
abbrev pub ghosts-taken_out-S-Book : goal.ghosts-taken_out-S-Book
ghosts-taken_out-S-Book g a = record { book = name_of a.blank }

abbrev pub ghosts-taken_out-S-Site : goal.ghosts-taken_out-S-Site
ghosts-taken_out-S-Site g a = record { graph = a.graph }

abbrev pub ghosts-goes_on-S-Book : goal.ghosts-goes_on-S-Book
ghosts-goes_on-S-Book g a = record { book = name_of a.blank }

abbrev pub ghosts-goes_on-S-Site : goal.ghosts-goes_on-S-Site
ghosts-goes_on-S-Site g a = record { graph = a.ledger.graph }
