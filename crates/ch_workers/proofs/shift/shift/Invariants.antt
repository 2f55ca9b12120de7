use Rattle.ch_rowbook.specs.Blanks.{name_of}
use Rattle.ch_workers.proofs.shift.shift.Given as goal

abbrev pub ghosts-shift_named-S-Book : goal.ghosts-shift_named-S-Book
ghosts-shift_named-S-Book g a = record { book = name_of a.blank }

abbrev pub ghosts-shift_named-S-Site : goal.ghosts-shift_named-S-Site
ghosts-shift_named-S-Site g a = record { graph = a.work.ledger.graph }
