use Rattle.ch_rowbook.specs.Blanks.{name_of}
use Rattle.ch_workers.proofs.finishing.sweep.Given as goal

abbrev pub ghosts-sweep_named-S-Book : goal.ghosts-sweep_named-S-Book
ghosts-sweep_named-S-Book g a = record { book = name_of a.blank }

abbrev pub ghosts-sweep_named-S-Site : goal.ghosts-sweep_named-S-Site
ghosts-sweep_named-S-Site g a = record { graph = a.ledger.graph }
