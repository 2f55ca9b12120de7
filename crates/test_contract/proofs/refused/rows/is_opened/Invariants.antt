use Rattle.ch_rowbook.specs.Blanks.{name_of}
use Rattle.test_contract.proofs.refused.rows.is_opened.Given as goal

-- the book is the blank's
abbrev pub ghosts-is_kept : goal.ghosts-is_kept
ghosts-is_kept g a = record { book = name_of a.blank }
