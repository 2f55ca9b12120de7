-- The bytes that lines are cut and numbers are read by, with the names of their characters.
use Rattle.std.specs.Prelude.{ℕ}

abbrev pub tab : ℕ
tab = 9

abbrev pub line_feed : ℕ
line_feed = 10

abbrev pub space : ℕ
space = 32

abbrev pub digit_0 : ℕ
digit_0 = 48
