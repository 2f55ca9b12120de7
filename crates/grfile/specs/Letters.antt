-- The letters that lines begin with, with the names of their characters.
use Rattle.std.specs.Prelude.{ℕ}
pub use Rattle.best_routes.specs.BestRoutes.{letter_c}

abbrev pub letter_a : ℕ
letter_a = 97

abbrev pub letter_p : ℕ
letter_p = 112

abbrev pub letter_q : ℕ
letter_q = 113
