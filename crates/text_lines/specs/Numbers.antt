-- The numbers that fields spell.
use Rattle.std.specs.Prelude.{ℕ, ◌≡◌, ◌+◌, ◌-◌, ◌*◌, ◌^◌, min, if◌then◌else◌, List, [], ◌∷◌, ◌++◌, Option, Some, None}
use Rattle.std.specs.Str.{all_ascii_digits}
use Rattle.text_lines.specs.Letters.{digit_0}

-- the number that is spelled by the digits of n and these after them
abbrev pub value_after : ℕ → List ℕ → ℕ
value_after n [] = n
value_after n (b ∷ bs) = value_after (10 * n + (b - digit_0)) bs

-- the number that a field spells, of any size: one decimal digit or more
abbrev pub number_of : List ℕ → Option ℕ
number_of [] = None
number_of (b ∷ bs) = if all_ascii_digits (b ∷ bs) then Some (value_after 0 (b ∷ bs)) else None

-- a number that would pass 2^64 - 1 stays there
abbrev pub capped : ℕ → ℕ
capped n = min n (2 ^ 64 - 1)

-- The text begins with a field that spells this number. Then comes the byte stop, and then the rest.
pub record IsNumberBefore (stop : ℕ) (text : List ℕ) (number : ℕ) (rest : List ℕ) : Type 0 where
  pub field : List ℕ
  pub text_is : text ≡ field ++ stop ∷ rest
  pub spells : number_of field ≡ Some number
