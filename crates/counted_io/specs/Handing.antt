-- Bytes that come from a reader and go to a writer in a counted number of calls.
use Rattle.std.specs.Prelude.{ℕ, ◌≡◌, ◌+◌, ◌*◌, ◌<◌, ◌≤◌, List, ◌++◌, length, Option, IfSome}
use Rattle.std.specs.Io.KnownBytes.{Appends, Consumes}

-- The writer took the first of these bytes, the rest is what follows them, and the count of written bytes grew by as
-- many as were taken.
pub record HandsOn (old new : Option (List ℕ)) (bytes rest : List ℕ) (before after : ℕ) : Type 0 where
  pub taken : List ℕ
  pub parts : bytes ≡ taken ++ rest
  pub given : Appends old new taken
  pub counted : after ≡ before + length taken

-- The writer took the first of these bytes, but not all of them, and the count of written bytes grew by as many.
pub record HandsOnPart (old new : Option (List ℕ)) (bytes : List ℕ) (before after : ℕ) : Type 0 where
  pub rest : List ℕ
  pub some : 0 < length rest
  pub first : HandsOn old new bytes rest before after

-- This many calls give all that a reader has, where that is known: 65,536 bytes at most in each but the last, which finds
-- the end.
abbrev pub IsGivenBy : ℕ → Option (List ℕ) → Type 0
IsGivenBy calls had = IfSome had (λ bytes. length bytes + 65536 ≤ calls * 65536)

-- A reader gave some bytes, which are behind those that were there before.
pub record Gathers (had left : Option (List ℕ)) (before after : List ℕ) : Type 0 where
  pub bytes : List ℕ
  pub is : after ≡ before ++ bytes
  pub consumed : Consumes had left bytes
