-- What a writer took of some bytes.
use Rattle.std.proofs.Common.{ℕ, ◌+◌, ◌-◌, ◌<◌, ◌≤◌, List, length, take, drop, Option, sym, subst, arith}
use Rattle.std.specs.Io.KnownBytes.{Appends}
use Rattle.std.proofs.KnownBytes.{Appends-trans}
use Rattle.std.proofs.Math.Seq.{take-add}
use Rattle.std.proofs.lemmas.List.{take-append-drop, length-take-le, length-drop, take_rest}
use Rattle.counted_io.specs.Handing.{HandsOn, HandsOnPart}

-- the first bytes, and then the first of the rest
pub appends-take_more : (old mid new : Option (List ℕ)) (n m : ℕ) (bytes : List ℕ) → Appends old mid (take n bytes) → Appends mid new (take m (take (length bytes - n) (drop n bytes)))
    → Appends old new (take (n + m) bytes)
appends-take_more old mid new n m bytes p q =
    subst (Appends old new) (sym (take-add n m bytes)) (Appends-trans old mid new _ _ p (subst (λ rest. Appends mid new (take m rest)) (take_rest bytes n) q))

-- this many of the bytes were taken
pub hands_on_first : (old new : Option (List ℕ)) (bytes : List ℕ) (n before : ℕ) → n ≤ length bytes → Appends old new (take n bytes) → HandsOn old new bytes (drop n bytes) before (before + n)
hands_on_first old new bytes n before within given = record {
  taken = take n bytes;
  parts = sym (take-append-drop n bytes);
  given = given;
  counted = let count = length-take-le n bytes within in omega arith;
}

-- but not all
pub hands_on_part : (old new : Option (List ℕ)) (bytes : List ℕ) (n before : ℕ) → n < length bytes → Appends old new (take n bytes) → HandsOnPart old new bytes before (before + n)
hands_on_part old new bytes n before within given = record {
  rest = drop n bytes;
  some = let left = length-drop n bytes in omega arith;
  first = hands_on_first old new bytes n before (omega arith) given;
}
