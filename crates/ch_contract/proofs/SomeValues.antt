-- Values that are there.
use Rattle.std.proofs.Common.{◌≡◌, Some}

pub some-same : {A : Type 0} (a b : A) → Some a ≡ Some b → a ≡ b
some-same a b e = cc
