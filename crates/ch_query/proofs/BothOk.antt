-- What holds of a result where two other things do.
use Rattle.std.proofs.Common.{Result, Ok, Err, IfOk}

pub if_ok-both : {T E : Type 0} (result : Result T E) {P Q R : T → Type 0} → ((x : T) → P x → Q x → R x) → IfOk result P → IfOk result Q → IfOk result R
if_ok-both (Ok x) both first second = both x first second
if_ok-both (Err e) both first second = tt
