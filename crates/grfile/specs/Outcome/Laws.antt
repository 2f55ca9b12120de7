-- What is said of a result that comes of one step after the other.
use Rattle.std.proofs.Common.{◌≡◌, Bool, true, false, if◌then◌else◌, Result, Ok, Err, refl}
use Rattle.std.specs.Result.{IfOk}
use Rattle.grfile.specs.declared.error.GrError.{GrError}
use Rattle.grfile.specs.Outcome.{◌>>=◌}

pub bind_ok : {A B : Type 0} (r : Result A GrError) (f : A → Result B GrError) (P : A → Type 0) (Q : B → Type 0) → IfOk r P → ((a : A) → P a → IfOk (f a) Q) → IfOk (r >>= f) Q
bind_ok (Ok x) f P Q h next = next x h
bind_ok (Err e) f P Q h next = tt

pub then_ok : {A B : Type 0} (r : Result A GrError) (f : A → Result B GrError) (Q : B → Type 0) → ((a : A) → IfOk (f a) Q) → IfOk (r >>= f) Q
then_ok (Ok x) f Q next = next x
then_ok (Err e) f Q next = tt

pub test_ok : {A : Type 0} (b : Bool) (e : GrError) (r : Result A GrError) (Q : A → Type 0) → (b ≡ false → IfOk r Q) → IfOk (if b then Err e else r) Q
test_ok true e r Q h = tt
test_ok false e r Q h = h refl
