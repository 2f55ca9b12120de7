-- What holds of a value that a call returned.
use Rattle.std.proofs.Common.{ℕ, ◌≡◌, Result, Ok, Err, subst}
use Rattle.std.specs.Result.{IfOk, OnOk}
use Rattle.ch_witness.specs.Kept.{Kept, AllNamed, FindsRows}

pub at_ok : {T E : Type 0} (P : T → Type 0) {r : Result T E} {t : T} → r ≡ Ok t → IfOk r P → P t
at_ok {T} {E} P is h = subst (λ (q : Result T E). IfOk q P) is h

pub named_at : {T E : Type 0} (unseen : E) (IsKind : ℕ → Type 0) (kept : Kept) {r : Result T E} {t : T} → r ≡ Ok t → FindsRows unseen IsKind kept r → AllNamed IsKind kept
named_at {T} {E} unseen IsKind kept is h = subst (λ (q : Result T E). FindsRows unseen IsKind kept q) is h

-- what follows from two facts
pub on_both : {T E P Q R : Type 0} (r : Result T E) → (P → Q → R) → OnOk r P → OnOk r Q → OnOk r R
on_both (Ok x) f p q = f p q
on_both (Err e) f p q = tt
