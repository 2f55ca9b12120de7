-- What holds of rows that are found, through a result.
use Rattle.std.proofs.Common.{ℕ, ◌≡◌, Result, Ok, Err}
use Rattle.std.specs.Result.{OnOk}
use Rattle.ch_witness.specs.declared.error.SearchError.{SearchError}
use Rattle.ch_witness.specs.declared.error.SearchError.TheVariants.{OutOfMemory, Unseen}
use Rattle.ch_witness.specs.Kept.{Kept, finds_unless, FindsRows}

-- what holds of each result
pub on_ok : {T E P : Type 0} (r : Result T E) → P → OnOk r P
on_ok (Ok x) p = p
on_ok (Err e) p = tt

-- what follows where a call has gone well
pub on_ok_too : {T E P Q : Type 0} (r : Result T E) → (P → Q) → OnOk r P → OnOk r Q
on_ok_too (Ok x) to p = to p
on_ok_too (Err e) to p = tt

-- where memory ran out
pub finds_short : {T : Type 0} (IsKind : ℕ → Type 0) (kept : Kept) (r : Result T SearchError) (e : SearchError) → r ≡ Err e → e ≡ OutOfMemory → FindsRows Unseen IsKind kept r
finds_short IsKind kept r e is memory = finds_unless Unseen IsKind kept r e is (λ unseen. apart e memory unseen) where
  apart : (e : SearchError) → e ≡ OutOfMemory → e ≡ Unseen → ⊥
  apart e f h = absurd (cc)
