-- What a sink passes on and gathers.
use Rattle.std.specs.Bool.{⊤}
use Rattle.std.specs.Prelude.{IfErr, OnOk, is_some}
use Rattle.std.specs.Result.{result_err}
use Rattle.std.proofs.Common.{ℕ, ◌≡◌, ◌+◌, List, [], ◌++◌, length, Option, None, Some, Result, Ok, Err, false, arith, refl, sym, subst, ◌∙◌, append-nil}
use Rattle.std.specs.declared.io.Error.{Error}
use Rattle.std.proofs.KnownBytes.{Appends-nil}
use Rattle.counted_io.specs.declared.writing.WriteFault.{WriteFault}
use Rattle.counted_io.specs.Calls.{StopsBy, Takings}
use Rattle.counted_io.specs.Handing.{HandsOn, HandsOnPart}
use Rattle.counted_io.specs.Limits.{IsWritten, StopsWithin}
use Rattle.counted_io.specs.Limits.Laws.{written_none}
use Rattle.counted_io.specs.Sinks.{Gathered, Puts, PutsBy, none_waits}

module _ {S : Type 0} (step : S → S → Result ℕ Error → Type 0) (contents : S → Option (List ℕ)) where
  -- one write, whose failure was kept
  pub kept : {m n p q : ℕ} {a b : S} {bytes : List ℕ} (was : Option WriteFault) (result : Result ⊤ WriteFault) → is_some was ≡ false
      → OnOk result (HandsOn (contents a) (contents b) bytes [] m p) → OnOk result ((calls : ℕ) × (n ≡ q + calls) × Takings step calls (length bytes) a b)
      → IfErr result (λ fault. HandsOnPart (contents a) (contents b) bytes m fault.written) → IfErr result (λ fault. (calls : ℕ) × (taken : ℕ) × (n ≡ q + calls) × (fault.written ≡ m + taken) × StopsBy step calls q taken a b)
      → Puts step contents (none_waits m n was) (none_waits p q (result_err result)) a b bytes
  kept (Some fault) result none ok taken err stopped = absurd (cc)
  kept {n = n} {q = q} {a = a} {b = b} None (Ok u) none ok taken err stopped = record {
    all = record { handed = ok; calls = subst (λ (l : List ℕ). IsWritten step n q (length l) a b) (ok.parts ∙ append-nil ok.taken) taken };
  }
  kept {n = n} {q = q} {a = a} {b = b} None (Err fault) none ok taken err stopped =
      let count : stopped.1 ≡ length err.first.taken = omega (arith, stopped.3, err.first.counted) in
      record { all = (err.rest, err.some, record { handed = err.first; calls = subst (λ (t : ℕ). StopsWithin step n t a b) count (stopped.0, q, stopped.2, stopped.4) }) }

  passed_by : (m n p q : ℕ) (waiting : List ℕ) (a b : S) (bytes : List ℕ) (was now : Option WriteFault) → PutsBy step contents (none_waits m n was) (none_waits p q now) a b bytes was now
      → PutsBy step contents (record { waiting = waiting; written = m; left = n; fault = was }) (none_waits p q now) a b bytes was now
  passed_by m n p q waiting a b bytes None None h = h
  passed_by m n p q waiting a b bytes None (Some fault) h = h
  passed_by m n p q waiting a b bytes (Some fault) None h = h
  passed_by m n p q waiting a b bytes (Some fault) (Some next) h = h

  -- what waited was passed on, and then these bytes
  pub passed : (m n p q : ℕ) (waiting last : List ℕ) (a b : S) (bytes : List ℕ) (was now : Option WriteFault) {x : Gathered} → record { waiting = waiting; written = m; left = n; fault = was } ≡ x → last ≡ []
      → Puts step contents (none_waits m n was) (none_waits p q now) a b (waiting ++ bytes) → Puts step contents x (record { waiting = last; written = p; left = q; fault = now }) a b bytes
  passed m n p q waiting last a b bytes was now is empty h =
      subst (λ (g : Gathered). Puts step contents g (record { waiting = last; written = p; left = q; fault = now }) a b bytes) is
      (subst (λ (l : List ℕ). Puts step contents (record { waiting = waiting; written = m; left = n; fault = was }) (record { waiting = l; written = p; left = q; fault = now }) a b bytes) (sym empty)
      (record { all = passed_by m n p q waiting a b (waiting ++ bytes) was now h.all }))

  gathered_by : (x : Gathered) (a : S) (bytes : List ℕ) (was : Option WriteFault)
      → PutsBy step contents x (record { waiting = x.waiting ++ bytes; written = x.written; left = x.left; fault = x.fault }) a a (x.waiting ++ bytes) was was
  gathered_by x a bytes None = record { handed = record { taken = []; parts = refl; given = Appends-nil (contents a); counted = omega arith }; calls = written_none step x.left a }
  gathered_by x a bytes (Some fault) = (refl, refl)

  -- bytes were gathered behind those that waited
  pub gathered : (x y : Gathered) (a : S) (bytes : List ℕ) → y ≡ record { waiting = x.waiting ++ bytes; written = x.written; left = x.left; fault = x.fault } → Puts step contents x y a a bytes
  gathered x y a bytes is = subst (λ (g : Gathered). Puts step contents x g a a bytes) (sym is) (record { all = gathered_by x a bytes x.fault })
