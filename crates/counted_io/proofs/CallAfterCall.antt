-- Calls that were made one after the other.
use Rattle.std.proofs.Common.{ℕ, suc, ◌≡◌, ◌≢◌, ◌+◌, ◌-◌, ◌<◌, inl, inr, Bool, true, false, IsTrue, Result, Err, arith, refl, subst}
use Rattle.std.specs.IoError.{error_kind}
use Rattle.std.specs.declared.io.Error.{Error}
use Rattle.std.specs.declared.io.ErrorKind.TheVariants.{Interrupted}
use Rattle.counted_io.specs.Calls.{Calls, IsCalled, RefusesBy, IsFailedWrite, Waits, EndsBy, FailsBy, TakesBy, Takings, StopsBy}

-- a test that was false
pub not_so : {P : Type 0} (b : Bool) → (P → IsTrue b) → b ≡ false → P → ⊥
not_so b if_so is so = let yes_it_is : b ≡ true = if_so so in cc

module _ {S A : Type 0} (step : S → S → Result A Error → Type 0) (first left : ℕ) (old mid new : S) (some : 0 < left) (waits : (calls : ℕ) × (first ≡ left + calls) × Waits step calls old mid) where
  -- one more call was interrupted
  pub wait_more : (e : Error) → step mid new (Err e) → error_kind e ≡ Interrupted → (calls : ℕ) × (first ≡ left - 1 + calls) × Waits step calls old new
  wait_more e last is = (suc waits.0, omega (arith, some, waits.1), Waits.one_more waits.2 last is)

  -- one more call ended it
  pub ends_by : (answer : Result A Error) → step mid new answer → (calls : ℕ) × (first ≡ left - 1 + calls) × EndsBy step calls old new answer
  ends_by answer last = (waits.0 + 1, omega (arith, some, waits.1), record { interruptions = waits.0; before = mid; waits = waits.2; last = last; calls_are = refl })

  -- and failed
  pub fails_by : (e : Error) → step mid new (Err e) → error_kind e ≢ Interrupted → (calls : ℕ) × (first ≡ left - 1 + calls) × FailsBy step calls (left - 1) old new
  fails_by e last no_wait = let ends = ends_by (Err e) last in (ends.0, ends.1, inl (Err e, no_wait, ends.2))

module _ {S : Type 0} (step : S → S → Result ℕ Error → Type 0) (first left taken : ℕ) (old mid new : S) (some : 0 < left) (takes : (calls : ℕ) × (first ≡ left + calls) × Takings step calls taken old mid) where
  -- one more call took some bytes or was interrupted
  pub take_more : (n : ℕ) → TakesBy step n mid new → (calls : ℕ) × (first ≡ left - 1 + calls) × Takings step calls (taken + n) old new
  take_more n last = (suc takes.0, omega (arith, some, takes.1), Takings.one_more takes.2 last)

  -- one more call failed, or took no byte
  pub stop_by : (answer : Result ℕ Error) → IsFailedWrite answer → step mid new answer → (calls : ℕ) × (first ≡ left - 1 + calls) × StopsBy step calls (left - 1) taken old new
  stop_by answer refuses last =
      (takes.0 + 1, omega (arith, some, takes.1), inl (record { earlier = takes.0; before = mid; answer = answer; takes = takes.2; last = last; refuses = refuses; calls_are = refl }))

module _ {S A : Type 0} (step : S → S → Result A Error → Type 0) where
  waits_are_calls : {n : ℕ} {a b : S} → Waits step n a b → Calls step n a b
  waits_are_calls Waits.no_call = Calls.no_call
  waits_are_calls (Waits.one_more waits last is) = Calls.one_more (waits_are_calls waits) last

  ends_are_calls : {n : ℕ} {a b : S} {answer : Result A Error} → EndsBy step n a b answer → Calls step n a b
  ends_are_calls {n} {a} {b} ends = subst (λ m. Calls step m a b) (omega (arith, ends.calls_are)) (Calls.one_more (waits_are_calls ends.waits) ends.last)

  -- so the calls of each end are those that are gone
  pub called_to_end : (before after : ℕ) {a b : S} {answer : Result A Error} → (calls : ℕ) × (before ≡ after + calls) × EndsBy step calls a b answer → IsCalled step before after a b
  called_to_end before after ends = (ends.0, ends.1, ends_are_calls ends.2)

  fails_are_calls : {n left : ℕ} {a b : S} → FailsBy step n left a b → Calls step n a b
  fails_are_calls (inl fails) = ends_are_calls fails.2
  fails_are_calls (inr waits) = waits_are_calls waits.1

  pub called_to_failure : (before after : ℕ) {left : ℕ} {a b : S} → (calls : ℕ) × (before ≡ after + calls) × FailsBy step calls left a b → IsCalled step before after a b
  called_to_failure before after fails = (fails.0, fails.1, fails_are_calls fails.2)

  pub called_to_wait : (before after : ℕ) {a b : S} → (calls : ℕ) × (before ≡ after + calls) × Waits step calls a b → IsCalled step before after a b
  called_to_wait before after waits = (waits.0, waits.1, waits_are_calls waits.2)

module _ {S : Type 0} (step : S → S → Result ℕ Error → Type 0) where
  takings_are_calls : {n taken : ℕ} {a b : S} → Takings step n taken a b → Calls step n a b
  takings_are_calls Takings.no_call = Calls.no_call
  takings_are_calls (Takings.one_more takes (inl last)) = Calls.one_more (takings_are_calls takes) last.1
  takings_are_calls (Takings.one_more takes (inr last)) = Calls.one_more (takings_are_calls takes) last.1.2

  pub called_to_take : (before after : ℕ) {taken : ℕ} {a b : S} → (calls : ℕ) × (before ≡ after + calls) × Takings step calls taken a b → IsCalled step before after a b
  called_to_take before after takes = (takes.0, takes.1, takings_are_calls takes.2)

  refuses_are_calls : {n taken : ℕ} {a b : S} → RefusesBy step n taken a b → Calls step n a b
  refuses_are_calls {n} {taken} {a} {b} stops = subst (λ m. Calls step m a b) (omega (arith, stops.calls_are)) (Calls.one_more (takings_are_calls stops.takes) stops.last)

  stops_are_calls : {n left taken : ℕ} {a b : S} → StopsBy step n left taken a b → Calls step n a b
  stops_are_calls (inl refuses) = refuses_are_calls refuses
  stops_are_calls (inr takes) = takings_are_calls takes.1

  pub called_to_stop : (before after : ℕ) {left taken : ℕ} {a b : S} → (calls : ℕ) × (before ≡ after + calls) × StopsBy step calls left taken a b → IsCalled step before after a b
  called_to_stop before after stops = (stops.0, stops.1, stops_are_calls stops.2)
