-- Calls that were made one after the other, by several loops over one reader or writer.
use Rattle.std.proofs.Common.{ℕ, suc, ◌≡◌, ◌+◌, inl, inr, Result, Ok, Err, arith, subst}
use Rattle.std.specs.declared.io.Error.{Error}
use Rattle.counted_io.specs.Calls.{Calls, EndsBy, FailsBy, StopsBy, Takings, Waits}
use Rattle.counted_io.specs.Limits.{GivesOut, IsRead, IsWritten, NoFailure, ReadsWithin, StopsWithin}

module _ {S : Type 0} (step : S → S → Result ℕ Error → Type 0) where
  calls_then : {m n : ℕ} {a b c : S} → Calls step m a b → Calls step n b c → Calls step (m + n) a c
  calls_then {m} {n} {a} {b} {c} h Calls.no_call = subst (λ i. Calls step i a c) (omega arith) h
  calls_then {m} {n} {a} {b} {c} h (Calls.one_more {n = k} more last) = subst (λ i. Calls step i a c) (omega arith) (Calls.one_more (calls_then h more) last)

  takings_then : {m n t u : ℕ} {a b c : S} → Takings step m t a b → Takings step n u b c → Takings step (m + n) (t + u) a c
  takings_then {m} {n} {t} {u} {a} {b} {c} h Takings.no_call = subst (λ i. Takings step i (t + 0) a c) (omega arith) (subst (λ i. Takings step m i a c) (omega arith) h)
  takings_then {m} {n} {t} {u} {a} {b} {c} h (Takings.one_more {calls = k} {taken = v} {n = w} more last) =
      let whole : Takings step (suc (m + k)) ((t + v) + w) a c = Takings.one_more (takings_then h more) last in
      subst (λ i. Takings step (m + suc k) i a c) (omega arith) (subst (λ i. Takings step i ((t + v) + w) a c) (omega arith) whole)

module _ {S : Type 0} (step : S → S → Result ℕ Error → Type 0) where
  -- no call
  pub read_none : (left : ℕ) (a : S) → IsRead step left left a a
  read_none left a = record { calls = 0; counted = omega arith; none_failed = Calls.no_call }

  -- one loop after the other
  pub read_then : {first mid last : ℕ} {a b c : S} → IsRead step first mid a b → IsRead step mid last b c → IsRead step first last a c
  read_then h k = record { calls = h.calls + k.calls; counted = omega (arith, h.counted, k.counted); none_failed = calls_then (NoFailure step) h.none_failed k.none_failed }

  -- and the second one gave out
  pub gives_out_then : {first mid : ℕ} {a b c : S} → IsRead step first mid a b → GivesOut step mid b c → GivesOut step first a c
  gives_out_then h (GivesOut.fails after reads last is) = GivesOut.fails after (read_then h reads) last is
  gives_out_then h (GivesOut.ends reads) = GivesOut.ends (read_then h reads)

  pub reads_then : {first mid : ℕ} {failed : Type 0} {a b c : S} → IsRead step first mid a b → ReadsWithin step mid failed b c → ReadsWithin step first failed a c
  reads_then h (ReadsWithin.gives_out so out) = ReadsWithin.gives_out so (gives_out_then h out)
  reads_then h (ReadsWithin.reads_on not_so all) = ReadsWithin.reads_on not_so (all.0, read_then h all.1)

  -- what is refused after calls that did not fail
  pub refused_after : {first left : ℕ} {failed : Type 0} {a b : S} → IsRead step first left a b → (failed → ⊥) → ReadsWithin step first failed a b
  refused_after {left = left} h not_so = ReadsWithin.reads_on not_so (left, h)

  -- what is refused because the reader gave out after them
  pub failed_after : {first mid : ℕ} {failed : Type 0} {a b c : S} → IsRead step first mid a b → failed → GivesOut step mid b c → ReadsWithin step first failed a c
  failed_after h so out = ReadsWithin.gives_out so (gives_out_then h out)

  waits_give : {n : ℕ} {a b : S} → Waits step n a b → Calls (NoFailure step) n a b
  waits_give Waits.no_call = Calls.no_call
  waits_give (Waits.one_more {answer = Ok n} waits last is) = absurd is
  waits_give (Waits.one_more {answer = Err e} waits last is) = Calls.one_more (waits_give waits) (last, is)

  -- one loop that returned how many bytes came
  pub read_by : (before after n : ℕ) {a b : S} → (calls : ℕ) × (before ≡ after + calls) × EndsBy step calls a b (Ok n) → IsRead step before after a b
  read_by before after n ends = record { calls = suc ends.2.interruptions; counted = omega (arith, ends.1, ends.2.calls_are); none_failed = Calls.one_more (waits_give ends.2.waits) (ends.2.last, tt) }

  -- and one that was refused
  pub gave_out : (before after : ℕ) {a b : S} → (calls : ℕ) × (before ≡ after + calls) × FailsBy step calls after a b → GivesOut step before a b
  gave_out before after (calls, count, inl ends) =
      GivesOut.fails after (record { calls = ends.2.interruptions; counted = omega (arith, count, ends.2.calls_are); none_failed = waits_give ends.2.waits }) ends.2.last ends.1
  gave_out before after (calls, count, inr waits) = GivesOut.ends (record { calls = calls; counted = omega (arith, count, waits.0); none_failed = waits_give waits.1 })

  -- no call of a writer
  pub written_none : (left : ℕ) (a : S) → IsWritten step left left 0 a a
  written_none left a = (0, omega arith, Takings.no_call)

  -- one loop over a writer after the other
  pub written_then : (first mid last taken more : ℕ) {a b c : S} → IsWritten step first mid taken a b → IsWritten step mid last more b c → IsWritten step first last (taken + more) a c
  written_then first mid last taken more h k = (h.0 + k.0, omega (arith, h.1, k.1), takings_then step h.2 k.2)

  stops_after : (m n left t u : ℕ) {a b c : S} → Takings step m t a b → StopsBy step n left u b c → StopsBy step (m + n) left (t + u) a c
  stops_after m n left t u h (inl refused) = inl (record {
    earlier = m + refused.earlier;
    before = refused.before;
    answer = refused.answer;
    takes = takings_then step h refused.takes;
    last = refused.last;
    refuses = refused.refuses;
    calls_are = omega (arith, refused.calls_are);
  })
  stops_after m n left t u h (inr takes) = inr (takes.0, takings_then step h takes.1)

  -- and the second one was refused
  pub stops_then : (first mid taken more : ℕ) {a b c : S} → IsWritten step first mid taken a b → StopsWithin step mid more b c → StopsWithin step first (taken + more) a c
  stops_then first mid taken more h k = (h.0 + k.0, k.1, omega (arith, h.1, k.2), stops_after h.0 k.0 k.1 taken more h.2 k.3)
