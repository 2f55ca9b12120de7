-- Bytes that are put into a sink, one part after the other.
use Rattle.std.specs.Bool.{⊤}
use Rattle.std.proofs.Common.{ℕ, ◌≡◌, ◌<◌, List, [], ◌++◌, length, take, Option, None, Some, Result, Ok, Err, true, false, arith, refl, sym, ap, subst, ◌∙◌, append_assoc, append-nil, length-append}
use Rattle.std.specs.Prelude.{is_some, IfErr, OnOk}
use Rattle.std.specs.Io.KnownBytes.{Appends}
use Rattle.std.specs.declared.io.Error.{Error}
use Rattle.std.proofs.KnownBytes.{Appends-nil, Appends-trans}
use Rattle.std.proofs.Math.Seq.{take-append_seam}
use Rattle.counted_io.specs.declared.writing.WriteFault.{WriteFault}
use Rattle.counted_io.specs.Handing.{HandsOn}
use Rattle.counted_io.specs.Limits.{IsWritten, IsWrittenWithin, StopsWithin}
use Rattle.counted_io.specs.Limits.Laws.{stops_then, written_none, written_then}
use Rattle.counted_io.specs.Sinks.{Finishes, Gathered, Puts, PutsBy, WritesAll, has_failed, nothing_put}

-- what was passed of one text, and then of what waited with more behind it
hands_then : {a b c : Option (List ℕ)} {first waiting rest : List ℕ} {before between after : ℕ} (more : List ℕ) → HandsOn a b first waiting before between → HandsOn b c (waiting ++ more) rest between after → HandsOn a c (first ++ more) rest before after
hands_then {a} {b} {c} {waiting = waiting} {rest = rest} more h k = record {
  taken = h.taken ++ k.taken;
  parts = ap (λ (l : List ℕ). l ++ more) h.parts ∙ append_assoc h.taken waiting more ∙ ap (λ (l : List ℕ). h.taken ++ l) k.parts ∙ sym (append_assoc h.taken k.taken rest);
  given = Appends-trans a b c h.taken k.taken h.given k.given;
  counted = omega (arith, h.counted, k.counted, length-append h.taken k.taken);
}

-- the same, with more behind what is left
hands_more : {a b : Option (List ℕ)} {bytes rest : List ℕ} {before after : ℕ} (more : List ℕ) → HandsOn a b bytes rest before after → HandsOn a b (bytes ++ more) (rest ++ more) before after
hands_more {rest = rest} more h = record {
  taken = h.taken;
  parts = ap (λ (l : List ℕ). l ++ more) h.parts ∙ append_assoc h.taken rest more;
  given = h.given;
  counted = h.counted;
}

module _ {S : Type 0} (step : S → S → Result ℕ Error → Type 0) (contents : S → Option (List ℕ)) where
  nothing_by : (x : Gathered) (a : S) (was : Option WriteFault) → PutsBy step contents x x a a (x.waiting ++ []) was was
  nothing_by x a None = record {
    handed = record { taken = []; parts = append-nil x.waiting; given = Appends-nil (contents a); counted = omega arith };
    calls = written_none step x.left a;
  }
  nothing_by x a (Some fault) = (refl, refl)

  then_by : (x y z : Gathered) (a b c : S) (first second : List ℕ) (f g h : Option WriteFault) → PutsBy step contents x y a b first f g → PutsBy step contents y z b c (y.waiting ++ second) g h → PutsBy step contents x z a c (first ++ second) f h
  unfolding hands_then hands_more
  then_by x y z a b c first second None None None p q = record {
    handed = hands_then second p.handed q.handed;
    calls = subst (λ (n : ℕ). IsWritten step x.left z.left n a c) (sym (length-append p.handed.taken q.handed.taken)) (written_then step x.left y.left z.left _ _ p.calls q.calls);
  }
  then_by x y z a b c first second None None (Some fault) p (rest, some, q) = (
    rest,
    some,
    record {
      handed = hands_then second p.handed q.handed;
      calls = subst (λ (n : ℕ). StopsWithin step x.left n a c) (sym (length-append p.handed.taken q.handed.taken)) (stops_then step x.left y.left _ _ p.calls q.calls);
    },
  )
  then_by x y z a b c first second None (Some fault) None p q = absurd q
  then_by x y z a b c first second None (Some fault) (Some last) (rest, some, p) (same, unchanged) =
      subst (λ (f : WriteFault). PutsBy step contents x z a c (first ++ second) None (Some f)) (sym same)
      (subst (λ (w : S). PutsBy step contents x z a w (first ++ second) None (Some fault)) (sym unchanged)
      (rest ++ second, omega (arith, some, length-append rest second), record { handed = hands_more second p.handed; calls = p.calls }))
  then_by x y z a b c first second (Some fault) None h p q = absurd p
  then_by x y z a b c first second (Some fault) (Some next) None p q = absurd q
  then_by x y z a b c first second (Some fault) (Some next) (Some last) p q = (q.0 ∙ p.0, q.1 ∙ p.1)

  failed_by : (x : Gathered) (a : S) (bytes : List ℕ) (was : Option WriteFault) → is_some was ≡ true → PutsBy step contents x x a a bytes was was
  failed_by x a bytes None failed = absurd (cc)
  failed_by x a bytes (Some fault) failed = (refl, refl)

  goes_by : (x y : Gathered) (a b : S) (bytes : List ℕ) (was now : Option WriteFault) → now ≡ None → PutsBy step contents x y a b bytes was now → is_some was ≡ false
  goes_by x y a b bytes None now is p = refl
  goes_by x y a b bytes (Some fault) None is p = absurd p
  goes_by x y a b bytes (Some fault) (Some next) is p = absurd (cc)

  all_by : (most : ℕ) (y : Gathered) (a b : S) (bytes : List ℕ) (now : Option WriteFault) → now ≡ None → y.waiting ≡ [] → PutsBy step contents (nothing_put most) y a b bytes None now
      → Appends (contents a) (contents b) bytes × IsWrittenWithin step most (length bytes) a b
  all_by most y a b bytes None is empty p =
      let all : bytes ≡ p.handed.taken = p.handed.parts ∙ ap (λ (l : List ℕ). p.handed.taken ++ l) empty ∙ append-nil p.handed.taken in
      (subst (Appends (contents a) (contents b)) (sym all) p.handed.given, (y.left, subst (λ (l : List ℕ). IsWritten step most y.left (length l) a b) (sym all) p.calls))
  all_by most y a b bytes (Some fault) is empty p = absurd (cc)

  part_by : (most : ℕ) (y : Gathered) (a b : S) (bytes : List ℕ) (fault : WriteFault) (now : Option WriteFault) → now ≡ Some fault → PutsBy step contents (nothing_put most) y a b bytes None now
      → ((fault.written < length bytes) × Appends (contents a) (contents b) (take fault.written bytes)) × StopsWithin step most fault.written a b
  part_by most y a b bytes fault None is p = absurd (cc)
  part_by most y a b bytes fault (Some last) is (rest, some, p) =
      let taken : List ℕ = p.handed.taken in
      let same : last ≡ fault = cc in
      let count : fault.written ≡ length taken = ap (λ (f : WriteFault). f.written) (sym same) ∙ omega (arith, p.handed.counted) in
      let first : take fault.written bytes ≡ taken = ap (λ (n : ℕ). take n bytes) count ∙ (ap (take (length taken)) p.handed.parts ∙ take-append_seam taken rest) in (
        (omega (arith, count, some, ap (λ (l : List ℕ). length l) p.handed.parts, length-append taken rest), subst (Appends (contents a) (contents b)) (sym first) p.handed.given),
        subst (λ (n : ℕ). StopsWithin step most n a b) (sym count) p.calls,
      )

  ended_by : (most : ℕ) (y : Gathered) (a b : S) (bytes : List ℕ) (result : Result ⊤ WriteFault) → OnOk result ((y.fault ≡ None) × (y.waiting ≡ [])) → IfErr result (λ fault. y.fault ≡ Some fault)
      → PutsBy step contents (nothing_put most) y a b bytes None y.fault → WritesAll step contents most a b bytes result
  ended_by most y a b bytes (Ok u) ok err p =
      let all = all_by most y a b bytes y.fault ok.0 ok.1 p in
      record { ok = all.0; calls = all.1; err = tt; stopped = tt }
  ended_by most y a b bytes (Err fault) ok err p =
      let part = part_by most y a b bytes fault y.fault err p in
      record { ok = tt; calls = tt; err = part.0; stopped = part.1 }

module _ {S : Type 0} {step : S → S → Result ℕ Error → Type 0} {contents : S → Option (List ℕ)} where
  -- no call
  pub puts_nothing : (x : Gathered) (a : S) → Puts step contents x x a a []
  puts_nothing x a = record { all = nothing_by step contents x a x.fault }

  -- one part after the other
  pub puts_then : {x y z : Gathered} {a b c : S} {first second : List ℕ} → Puts step contents x y a b first → Puts step contents y z b c second → Puts step contents x z a c (first ++ second)
  puts_then {x} {y} {z} {a} {b} {c} {first} {second} p q = record {
    all = subst (λ (l : List ℕ). PutsBy step contents x z a c l x.fault z.fault) (append_assoc x.waiting first second) (then_by step contents x y z a b c (x.waiting ++ first) second x.fault y.fault z.fault p.all q.all);
  }

  -- the same bytes
  pub puts_as : {x y : Gathered} {a b : S} {bytes others : List ℕ} → bytes ≡ others → Puts step contents x y a b bytes → Puts step contents x y a b others
  puts_as {x} {y} {a} {b} is p = subst (Puts step contents x y a b) is p

  -- a sink that has failed drops what is put, whatever it is
  pub puts_failed : (x : Gathered) (a : S) (bytes : List ℕ) → has_failed x ≡ true → Puts step contents x x a a bytes
  puts_failed x a bytes failed = record { all = failed_by step contents x a (x.waiting ++ bytes) x.fault failed }

  -- a sink that finished had not failed before
  pub goes_on : {x y : Gathered} {a b : S} {u : ⊤} → Finishes step contents x y a b (Ok u) → has_failed x ≡ false
  goes_on {x} {y} {a} {b} f = goes_by step contents x y a b (x.waiting ++ []) x.fault y.fault f.ok.0 f.puts.all

  -- what was put from the start on was written, where the sink was finished
  pub finishes : {start end last : Gathered} {a b c : S} {most : ℕ} {bytes : List ℕ} {result : Result ⊤ WriteFault} → start ≡ nothing_put most → Puts step contents start end a b bytes → Finishes step contents end last b c result → WritesAll step contents most a c bytes result
  finishes {start} {end} {last} {a} {b} {c} {most} {bytes} {result} is p f =
      let all = puts_as (append-nil bytes) (puts_then (subst (λ (x : Gathered). Puts step contents x end a b bytes) is p) f.puts) in
      ended_by step contents most last a c bytes result f.ok f.err all.all
