use Rattle.std.proofs.Common.{ℕ, zero, suc, ◌≡◌, ◌<◌, List, [], ◌∷◌, ◌++◌, Some, length, take, drop, refl, ap, subst, rules, arith}
use Rattle.std.proofs.lemmas.Grind.{common_steps}
use Rattle.counted_io.specs.Limits.Laws.{read_then, refused_after}
use Rattle.ch_graph.specs.declared.version.Version.{Version}
use Rattle.ch_graph.specs.declared.version.Version.TheVariants.{One, Two}
use Rattle.hierfile.specs.Spelling.{magic_of, stem}
use Rattle.hierfile.specs.declared.error.HierError.TheVariants.{Truncated}
use Rattle.hierfile.specs.Fault.{magic_fault}
use Rattle.hierfile.proofs.FaultsOfParts.{magic_is_no_memory, magic_is_no_read, truncated_is_no_memory, truncated_is_no_read}
use Rattle.hierfile.proofs.PartAfterPart.{Takes, fault_behind, hands_back, read_failed_after, takes_none, takes_then}
use Rattle.hierfile.proofs.reading.read_magic.Goals as goal

stem_first : (v : Version) → stem ++ drop 3 (magic_of v) ≡ magic_of v
stem_first One = refl
stem_first Two = refl

magic_cut : (i : ℕ) (came : List ℕ) → i < 3 → length came < 1 → magic_fault (take i stem ++ came) ≡ Some Truncated
magic_cut i (b ∷ came) less short = absurd (omega (arith, short))
magic_cut zero [] less short = refl
magic_cut (suc zero) [] less short = refl
magic_cut (suc (suc zero)) [] less short = refl
magic_cut (suc (suc (suc i))) [] less short = absurd (omega (arith, less))

pub bytes-init : goal.bytes-init
bytes-init g c = record {
  wanted = search rules;
  taken = takes_none g.R.StepRead.step g.R.Read.remaining c.args.input.now c.args.reader.now;
}

pub bytes-preserved : goal.bytes-preserved
bytes-preserved g c = record {
  wanted = c.bytes.invariant.wanted;
  taken = record { bytes = search rules; calls = read_then g.R.StepRead.step c.bytes.invariant.taken.calls c.in_ok-byte.ensures.reads.calls; fits = λ fits. c.in_ok-byte.ensures.reads.fits (c.bytes.invariant.taken.fits fits) };
}

pub returns-in_err-byte : goal.returns-in_err-byte
returns-in_err-byte g c = record {
  reads = hands_back c.from_residual.result _ _ _ c.from_residual.ensures.1
      (read_failed_after g.R.StepRead.step g.R.Read.remaining magic_fault 1 c.bytes.invariant.taken
      (λ came less. magic_cut c.bytes.wanted-index came (omega arith) less) c.in_err-byte.ensures.reads);
}

pub returns-in_default : goal.returns-in_default
returns-in_default g c =
    let step = g.R.StepRead.step in
    record { reads = record { fault = record { told = search rules; read = λ is. absurd (truncated_is_no_read is); memory = λ is. absurd (truncated_is_no_memory is) }; calls = refused_after step (read_then step c.bytes.invariant.taken.calls c.in_ok-byte.ensures.reads.calls) truncated_is_no_read } }

pub returns-then-byte-wanted : goal.returns-then-byte-wanted
returns-then-byte-wanted g c =
    let step = g.R.StepRead.step in
    record { reads = record { fault = record { told = search rules; read = λ is. absurd (magic_is_no_read is); memory = λ is. absurd (magic_is_no_memory is) }; calls = refused_after step (read_then step c.bytes.invariant.taken.calls c.in_ok-byte.ensures.reads.calls) magic_is_no_read } }

pub bounds-wanted-items-wanted-index : goal.bounds-wanted-items-wanted-index
bounds-wanted-items-wanted-index c = grind (arith, common_steps) steps 200000

pub bytes-smaller : goal.bytes-smaller
bytes-smaller c = grind (arith, common_steps) steps 200000

pub returns-in_err-version : goal.returns-in_err-version
returns-in_err-version g c =
    let step = g.R.StepRead.step in
    let remaining = g.R.Read.remaining in
    let whole : c.bytes.wanted-index ≡ 3 = omega (arith, ap length c.bytes.invariant.wanted) in
    let taken = subst (λ n. Takes step remaining c.args.input.now c.bytes.input c.args.reader.now c.bytes.reader (take n stem)) whole c.bytes.invariant.taken in
    record { reads = hands_back c.from_residual-in_err-version.result _ _ _ c.from_residual-in_err-version.ensures.1 (fault_behind step remaining (λ bytes. magic_fault (stem ++ bytes)) magic_fault taken (λ d rest is. is) c.in_err-version.ensures.reads) }

pub returns : goal.returns
returns g c =
    let step = g.R.StepRead.step in
    let remaining = g.R.Read.remaining in
    let version = c.in_ok-version.version in
    let whole : c.bytes.wanted-index ≡ 3 = omega (arith, ap length c.bytes.invariant.wanted) in
    let taken = subst (λ n. Takes step remaining c.args.input.now c.bytes.input c.args.reader.now c.bytes.reader (take n stem)) whole c.bytes.invariant.taken in
    record { reads = subst (Takes step remaining c.args.input.now c.read_version.new.input c.args.reader.now c.read_version.new.reader) (stem_first version) (takes_then step remaining taken c.in_ok-version.ensures.reads) }
