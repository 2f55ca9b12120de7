use Rattle.std.proofs.Common.{ℕ, ◌≡◌, ◌+◌, ◌-◌, ◌≤◌, ◌<◌, ◌++◌, List, Option, drop, sym, length, take, ◌∙◌, ap, refl, subst, arith, rules}
use Rattle.std.specs.Io.KnownBytes.{Keeps}
use Rattle.std.proofs.KnownBytes.{Keeps-refl, Keeps-trans}
use Rattle.std.proofs.lemmas.Grind.{common_steps}
use Rattle.std.proofs.lemmas.List.{length-take-le}
use Rattle.hierfile.proofs.PartAfterPart.{moved, kept, written_back, stops_short, hands_back}
use Rattle.counted_io.specs.Limits.{IsRead}
use Rattle.counted_io.specs.Limits.Laws.{failed_after, read_none, read_then}
use Rattle.hierfile.specs.declared.error.HierError.TheVariants.{Read}
use Rattle.hierfile.specs.Bytes.{Buffered, coming}
use Rattle.hierfile.proofs.byte_reader.ByteReader.fill.Goals as goal

pub loop-self-init : goal.loop-self-init
loop-self-init g c =
    let input = c.self.inside in
    let size : length c.copy_within.new.self.items ≡ 65536 =
    omega (arith, c.self.invariant.2, c.copy_within.ensures.len, input.buffer.ok.0, c.copy_within.new.self.ok.0) in
    record {
      front = search rules;
      within = omega (arith, c.self.invariant.1);
      size = size;
      keeps = kept _ _ _ _ (Keeps-refl _) (ap (take (input.end - input.at)) c.copy_within.ensures.items ∙ moved input.buffer.items input.at input.end c.self.invariant.0 c.self.invariant.1 ∙ ap (λ (b : Buffered). b.waiting) c.self.view_is);
      calls = subst (λ (b : Buffered). IsRead g.R.StepRead.step b.left input.calls.left c.args.reader.now c.args.reader.now) c.self.view_is (read_none g.R.StepRead.step input.calls.left c.args.reader.now);
    }

pub returns-in_err-more-clause-reads : goal.returns-in_err-more-clause-reads
returns-in_err-more-clause-reads g c = hands_back c.from_residual.result _ _ Read c.from_residual.ensures.1 (record {
  fault = record {
    read = refl;
    came =
        let input = c.loop-self.self-inside in
        let short : length (take input.end input.buffer.items) < c.args.count =
        omega (arith, length-take-le input.end input.buffer.items c.loop-self.invariant.within) in
        stops_short (take input.end input.buffer.items) c.args.count _ _ _ c.loop-self.invariant.keeps c.in_err-more.ensures.keeps short;
  };
  calls = failed_after g.R.StepRead.step c.loop-self.invariant.calls refl c.in_err-more.ensures.stopped;
})

pub returns-then-more-eq0-clause-reads : goal.returns-then-more-eq0-clause-reads
returns-then-more-eq0-clause-reads g c = record { bytes = grind (arith, common_steps) steps 600000; calls = read_then g.R.StepRead.step c.loop-self.invariant.calls c.in_ok-more.ensures.calls; fits = λ fits. grind (arith, common_steps) steps 600000 }

pub loop-self-preserved : goal.loop-self-preserved
loop-self-preserved g c =
    let input = c.loop-self.self-inside in
    let kept = c.loop-self.invariant in
    let end = input.end + c.in_ok-more.more in
    let new : List ℕ = c.read_behind.new.buffer in
    let items : List ℕ = input.buffer.items in
    let before : Option (List ℕ) = g.R.Read.remaining c.loop-self.reader in
    let later : Option (List ℕ) = g.R.Read.remaining c.read_behind.new.reader in
    let size : length new ≡ length items = c.read_behind.auto.buffer ∙ ap length c.as_mut_slice.ensures.value in
    let whole : take input.buffer.len (new ++ drop (length new) items) ≡ new =
    written_back input.buffer.len new items size input.buffer.ok.0 in
    let more : Keeps (coming (take input.end items) before) (coming (take end new) later) = subst (λ l. Keeps (coming (take input.end l) before) (coming (take end new) later)) c.as_mut_slice.ensures.value c.in_ok-more.ensures.ok in
    record {
      front = kept.front;
      within = subst (λ (l : List ℕ). end ≤ length l) (sym whole) c.in_ok-more.ensures.room;
      size = ap length whole ∙ size ∙ kept.size;
      keeps = Keeps-trans _ _ _ kept.keeps (subst (λ l. Keeps (coming (take input.end items) before) (coming (take end l) later)) (sym whole) more);
      calls = read_then g.R.StepRead.step kept.calls c.in_ok-more.ensures.calls;
    }

pub invariant_of-self-in_err-more : goal.invariant_of-self-in_err-more
invariant_of-self-in_err-more c = grind (arith, common_steps) steps 200000

pub invariant_of-self-then-more-eq0 : goal.invariant_of-self-then-more-eq0
invariant_of-self-then-more-eq0 c = grind (arith, common_steps) steps 200000

pub overflow_add-self : goal.overflow_add-self
overflow_add-self c = grind (arith, common_steps) steps 200000

pub returns-clause-reads : goal.returns-clause-reads
returns-clause-reads g c = record { bytes = grind (arith, common_steps) steps 200000; calls = grind (arith, common_steps) steps 200000; fits = λ fits. grind (arith, common_steps) steps 200000 }

pub returns-clause-ok : goal.returns-clause-ok
returns-clause-ok c = grind (arith, common_steps) steps 200000

pub returns-then-more-eq0-clause-ok : goal.returns-then-more-eq0-clause-ok
returns-then-more-eq0-clause-ok c = grind (arith, common_steps) steps 200000
