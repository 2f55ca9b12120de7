use Rattle.std.proofs.Common.{◌≤◌, ◌^◌, All, subst, sym}
use Rattle.ch_sums.specs.Numbers.{AreNumbersOf}
use Rattle.domethyme_c.proofs.Listed.{set-made}
use Rattle.domethyme_c.proofs.numbers.answer_numbers.Goals as goal

pub returns-in-Ok : goal.returns-in-Ok
returns-in-Ok c = record {
  answer = set-made c.args.engine.now c.args.given.now c.as_slice.result.now c.digest.result c.args.set.now c.write_set.new.set c.digest.ensures (subst (All (λ x. x ≤ 2 ^ 36)) (sym c.as_slice.ensures.numbers) c.as_slice.ensures.small)
      (subst (AreNumbersOf c.args.engine.now c.args.given.now) (sym c.as_slice.ensures.numbers) c.in-Ok.ensures.numbers) c.write_set.ensures;
}
