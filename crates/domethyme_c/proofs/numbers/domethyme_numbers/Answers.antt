use Rattle.std.proofs.Common.{◌≡◌, Option, subst, ◌∙◌, ap, sym}
use Rattle.core.specs.Mem.{manually_drop_value}
use Rattle.ch_graph.specs.Hierarchy.{Hierarchy}
use Rattle.domethyme_c.specs.Answers.{Answers}
use Rattle.domethyme_c.specs.Sets.{IsNumbersAnswer}
use Rattle.domethyme_c.proofs.numbers.domethyme_numbers.Goals as goal

pub returns-clause-answer : goal.returns-clause-answer
returns-clause-answer c =
    let Is : Hierarchy → Type 0 = λ h. IsNumbersAnswer h c.args.numbers.now c.answer_numbers-code.result c.args.set.now c.answer_numbers-code.new.set in
    subst (λ (o : Option Hierarchy). Answers o c.answer_numbers-code.result (c.answer_numbers-code.new.set ≡ c.args.set.now) Is) (sym c.in-Some.ensures.some) (subst Is (c.deref-2.ensures ∙ ap manually_drop_value c.deref.ensures) c.answer_numbers-code.ensures.answer)
