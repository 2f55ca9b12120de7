use Rattle.std.proofs.Common.{◌≡◌, Option, subst, ◌∙◌, ap, sym}
use Rattle.core.specs.Mem.{manually_drop_value}
use Rattle.ch_graph.specs.Hierarchy.{Hierarchy}
use Rattle.domethyme_c.specs.Answers.{Answers, IsReachAnswer}
use Rattle.domethyme_c.proofs.reach.domethyme_reach.Goals as goal

pub returns-clause-answer : goal.returns-clause-answer
returns-clause-answer c =
    let Is : Hierarchy → Type 0 = λ h. IsReachAnswer h c.args.starts.now c.args.limit c.answer_reach-code.result c.args.lengths.now c.answer_reach-code.new.lengths in
    subst (λ (o : Option Hierarchy). Answers o c.answer_reach-code.result (c.answer_reach-code.new.lengths ≡ c.args.lengths.now) Is) (sym c.in-Some.ensures.some) (subst Is (c.deref_mut-2.ensures.value ∙ ap manually_drop_value c.deref_mut.ensures.value) c.answer_reach-code.ensures.answer)
