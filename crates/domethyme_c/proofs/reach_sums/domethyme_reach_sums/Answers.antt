use Rattle.std.proofs.Common.{◌≡◌, Option, subst, ◌∙◌, ap, sym}
use Rattle.core.specs.Mem.{manually_drop_value}
use Rattle.ch_graph.specs.Hierarchy.{Hierarchy}
use Rattle.domethyme_c.specs.Answers.{Answers}
use Rattle.domethyme_c.specs.Sums.{IsReachSumsAnswer}
use Rattle.domethyme_c.proofs.reach_sums.domethyme_reach_sums.Goals as goal

pub returns-clause-answer : goal.returns-clause-answer
returns-clause-answer c =
    let Is : Hierarchy → Type 0 = λ h. IsReachSumsAnswer h c.args.set.now c.args.starts.now c.args.added.now c.args.limit c.answer_reach_sums-code.result c.args.cells.now c.answer_reach_sums-code.new.cells in
    subst (λ (o : Option Hierarchy). Answers o c.answer_reach_sums-code.result (c.answer_reach_sums-code.new.cells ≡ c.args.cells.now) Is) (sym c.in-Some.ensures.some)
    (subst Is (c.deref_mut-2.ensures.value ∙ ap manually_drop_value c.deref_mut.ensures.value) c.answer_reach_sums-code.ensures.answer)
