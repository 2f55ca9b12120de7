use Rattle.std.proofs.Common.{◌≡◌, Option, subst, ◌∙◌, ap, sym}
use Rattle.core.specs.Mem.{manually_drop_value}
use Rattle.ch_graph.specs.Hierarchy.{Hierarchy}
use Rattle.domethyme_c.specs.Answers.{Answers, IsBetweenAnswer}
use Rattle.domethyme_c.proofs.between.domethyme_between.Goals as goal

pub returns-clause-answer : goal.returns-clause-answer
returns-clause-answer c =
    let Is : Hierarchy → Type 0 = λ h. IsBetweenAnswer h c.args.starts.now c.args.ends.now c.check_seeds-code.result c.args.route.now c.check_seeds-code.new.info c.args.nodes.now c.check_seeds-code.new.nodes in
    subst (λ (o : Option Hierarchy). Answers o c.check_seeds-code.result ((c.check_seeds-code.new.info ≡ c.args.route.now) × (c.check_seeds-code.new.nodes ≡ c.args.nodes.now)) Is) (sym c.in-Some.ensures.some) (subst Is (c.deref_mut-2.ensures.value ∙ ap manually_drop_value c.deref_mut.ensures.value) c.check_seeds-code.ensures.answer)
