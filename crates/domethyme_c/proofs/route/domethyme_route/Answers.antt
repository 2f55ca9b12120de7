use Rattle.std.proofs.Common.{◌≡◌, Option, subst, ◌∙◌, ap, sym}
use Rattle.core.specs.Mem.{manually_drop_value}
use Rattle.ch_graph.specs.Hierarchy.{Hierarchy}
use Rattle.domethyme_c.specs.Answers.{Answers, IsRouteAnswer}
use Rattle.domethyme_c.proofs.route.domethyme_route.Goals as goal

pub returns-clause-answer : goal.returns-clause-answer
returns-clause-answer c =
    let Is : Hierarchy → Type 0 = λ h. IsRouteAnswer h c.args.from c.args.to c.answer_route-code.result c.args.route.now c.answer_route-code.new.info c.args.nodes.now c.answer_route-code.new.nodes in
    subst (λ (o : Option Hierarchy). Answers o c.answer_route-code.result ((c.answer_route-code.new.info ≡ c.args.route.now) × (c.answer_route-code.new.nodes ≡ c.args.nodes.now)) Is) (sym c.in-Some.ensures.some) (subst Is (c.deref_mut-2.ensures.value ∙ ap manually_drop_value c.deref_mut.ensures.value) c.answer_route-code.ensures.answer)
