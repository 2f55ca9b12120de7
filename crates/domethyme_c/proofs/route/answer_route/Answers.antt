use Rattle.std.proofs.Common.{List, ℕ, subst, ◌∙◌, ap}
use Rattle.domethyme_c.specs.Answers.{IsRoute, IsWritten, info_of}
use Rattle.ch_route.specs.Routes.{Route}
use Rattle.domethyme_c.specs.Answers.IsRouteAnswer.{found}
use Rattle.domethyme_c.proofs.route.answer_route.Goals as goal

pub returns-in-Ok-Some-clause-answer : goal.returns-in-Ok-Some-clause-answer
returns-in-Ok-Some-clause-answer c =
    let view = c.route-in-Ok-Some.view_is in
    found c.in-Ok-Some.route (subst (IsRoute c.args.engine.now c.args.pair.0 c.args.pair.1) c.in-Ok-Some.field-0-is c.in-Ok-Some.ensures.found)
    ((λ i. record { length = c.length.ensures i; nodes = (c.len.ensures ∙ c.route-in-Ok-Some.inside.nodes.ok.0) i }) ∙ ap info_of view)
    (subst (λ (ns : List ℕ). IsWritten ns c.write_all.result c.args.nodes.now c.write_all.new.room) (c.as_slice.ensures.value ∙ ap (λ (r : Route). r.nodes) view) c.write_all.ensures)
