use Rattle.std.proofs.Common.{List, ℕ, subst, ◌∙◌, ap}
use Rattle.domethyme_c.specs.Answers.{IsBetween, IsWritten, between_info_of}
use Rattle.ch_route.specs.Between.{RouteBetween}
use Rattle.domethyme_c.specs.Answers.IsFoundBetween.{found}
use Rattle.domethyme_c.proofs.between.answer_between.Goals as goal

pub returns-in-Ok-Some-clause-answer : goal.returns-in-Ok-Some-clause-answer
returns-in-Ok-Some-clause-answer c =
    let view = c.route.view_is in
    found c.in-Ok-Some.route (subst (IsBetween c.args.engine.now c.args.starts.now c.args.ends.now) c.in-Ok-Some.field-0-is c.in-Ok-Some.ensures.found)
    ((λ i. record { length = c.length.ensures i; start = c.route.inside.start; end = c.route.inside.end; nodes = (c.len.ensures ∙ c.route.inside.nodes.ok.0) i }) ∙ ap between_info_of view)
    (subst (λ (ns : List ℕ). IsWritten ns c.write_all.result c.args.nodes.now c.write_all.new.room) (c.as_slice.ensures.value ∙ ap (λ (r : RouteBetween). r.nodes) view) c.write_all.ensures)
