use Rattle.std.proofs.Common.{List, map, refl, subst, ◌∙◌}
use Rattle.domethyme_c.specs.Answers.{IsFoundBetween, seed_of}
use Rattle.domethyme_c.specs.Answers.IsBetweenAnswer.{answered, no_end, no_start}
use Rattle.ch_query.specs.declared.seed.Seed.{Seed}
use Rattle.ch_query.specs.Seeds.{AreSeeds}
use Rattle.domethyme_c.proofs.between.check_seeds.Goals as goal

pub returns-clause-answer : goal.returns-clause-answer
returns-clause-answer c =
    let Found : List Seed → List Seed → Type 0 = λ starts ends. IsFoundBetween c.args.engine.now starts ends c.answer_between.result c.args.info.now c.answer_between.new.info c.args.nodes.now c.answer_between.new.nodes in
    answered (subst (λ (starts : List Seed). Found starts (map seed_of c.args.ends.now)) (c.as_slice.ensures.value ∙ c.in-Ok.ensures.ok.0)
    (subst (λ (ends : List Seed). Found c.as_slice.result.now ends) (c.as_slice-2.ensures.value ∙ c.in-Ok-seeds_of.ensures.ok.0) c.answer_between.ensures.answer))

pub returns-in-Err-clause-answer : goal.returns-in-Err-clause-answer
returns-in-Err-clause-answer c = no_start c.in-Err.ensures.err refl refl

pub returns-in-Err-seeds_of-clause-answer : goal.returns-in-Err-seeds_of-clause-answer
returns-in-Err-seeds_of-clause-answer c = no_end (subst (λ (seeds : List Seed). AreSeeds c.args.engine.now seeds) c.in-Ok.ensures.ok.0 c.in-Ok.ensures.ok.1) c.in-Err-seeds_of.ensures.err refl refl
