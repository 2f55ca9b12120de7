use Rattle.std.proofs.Common.{refl, arith}
use Rattle.domethyme_c.specs.Answers.IsReachAnswer.{no_start}
use Rattle.domethyme_c.proofs.reach.answer_reach.Goals as goal

pub returns-in-Err-clause-answer : goal.returns-in-Err-clause-answer
returns-in-Err-clause-answer c = let room = c.if-lengths-nodes.false in no_start c.in-Err.ensures.err c.in-Some.ensures.some.allowed (omega (arith, room, c.nodes.ensures)) refl
