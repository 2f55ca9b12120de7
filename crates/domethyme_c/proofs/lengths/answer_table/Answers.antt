use Rattle.std.proofs.Common.{◌≡◌, ◌*◌, ◌<◌, ◌≤◌, All, length, rules, arith}
use Rattle.domethyme_c.proofs.Tables.{no_table}
use Rattle.domethyme_c.proofs.lengths.answer_table.Goals as goal

pub returns-in-Err-clause-answer : goal.returns-in-Err-clause-answer
returns-in-Err-clause-answer c =
    let count : c.in-Some.count ≡ length c.args.sources.now * length c.args.targets.now = search rules in
    let room : c.in-Some.count ≤ length c.args.lengths.now = search rules in
    let sources_in : All (λ v. v < length c.args.engine.now.ranks) c.args.sources.now = search rules in
    no_table c.args.engine.now c.args.sources.now c.args.targets.now c.in-Err.code c.args.lengths.now (omega (arith, count, room)) sources_in c.in-Err.ensures.refused
