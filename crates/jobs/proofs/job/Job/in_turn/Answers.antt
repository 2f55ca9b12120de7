use Rattle.std.proofs.Common.{rules}
use Rattle.jobs.proofs.job.Job.in_turn.Goals as goal

pub returns-else-is_out_of_turn-clause-turns : goal.returns-else-is_out_of_turn-clause-turns
returns-else-is_out_of_turn-clause-turns c = search rules
