use Rattle.std.proofs.Common.{rules}
use Rattle.jobs.proofs.job.Job.of_two_files.Goals as goal

pub returns-else-names_one_file-clause-two : goal.returns-else-names_one_file-clause-two
returns-else-names_one_file-clause-two c = search rules
