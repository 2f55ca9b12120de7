use Rattle.std.proofs.Common.{length}
use Rattle.test_contract.proofs.boards.+answers.Given as goal

-- the offers that are left
abbrev pub decreases-answers : goal.decreases-answers
decreases-answers g l = length l.offers.now
