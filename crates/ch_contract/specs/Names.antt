-- What is shown of an error: the variant's name. And the number of one.
use Rattle.std.specs.Prelude.{ℕ, List, codes}
use Rattle.ch_contract.specs.declared.error.CommitError.{CommitError}
use Rattle.ch_contract.specs.declared.error.CommitError.TheVariants as commit
use Rattle.ch_contract.specs.declared.error.FinishError.{FinishError}
use Rattle.ch_contract.specs.declared.error.FinishError.TheVariants as finish
use Rattle.ch_contract.specs.declared.error.ProposeError.{ProposeError}
use Rattle.ch_contract.specs.declared.error.ProposeError.TheVariants as propose
use Rattle.ch_contract.specs.declared.error.SweepError.{SweepError}
use Rattle.ch_contract.specs.declared.error.SweepError.TheVariants as sweep

abbrev pub propose_error_name : ProposeError → List ℕ
propose_error_name propose.OutOfMemory = codes "OutOfMemory"
propose_error_name propose.Unseen = codes "Unseen"
propose_error_name propose.Contracted = codes "Contracted"

abbrev pub commit_error_name : CommitError → List ℕ
commit_error_name commit.Contracted = codes "Contracted"
commit_error_name (commit.Stale _ _ _ _) = codes "Stale"
commit_error_name commit.OutOfMemory = codes "OutOfMemory"
commit_error_name commit.Slot = codes "Slot"

-- 3 isn't used again
abbrev pub commit_error_number : CommitError → ℕ
commit_error_number commit.Contracted = 1
commit_error_number (commit.Stale _ _ _ _) = 2
commit_error_number commit.OutOfMemory = 4
commit_error_number commit.Slot = 5

abbrev pub sweep_error_name : SweepError → List ℕ
sweep_error_name sweep.OutOfMemory = codes "OutOfMemory"
sweep_error_name sweep.Slot = codes "Slot"

abbrev pub finish_error_name : FinishError → List ℕ
finish_error_name finish.OutOfMemory = codes "OutOfMemory"
finish_error_name finish.NodesLeft = codes "NodesLeft"
