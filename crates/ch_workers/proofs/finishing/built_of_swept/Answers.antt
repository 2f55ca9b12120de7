use Rattle.ch_workers.proofs.finishing.built_of_swept.Goals as goal

pub built_of-requires-clause-account : goal.built_of-requires-clause-account
built_of-requires-clause-account c = rw (← c.log.ensures.entries, ← c.as_slice.ensures.value) (c.in_ok-is_account.ensures.0 c.if-not-branch.false)
