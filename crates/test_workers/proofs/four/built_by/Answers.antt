use Rattle.test_workers.proofs.four.built_by.Goals as goal

-- each estimator is one that was made for a lease
pub build-requires-clause-untold : goal.build-requires-clause-untold
build-requires-clause-untold g c _ _ k d h j e i = (c.in_ok-lists.ensures.made k d h j e i).1.1
