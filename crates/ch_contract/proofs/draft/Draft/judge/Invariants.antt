use Rattle.ch_contract.specs.Drafts.{AreJudged}
use Rattle.ch_contract.proofs.draft.Draft.judge.Given as goal

abbrev pub invariant-pairs : goal.invariant-pairs
invariant-pairs l = AreJudged l.pairs l.ways l.place l.initial.self l.self
