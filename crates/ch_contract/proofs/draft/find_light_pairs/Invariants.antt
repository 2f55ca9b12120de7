use Rattle.std.proofs.Common.{take}
use Rattle.ch_contract.specs.Drafts.{ArePairs}
use Rattle.ch_contract.proofs.draft.find_light_pairs.Given as goal

abbrev pub invariant-outs : goal.invariant-outs
invariant-outs l = ArePairs l.bound l.into (take l.out-index l.outs) l.pairs.items
