use Rattle.std.proofs.Common.{◌≡◌, None, take}
use Rattle.ch_overlay.specs.Source.{row_of}
use Rattle.ch_contract.proofs.ready.row_for.Given as goal

-- the first answers are of other nodes
abbrev pub invariant-seen : goal.invariant-seen
invariant-seen l = row_of (take l.answer-index l.seen) l.node ≡ None
