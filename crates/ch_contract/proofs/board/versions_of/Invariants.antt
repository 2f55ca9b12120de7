use Rattle.std.proofs.Common.{◌≡◌, map, take}
use Rattle.ch_contract.proofs.board.versions_of.Given as goal

-- the versions of the first rows
abbrev pub invariant-laid : goal.invariant-laid
invariant-laid g l = l.versions.items ≡ map (λ r. r.token.index) (take l.at l.laid)
