use Rattle.std.proofs.Common.{All, take}
use Rattle.ch_contract.specs.Commit.{IsRowOf}
use Rattle.ch_contract.proofs.board.Board.agree_all.Given as goal

-- the first rows are the board's
abbrev pub invariant-rows : goal.invariant-rows
invariant-rows g l = All (IsRowOf l.self) (take l.seen-index l.rows)
