use Rattle.std.proofs.Common.{ap}
use Rattle.ch_contract.proofs.CurrentRows.{told_by, current-not_stale}
use Rattle.ch_contract.proofs.board.Board.taken.Goals as goal

pub unreachable-requires-in-Err-Stale : goal.unreachable-requires-in-Err-Stale
unreachable-requires-in-Err-Stale g c = current-not_stale c.args.self.now c.args.proposal _ _ _ _ c.requires.current ((c.in-Err-Stale.ensures.stale _ _ _ _).0 (ap (told_by _) c.in-Err-Stale.field-0-is))
