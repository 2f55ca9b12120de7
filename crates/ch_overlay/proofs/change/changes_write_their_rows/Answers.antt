use Rattle.ch_overlay.proofs.ChangedOverlay.{changes_write}
use Rattle.ch_overlay.proofs.change.changes_write_their_rows.Goals as goal

pub returns : goal.returns
returns c = changes_write
