use Rattle.ch_overlay.proofs.RowsOfOverlaySound.{sound_changes}
use Rattle.ch_overlay.proofs.overlay.changes_are_sound.Goals as goal

pub returns : goal.returns
returns c = sound_changes c.updated_rows_are_the_next.ensures c.rows_are_the_state.ensures
