use Rattle.std.proofs.Common.{subst}
use Rattle.ch_overlay.specs.Overlay.{Overlay, IsOverlay}
use Rattle.ch_overlay.proofs.RowsOfOverlaySound.{sound_rows}
use Rattle.ch_overlay.proofs.overlay.Overlay.rows.Goals as goal

pub returns-clause-sound : goal.returns-clause-sound
returns-clause-sound c = sound_rows c.args.self.now (subst (λ (o : Overlay). IsOverlay o) c.self.view_is c.self.invariant.0)
