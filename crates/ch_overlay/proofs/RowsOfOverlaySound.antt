-- The rows of an overlay, and of its changes, can be relied on.
use Rattle.std.proofs.Common.{◌≡◌, ◌<◌, ◌^◌, length, get_or, arith, refl, subst}
use Rattle.std.proofs.lemmas.List.Elements.{Contains-get_or}
use Rattle.ch_laws.specs.Rows.{Row}
use Rattle.ch_laws.specs.Theorems.{RowsGoOn, RowsAreState}
use Rattle.ch_overlay.specs.Overlay.{Overlay, IsOverlay, row_at}
use Rattle.ch_overlay.specs.Change.{puts}
use Rattle.ch_overlay.specs.Soundness.{sound_row, still_sound}
use Rattle.ch_overlay.specs.Records.{AreSoundRows, IsSoundRow, ChangesAreSound}
use Rattle.ch_overlay.proofs.ChangedOverlay.{overlay-applied, changes_write}

pub sound_rows : (o : Overlay) → IsOverlay o → AreSoundRows o.bound o.rows
sound_rows o is x h = still_sound (length o.rows) (2 ^ 25) o.bound x (row_at o.rows x) is.few_nodes (sound_row o is x h)

pub sound_changes : RowsGoOn → RowsAreState → ChangesAreSound
sound_changes go are o c holds of k d h =
    let new = overlay-applied o holds of.0 c of.1 go are o.versions refl in
    let writes = changes_write o c holds of in
    let a = get_or c.rows k d in
    let inside : a.0 < length o.rows = writes.in_range k d h in
    let count : length (puts o.rows c.rows) ≡ length o.rows = writes.count in
    let sound = sound_rows (record { bound = o.bound; rows = puts o.rows c.rows; versions = o.versions; order = _ }) new a.0 (omega (arith, inside, count)) in
    (inside, subst (λ (r : Row). IsSoundRow o.bound a.0 r) (writes.written a (Contains-get_or c.rows k d h)) sound)
