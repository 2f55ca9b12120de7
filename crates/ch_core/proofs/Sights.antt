-- Rows that a worker has can be relied on.
use Rattle.std.proofs.Common.{ℕ, ◌≡◌, ◌^◌, length, get_or, Some, subst}
use Rattle.ch_cost.specs.declared.cost.Cost.{Cost}
use Rattle.ch_overlay.specs.declared.source.Seen.{Seen}
use Rattle.ch_overlay.specs.Source.{row_in, IsSeenRow}
use Rattle.ch_overlay.specs.Overlay.{Overlay, IsSound, no_arcs}
use Rattle.ch_overlay.specs.Soundness.{still_sound}
use Rattle.ch_core.specs.World.{World, RowVersion, Standing, StandsIn, has, view_of}
use Rattle.ch_core.specs.Keeping.{IsWorld, IsSoundVersion, Sight, IsSight}

-- what a worker has can be relied on
standing_sound : (w : World) → IsWorld w → (k x : ℕ) (t : Standing) → has w k x ≡ Some t → IsSound (2 ^ 25) w.ledger.overlay.bound x t.row
standing_sound w is k x t there =
    let o : Overlay = w.ledger.overlay in
    let listed = is.views k x t there in
    let sound : IsSoundVersion o (get_or w.book t.version (record { node = 0; row = no_arcs })) = is.sound t.version (record { node = 0; row = no_arcs }) listed.within in
    still_sound (length o.rows) (2 ^ 25) o.bound x t.row is.ledger.overlay.few_nodes (subst (λ (v : RowVersion). IsSoundVersion o v) listed.here sound)

pub sight_of : (w : World) → IsWorld w → (k : ℕ) → IsSight (record { view = view_of w k; bound = w.ledger.overlay.bound })
sight_of w is k = record { limit = is.bound; rows = standing_sound w is k }

-- and what is returned
pub seen_sound : (sight : Sight) → IsSight sight → (s : Seen) → StandsIn sight.view s → IsSeenRow sight.bound s
seen_sound sight is s stands = is.rows s.node (record { version = s.version; row = row_in s }) stands
