-- Laws of rows that can be relied on.
use Rattle.std.specs.Prelude.{ℕ, ◌<◌, ◌≤◌, List, All, length}
use Rattle.std.proofs.Common.{arith}
use Rattle.ch_cost.specs.declared.cost.Cost.{Cost}
use Rattle.ch_laws.specs.declared.entry.Entry.{Entry}
use Rattle.ch_laws.specs.Rows.{Row}
use Rattle.ch_overlay.specs.Overlay.{Overlay, IsOverlay, IsEntry, IsSound, row_at}

-- the row of a node can be relied on
pub sound_row : (o : Overlay) → IsOverlay o → (x : ℕ) → x < length o.rows → IsSound (length o.rows) o.bound x (row_at o.rows x)
sound_row o is x inside = record { in_range = inside; out_rises = (is.rows x inside).out_rises; inn_rises = (is.rows x inside).inn_rises; entries = is.entries x inside }

wide : (few many : ℕ) (bound : Cost) (x : ℕ) (es : List Entry) → few ≤ many → All (IsEntry few bound x) es → All (IsEntry many bound x) es
wide few many bound x es fewer all k d h =
    let e = all k d h in
    record { in_range = omega (arith, e.in_range, fewer); apart = e.apart; above = e.above; within = e.within }

-- among more nodes too
pub still_sound : (few many : ℕ) (bound : Cost) (x : ℕ) (r : Row) → few ≤ many → IsSound few bound x r → IsSound many bound x r
still_sound few many bound x r fewer is = record {
  in_range = omega (arith, is.in_range, fewer);
  out_rises = is.out_rises;
  inn_rises = is.inn_rises;
  entries = record { out = wide few many bound x r.out fewer is.entries.out; inn = wide few many bound x r.inn fewer is.entries.inn };
}
