use Rattle.std.proofs.Common.{◌≡◌}
use Rattle.std.specs.Arc.{arc_value}
use Rattle.ch_estimate.specs.Leases.{IsFirst, Tells}
use Rattle.ch_estimate.proofs.lease.Leases.wait.Given as goal

-- the seat is the first one of the same count
abbrev pub invariant-looks : goal.invariant-looks
invariant-looks g l = record {
  turns : (goal.iterator-looks g).can_next l.iterator' × (goal.iterator-looks g).is_finite l.iterator';
  first : IsFirst (arc_value l.self-inside.count).shared.table_id l.self-inside.seat.me.0.bound l.self-inside.seat;
  tells : Tells l.self-inside.made l.self-inside.seat.me.0.bound;
  same : l.self-inside.seat.table_id ≡ l.initial.self-inside.seat.table_id;
}
