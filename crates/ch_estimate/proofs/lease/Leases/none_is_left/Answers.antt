use Rattle.std.proofs.Common.{rules, ◌≡◌, ◌∙◌, ap}
use Rattle.ch_estimate.specs.Leases.{Group}
use Rattle.ch_estimate.proofs.LeaseCounts.{meeting_as, met, never_as, view_of}
use Rattle.ch_estimate.proofs.lease.Leases.none_is_left.Goals as goal

pub join_seat-requires : goal.join_seat-requires
join_seat-requires c = (
  search rules,
  search rules,
  search rules,
  search rules,
  meeting_as _ c.self.inside.seat.me.0.bound _ _ _ c.self.invariant.0.first (view_of _ _ c.self.invariant.0.knows) (view_of _ _ c.into_seat-seat.ensures.knows),
)

pub load-requires : goal.load-requires
load-requires c =
    let none : c.self.inside.seat.me.0.bound ≡ 0 = ap (λ (g : Group). g.out) c.self.view_is ∙ c.requires.none in
    let knows = met c.self.inside.seat.me c.into_seat-seat.result.me c.join_seat.new.seat.me c.self.inside.seat.me.0.bound c.self.invariant.0.knows c.into_seat-seat.ensures.knows c.join_seat.ensures.2 none in
    (search rules, search rules, never_as _ _ _ (search rules) knows)
