use Rattle.std.proofs.Common.{rules, ℕ, ◌+◌}
use Rattle.ch_estimate.proofs.LeaseCounts.{adding_as, counted, handing_as, view_of}
use Rattle.ch_estimate.proofs.lease.Leases.lease.Goals as goal

pub fetch_add-self-inside-requires : goal.fetch_add-self-inside-requires
fetch_add-self-inside-requires c = (search rules, search rules, adding_as _ _ c.self.inside.seat.me.0.bound _ c.self.invariant.0.first c.self.invariant.0.knows)

pub split_seat-seat-requires : goal.split_seat-seat-requires
split_seat-seat-requires c =
    let made : ℕ = c.self.inside.seat.me.0.bound in
    let knows = view_of _ _ (counted c.self.inside.seat.me c.fetch_add-self-inside.new.seat.me made c.self.invariant.0.knows c.fetch_add-self-inside.ensures.2) in
    (search rules, search rules, handing_as _ (made + 1) _ (search rules) knows)

pub invariant_of-self : goal.invariant_of-self
invariant_of-self c = search rules

pub returns-clause-one : goal.returns-clause-one
returns-clause-one c = search rules
