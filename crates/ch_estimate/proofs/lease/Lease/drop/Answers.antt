use Rattle.std.proofs.Common.{rules}
use Rattle.ch_estimate.proofs.LeaseCounts.{giving_as}
use Rattle.ch_estimate.proofs.lease.Lease.drop.Goals as goal

pub fetch_sub-requires : goal.fetch_sub-requires
fetch_sub-requires c = (search rules, search rules, giving_as _ _ _ c.self.invariant.knows)
