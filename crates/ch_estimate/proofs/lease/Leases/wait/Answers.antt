use Rattle.std.proofs.Common.{rules, ℕ, ◌<◌, ◌^◌, arith}
use Rattle.ch_estimate.specs.Leases.{Tells}
use Rattle.ch_estimate.proofs.LeaseCounts.{finding_as}
use Rattle.ch_estimate.proofs.lease.Leases.wait.Goals as goal

-- the number of the leases is less than 2^64
few : (made out : ℕ) → Tells made out → made < 18446744073709551615 → out < 2 ^ 64
few made out tells less = let same = tells less in omega (arith, same, less)

pub load-requires : goal.load-requires
load-requires g c = (search rules, search rules, finding_as _ _ c.looks.self-inside.seat.me.0.bound _ c.looks.invariant.first.first c.looks.invariant.first.knows (few _ _ c.looks.invariant.tells (search rules)))

pub invariant_of-self : goal.invariant_of-self
invariant_of-self g c = search rules
