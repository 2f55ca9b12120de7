use Rattle.std.proofs.Common.{ℕ, ◌*◌, ◌<◌, ◌≤◌, arith}
use Rattle.std.proofs.Math.Nat.{mul-le-mul_left}
use Rattle.std.proofs.lemmas.Grind.{common_steps}
use Rattle.ch_workers.proofs.hiring.hire.Goals as goal

-- the heaps of all workers are few
few_heaps : (workers heaps : ℕ) → workers ≤ 64 → heaps ≤ 4 → workers * heaps ≤ 256
few_heaps workers heaps few most =
    let many : workers * heaps ≤ workers * 4 = mul-le-mul_left workers most in
    omega (arith, many, few)

-- and there are some
some_heaps : (workers heaps : ℕ) → 0 < workers → 1 ≤ heaps → 0 < workers * heaps
some_heaps workers heaps some least =
    let one : workers * 1 ≤ workers * heaps = mul-le-mul_left workers least in
    omega (arith, one, some)

pub new-requires-clause-few : goal.new-requires-clause-few
new-requires-clause-few g c = few_heaps _ _ c.args.crew.many c.args.crew.heaps.1

pub new-requires-clause-some : goal.new-requires-clause-some
new-requires-clause-some g c = some_heaps _ _ c.args.crew.workers c.args.crew.heaps.0

pub overflow_mul-heaps : goal.overflow_mul-heaps
overflow_mul-heaps g c =
    let few = few_heaps _ _ c.args.crew.many c.args.crew.heaps.1 in
    omega (arith, few)

pub passes_of-requires-clause-one : goal.passes_of-requires-clause-one
passes_of-requires-clause-one c = grind (arith, common_steps) steps 200000
