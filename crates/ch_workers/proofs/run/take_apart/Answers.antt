use Rattle.std.proofs.Common.{rules, arith, refl}
use Rattle.std.proofs.lemmas.Iterator.Consumers.{YieldsList-end}
use Rattle.std.proofs.lemmas.Iterator.Adapters.{YieldsList-from_vec}
use Rattle.ch_workers.proofs.run.take_apart.Goals as goal

-- the loop went over the whole list
pub returns : goal.returns
returns g c =
    let done = YieldsList-end (YieldsList-from_vec {s = c.into_iter-worker-iterator.result} c.args.workers.items (search rules) (search rules)) c.workers.yielded c.workers.worker-iterator c.workers.yielded_by c.next.result c.next.new.self c.in-None.is c.next.ensures.steps in
    record { lists = omega (arith, c.workers.invariant, done.1, c.args.workers.ok.0); queue = refl }
