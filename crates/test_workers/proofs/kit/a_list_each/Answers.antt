use Rattle.std.proofs.Common.{sym, subst, All}
use Rattle.std.specs.Prelude.{Ok}
use Rattle.ch_estimate.specs.Leases.{CountId}
use Rattle.test_workers.proofs.OfOneThing.{and_list_of}
use Rattle.test_workers.proofs.kit.a_list_each.Goals as goal

pub lists-preserved : goal.lists-preserved
lists-preserved g c =
    let made = subst (λ r. goal.F-post g c.args.make c.in_ok-lease.lease r) c.in_ok-make.was c.make.ensures in
    let all = and_list_of c.lists.lists.items c.in_ok-list_of.field-0 c.in_ok-make.field-0 (λ thing. (lease : CountId) × goal.F-post g c.args.make lease (Ok thing)) c.lists.invariant c.in_ok-list_of.ensures (_, made) in
    subst (λ lists. All (λ list. All (λ thing. (lease : CountId) × goal.F-post g c.args.make lease (Ok thing)) list.items) lists) (sym c.in_ok-push.ensures.items) all
