use Rattle.std.proofs.Common.{◌≡◌, [], rules, inr, inl, refl, option_map}
use Rattle.outcomes.specs.declared.cause.Cause.TheVariants as causes
use Rattle.performing.proofs.StatusOfOutcome.{renewal_refused, finished_renewed, was_done, has_renewed}
use Rattle.performing.proofs.renewing.renew_whole.Goals as goal

-- where memory runs out

pub returns-in_default-clause-told : goal.returns-in_default-clause-told
returns-in_default-clause-told g c = renewal_refused causes.Memory _ _ _ _ tt

pub returns-in_default-clause-status : goal.returns-in_default-clause-status
returns-in_default-clause-status g c = inr (inr (inr (inl refl)))

-- where the work was done or refused

pub returns-clause-done : goal.returns-clause-done
returns-clause-done g c done =
    let starts : g.D.PendingFile.Write.contents c.in-Ok.draft ≡ option_map (λ _. []) (g.D.Destination.stands c.args.destination.now) = search rules in
    has_renewed _ _ _ _ starts (c.finish.ensures.done done) (c.renew-renewed.ensures.done (was_done c.finish.ensures.outcome done))

pub returns-clause-kept : goal.returns-clause-kept
returns-clause-kept g c = c.finish.ensures.kept

pub returns-clause-told : goal.returns-clause-told
returns-clause-told g c = (finished_renewed _ _ _ _ c.finish.ensures.outcome c.renew-renewed.ensures).0

pub returns-clause-status : goal.returns-clause-status
returns-clause-status g c = (finished_renewed _ _ _ _ c.finish.ensures.outcome c.renew-renewed.ensures).1
