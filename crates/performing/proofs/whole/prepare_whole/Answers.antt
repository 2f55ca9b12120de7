use Rattle.std.proofs.Common.{◌≡◌, [], rules, inr, inl, refl, option_map}
use Rattle.outcomes.specs.declared.cause.Cause.TheVariants as causes
use Rattle.performing.proofs.StatusOfOutcome.{after, is_refused, finished, was_done, has_prepared}
use Rattle.performing.proofs.whole.prepare_whole.Goals as goal

-- where memory runs out

pub returns-in_default-clause-told : goal.returns-in_default-clause-told
returns-in_default-clause-told g c = is_refused {why = causes.Memory} _ _ tt

pub returns-in_default-clause-status : goal.returns-in_default-clause-status
returns-in_default-clause-status g c = inr (inr (inl refl))

-- where the work was done or refused

pub returns-clause-done : goal.returns-clause-done
returns-clause-done g c done =
    let starts : g.D.PendingFile.Write.contents c.in-Ok.draft ≡ option_map (λ _. []) (g.D.Destination.stands c.args.destination.now) = search rules in
    let ended = after c.outcome_of.ensures c.prepare_by-prepared.ensures in
    has_prepared _ _ _ starts (c.finish.ensures.done done) (ended.done (was_done c.finish.ensures.outcome done))

pub returns-clause-kept : goal.returns-clause-kept
returns-clause-kept g c = c.finish.ensures.kept

pub returns-clause-told : goal.returns-clause-told
returns-clause-told g c = (finished _ _ _ c.finish.ensures.outcome (after c.outcome_of.ensures c.prepare_by-prepared.ensures)).0

pub returns-clause-status : goal.returns-clause-status
returns-clause-status g c = (finished _ _ _ c.finish.ensures.outcome (after c.outcome_of.ensures c.prepare_by-prepared.ensures)).1
