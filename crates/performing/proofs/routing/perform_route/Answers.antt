use Rattle.performing.proofs.StatusOfOutcome.{after, told, routing_end}
use Rattle.performing.proofs.routing.perform_route.Goals as goal

tells : goal.returns-clause-told
tells g c =
    after c.outcome_of.ensures (told c.route.result _ _ c.route.ensures.routes
    (c.causes_tell_refusals.ensures.routes _ _ _ _ _ c.route.result c.route.ensures.refused))

pub returns-clause-told : goal.returns-clause-told
returns-clause-told g c = tells g c

pub returns-clause-status : goal.returns-clause-status
returns-clause-status g c = (routing_end _ _ _ _ _ (tells g c)).0
