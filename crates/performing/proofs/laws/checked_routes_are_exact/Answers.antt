use Rattle.std.proofs.Common.{refl, Some}
use Rattle.outcomes.specs.declared.ending.Ending.TheVariants.{Done}
use Rattle.performing.specs.Status.{TellsChecked}
use Rattle.performing.proofs.StatusOfOutcome.{joined}
use Rattle.performing.proofs.laws.checked_routes_are_exact.Goals as goal

pub returns : goal.returns
returns c before after =
    joined (λ graph_text bytes. TellsChecked Done (Some graph_text) (Some bytes) before after)
    (λ graph_text bytes checked. (checked.right refl).0) c.routes_are_exact.ensures.fewest c.answers_are_best_routes.ensures
