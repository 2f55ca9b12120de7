use Rattle.std.proofs.Common.{[], ◌≡◌, refl, sym, subst, Some}
use Rattle.outcomes.specs.declared.ending.Ending.TheVariants.{Done}
use Rattle.ch_service.specs.Answer.{Prepares}
use Rattle.performing.specs.Status.{HasPrepared, HasRenewed, TellsPrepared}
use Rattle.performing.proofs.StatusOfOutcome.{joined, renewed_is_prepared}
use Rattle.performing.proofs.laws.prepared_routes_are_exact.Goals as goal

pub returns-clause-put : goal.returns-clause-put
returns-clause-put c before =
    joined (λ graph_text bytes. HasPrepared (Some graph_text) (Some before) (Some (Some bytes)))
    (λ graph_text bytes prepared.
    let stands = prepared.2 in
    let same : prepared.0 ≡ bytes = cc in
    subst (Prepares graph_text) same prepared.1)
    c.routes_are_exact.ensures.fewest c.answers_are_best_routes.ensures

pub returns-clause-written : goal.returns-clause-written
returns-clause-written c =
    joined (λ graph_text bytes. TellsPrepared Done (Some graph_text) (Some []) (Some bytes))
    (λ graph_text bytes prepared. let file = prepared.done refl in subst (Prepares graph_text) (sym file.2) file.1)
    c.routes_are_exact.ensures.fewest c.answers_are_best_routes.ensures

pub returns-clause-renewed : goal.returns-clause-renewed
returns-clause-renewed c file before =
    joined (λ graph_text bytes. HasRenewed (Some graph_text) (Some file) (Some before) (Some (Some bytes)))
    (λ graph_text bytes renewed.
    let stands = renewed.2 in
    let same : renewed.0 ≡ bytes = cc in
    subst (Prepares graph_text) same (renewed_is_prepared graph_text file renewed.0 renewed.1))
    c.routes_are_exact.ensures.fewest c.answers_are_best_routes.ensures
