use Rattle.std.proofs.Common.{◌≡◌, List, sym, subst, ap, ◌∙◌, rules}
use Rattle.ch_cost.specs.declared.cost.Cost.{Cost}
use Rattle.ch_laws.specs.Rows.{Row}
use Rattle.ch_overlay.specs.Overlay.{Overlay}
use Rattle.ch_overlay.specs.Source.{IsBound}
use Rattle.ch_overlay.specs.Records.{AreSoundRows}
use Rattle.ch_contract.proofs.ShownRows.{ledger_bound}
use Rattle.ch_contract.proofs.board.Board.of_ledger.Goals as goal

-- the blank's bound is the rows'
bound_is : (g : _) (c : goal.After-rows g) → c.overlay.result.now.bound ≡ c.args.blank.bound
bound_is g c = ap (λ (o : Overlay). o.bound) c.overlay.ensures ∙ sym c.requires.bound

pub open-requires-clause-sound : goal.open-requires-clause-sound
open-requires-clause-sound g c =
    subst (λ (rows : List Row). AreSoundRows c.args.blank.bound rows) (sym c.rows.ensures.rows)
    (subst (λ (b : Cost). AreSoundRows b c.overlay.result.now.rows) (bound_is g c) c.rows.ensures.sound)

pub open-requires-clause-limit : goal.open-requires-clause-limit
open-requires-clause-limit g c =
    subst (λ (b : Cost). IsBound b) (ap (λ (o : Overlay). o.bound) (sym c.overlay.ensures) ∙ bound_is g c) (ledger_bound c.bounds_fit.ensures c.args.ledger c.holds.ensures)

pub invariant_of-result : goal.invariant_of-result
invariant_of-result g c = search rules

pub returns-clause-front : goal.returns-clause-front
returns-clause-front g c = search rules
