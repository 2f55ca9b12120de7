use Rattle.std.proofs.Common.{◌≡◌, Bool, true, false, not, Option, Some, None, ℕ, is_none, is_some, ap, sym, refl, ◌∙◌}
use Rattle.std.proofs.lemmas.Bool.{false≢true}
use Rattle.ch_laws.specs.Rows.{Row}
use Rattle.ch_overlay.specs.Overlay.{Overlay, row_at}
use Rattle.ch_contract.proofs.SweptNodes.{alive-from_none, none-from_alive}
use Rattle.ch_contract.proofs.board.Board.is_alive.Goals as goal

-- what the test of an option returns
tested : (o : Option ℕ) (b : Bool) → is_some o ≡ not b → b ≡ is_none o
tested None true e = refl
tested None false e = absurd (false≢true e)
tested (Some x) true e = absurd (false≢true (sym e))
tested (Some x) false e = refl

pub returns : goal.returns
returns g c =
    let o = c.args.self.now.overlay in
    let is = c.holds.ensures.ledger.overlay in
    let rank_is = tested _ _ c.is_none.ensures ∙ ap (λ (r : Row). is_none r.rank) (c.behind-row.view_is ∙ c.deref.ensures ∙ c.row.ensures) ∙ ap (λ (q : Overlay). is_none (row_at q.rows c.args.node).rank) c.overlay.ensures in
    (λ yes. alive-from_none o is c.args.node c.requires (sym rank_is ∙ yes), λ alive. rank_is ∙ none-from_alive o is c.args.node c.requires alive)
