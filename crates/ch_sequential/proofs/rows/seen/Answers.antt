use Rattle.std.proofs.Common.{◌≡◌, ◌<◌, None, length, arith, ◌∙◌, subst}
use Rattle.ch_overlay.specs.declared.source.Seen.{Seen}
use Rattle.ch_overlay.specs.Overlay.{Overlay, row_at}
use Rattle.ch_overlay.specs.Source.{row_in, IsSeenRow, NamesAlone}
use Rattle.ch_sequential.proofs.Turns.{names_nodes, seen_row}
use Rattle.ch_sequential.proofs.rows.seen.Goals as goal

abbrev answer : goal.In_ok-row → Seen
answer c = record { node = c.args.node; version = c.version-version.result; row = c.in_ok-row.row; token = None }

inside : (c : goal.In_ok-row) → c.args.node < length c.overlay-overlay.result.now.rows
inside c = omega (arith, c.if-node-nodes.false, c.nodes.ensures.count)

row_is : (c : goal.In_ok-row) → row_in (answer c) ≡ row_at c.overlay-overlay.result.now.rows c.args.node
row_is c = c.in_ok-row.ensures ∙ c.row.ensures

pub returns-clause-row : goal.returns-clause-row
returns-clause-row c = subst (λ (o : Overlay). IsSeenRow o.bound (answer c)) c.overlay-overlay.ensures (seen_row c.overlay-overlay.result.now c.nodes.ensures.holds (answer c) (inside c) (row_is c))

pub returns-clause-names : goal.returns-clause-names
returns-clause-names c = subst (λ (o : Overlay). NamesAlone (λ x. x < length o.rows) (row_in (answer c))) c.overlay-overlay.ensures (names_nodes c.overlay-overlay.result.now c.nodes.ensures.holds (answer c) (inside c) (row_is c))
