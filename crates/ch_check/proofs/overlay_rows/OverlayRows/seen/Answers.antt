use Rattle.std.proofs.Common.{◌≡◌, ◌<◌, length, None, arith, subst, ◌∙◌}
use Rattle.ch_overlay.specs.declared.source.Seen.{Seen}
use Rattle.ch_overlay.specs.Overlay.{Overlay, row_at}
use Rattle.ch_overlay.specs.Source as sources
use Rattle.ch_check.specs.Pairs.{IsNode, ShowsRow}
use Rattle.ch_check.proofs.Joining.{names_nodes, seen_row, shows_row}
use Rattle.ch_check.proofs.overlay_rows.OverlayRows.seen.Goals as goal

abbrev answer : goal.In_ok-row → Seen
answer c = record { node = c.args.node; version = c.version-version.result; row = c.in_ok-row.row; token = None }

inside : (c : goal.In_ok-row) → c.args.node < length c.self.inside.overlay.now.rows
inside c = omega (arith, c.if-node-nodes.false, c.nodes.ensures.count)

row_is : (c : goal.In_ok-row) → sources.row_in (answer c) ≡ row_at c.self.inside.overlay.now.rows c.args.node
row_is c = c.in_ok-row.ensures ∙ c.row.ensures

pub returns-clause-row : goal.returns-clause-row
returns-clause-row c = subst (λ (o : Overlay). sources.IsSeenRow o.bound (answer c)) c.self.view_is (seen_row c.nodes.ensures.holds (answer c) (inside c) (row_is c))

pub returns-clause-shows : goal.returns-clause-shows
returns-clause-shows c = subst (λ (o : Overlay). ShowsRow o (answer c)) c.self.view_is (shows_row c.nodes.ensures.holds (answer c) (inside c) (row_is c))

pub returns-clause-names : goal.returns-clause-names
returns-clause-names c = subst (λ (o : Overlay). sources.NamesAlone (IsNode o) (sources.row_in (answer c))) c.self.view_is (names_nodes c.nodes.ensures.holds (answer c) (inside c) (row_is c))
