use Rattle.std.proofs.Common.{ℕ, ◌≡◌, ◌<◌, List, [], length, map, arith, sym, ◌∙◌, ap, subst}
use Rattle.std.specs.Arc.{arc_value}
use Rattle.std.specs.List.{range_with_len}
use Rattle.std.proofs.lemmas.List.{length-map}
use Rattle.std.proofs.lemmas.List.FromFn.{length-range_with_len}
use Rattle.ch_cost.specs.declared.cost.Cost.{Cost}
use Rattle.ch_graph.specs.declared.road.Road.{Road}
use Rattle.ch_laws.specs.Contraction.{IsStart}
use Rattle.ch_laws.specs.Rows.{Row}
use Rattle.ch_overlay.specs.Overlay.{IsOverlay, row_at, state_of}
use Rattle.ch_overlay.specs.Opening.{AreOpening, opening_row}
use Rattle.ch_overlay.proofs.StartOverlay.{starts, opens}
use Rattle.ch_overlay.proofs.overlay.Overlay.opened.Goals as goal

-- the rows from node 0 on
from_first : (arcs : List Road) (nodes : ℕ) (rows : List Row) → AreOpening arcs 0 nodes rows → (x : ℕ) → x < nodes → row_at rows x ≡ opening_row arcs x
from_first arcs nodes rows are x inside = are.rows x inside ∙ ap (λ n. opening_row arcs n) (omega arith)

pub invariant_of-result : goal.invariant_of-result
invariant_of-result c =
    let g = c.args.graph.now in
    let shown = map arc_value c.args.rows.items in
    let versions = c.in_ok-versions.ensures in
    let count : length shown ≡ g.nodes = c.requires.rows.count in
    let long : length c.in_ok-versions.versions.items ≡ g.nodes = ap length versions ∙ length-range_with_len 0 c.nodes-nodes.result ∙ c.nodes-nodes.ensures.count in
    let holds = opens g c.nodes-nodes.ensures.graph c.args.least.now c.requires.least c.rows_of_least_arcs_are_the_start.ensures shown count (from_first _ _ _ c.requires.rows) c.in_ok-versions.versions.items long in (
      subst (λ (order : List ℕ). IsOverlay (record { bound = c.bound.result; rows = shown; versions = c.in_ok-versions.versions.items; order = order })) (sym c.in_ok-order.ensures.items)
          (subst (λ (b : Cost). IsOverlay (record { bound = b; rows = shown; versions = c.in_ok-versions.versions.items; order = [] })) (sym c.bound.ensures) holds),
      omega (arith, count, length-map c.args.rows.items arc_value, c.in_ok-order.ensures.capacity, c.nodes-nodes.ensures.count),
    )

pub returns : goal.returns
returns c =
    let g = c.args.graph.now in
    let shown = map arc_value c.args.rows.items in
    let begins = starts g c.nodes-nodes.ensures.graph c.args.least.now c.requires.least c.rows_of_least_arcs_are_the_start.ensures shown c.requires.rows.count (from_first _ _ _ c.requires.rows) c.bound.result c.in_ok-versions.versions.items in
    record {
      start = subst (λ (order : List ℕ). IsStart g (state_of (record { bound = c.bound.result; rows = shown; versions = c.in_ok-versions.versions.items; order = order }))) (sym c.in_ok-order.ensures.items) begins;
      versions = c.in_ok-versions.ensures ∙ ap (λ n. range_with_len 0 n) c.nodes-nodes.ensures.count;
      bound = c.bound.ensures;
    }
