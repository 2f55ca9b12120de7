use Rattle.std.proofs.Common.{ℕ, ◌≡◌, ◌<◌, List, [], ◌∷◌, ◌++◌, Bor, All, length, get_or, map, sym, ◌∙◌, ap, subst}
use Rattle.std.specs.Arc.{arc_value}
use Rattle.std.proofs.lemmas.List.{get_or-map, map_push, take_more}
use Rattle.std.proofs.lemmas.List.Elements.{All-push}
use Rattle.ch_overlay.specs.declared.row.Row as declared
use Rattle.ch_overlay.specs.Overlay.{no_arcs, row_at}
use Rattle.ch_overlay.proofs.overlay.near_rows.Goals as goal

pub loop-node-preserved : goal.loop-node-preserved
loop-node-preserved c =
    let node = get_or c.args.nodes.now c.loop-node.node-index 0 in
    let inside : node < length c.args.rows.now = c.requires c.loop-node.node-index 0 c.loop-node-test.true in
    let row : c.deref-row.result.now ≡ row_at (map arc_value c.args.rows.now) node =
    c.deref-row.ensures ∙ ap arc_value c.index-rows-node.is ∙ sym (get_or-map arc_value c.args.rows.now _ _ no_arcs inside) in (
      ap (map (λ (a : ℕ × Bor declared.Row). a.0)) c.in_ok-push.ensures.items
          ∙ map_push (λ (a : ℕ × Bor declared.Row). a.0) c.loop-node.near.items (node, c.deref-row.result)
          ∙ ap (λ (xs : List ℕ). xs ++ node ∷ []) c.loop-node.invariant.0
          ∙ sym (take_more c.args.nodes.now c.loop-node.node-index 0 c.loop-node-test.true),
      subst (λ xs. All (λ (a : ℕ × Bor declared.Row). a.1.now ≡ row_at (map arc_value c.args.rows.now) a.0) xs) (sym c.in_ok-push.ensures.items)
          (All-push (λ (a : ℕ × Bor declared.Row). a.1.now ≡ row_at (map arc_value c.args.rows.now) a.0) c.loop-node.near.items (node, c.deref-row.result) c.loop-node.invariant.1 row),
    )
