use Rattle.std.proofs.Common.{ℕ, ◌≡◌, ◌<◌, ◌+◌, List, [], ◌∷◌, ◌++◌, Bor, All, Contains, length, get_or, map, take, arith, sym, ◌∙◌, ap, subst}
use Rattle.std.specs.Arc.{arc_value}
use Rattle.std.proofs.lemmas.List.{get_or-map, length-map, map_push, take_more}
use Rattle.std.proofs.lemmas.List.Elements.{All-push}
use Rattle.ch_laws.specs.declared.shortcut.Shortcut.{Shortcut}
use Rattle.ch_laws.specs.Members.{contains-map}
use Rattle.ch_laws.specs.Rows.{Row, Rises, IsChanged}
use Rattle.ch_overlay.specs.declared.placed.Placed.{Placed}
use Rattle.ch_overlay.specs.declared.row.Row as declared
use Rattle.ch_overlay.specs.Placing.{ArePlaced, AreChanged}
use Rattle.ch_overlay.specs.Prepared.{IsMadeBy}
use Rattle.ch_overlay.proofs.prepared.changed_rows.Goals as goal

-- one more
changed_more : (gone : ℕ) (near : List (ℕ × Row)) (out inn : List Placed) (nodes : List ℕ) (k node : ℕ) (old new : Row) (rows : List (ℕ × Row))
    → k < length nodes → get_or nodes k node ≡ node → Contains near (node, old) → ((put : List Shortcut) → ArePlaced gone put out inn → IsChanged put gone node old new)
    → AreChanged gone near out inn (take k nodes) rows → AreChanged gone near out inn (take (k + 1) nodes) (rows ++ (node, new) ∷ [])
changed_more gone near out inn nodes k node old new rows inside here among made so_far = record {
  nodes_are =
      map_push (λ (a : ℕ × Row). a.0) rows (node, new)
      ∙ ap (λ (xs : List ℕ). xs ++ node ∷ []) so_far.nodes_are
      ∙ ap (λ n. take k nodes ++ n ∷ []) (sym here)
      ∙ sym (take_more nodes k node inside);
  changed = λ put placed. All-push (IsMadeBy near put gone) rows (node, new) (so_far.changed put placed) (record { old = old; among = among; changed = made put placed });
}

both_rise : (near : List (ℕ × Bor declared.Row)) (k : ℕ) (a : ℕ × Bor declared.Row) → All (λ (a : ℕ × Bor declared.Row). Rises a.1.now.out × Rises a.1.now.inn) near → k < length near → a ≡ get_or near k a
    → Rises a.1.now.out × Rises a.1.now.inn
both_rise near k a rising inside is = subst (λ (a : ℕ × Bor declared.Row). Rises a.1.now.out × Rises a.1.now.inn) (sym is) (rising k a inside)

pub changed-requires-clause-out_rises : goal.changed-requires-clause-out_rises
changed-requires-clause-out_rises c = (both_rise c.args.near.now c.loop-node.node-index c.loop-node-item.result c.requires.rising c.loop-node-test.true c.loop-node-item.is).0

pub changed-requires-clause-inn_rises : goal.changed-requires-clause-inn_rises
changed-requires-clause-inn_rises c = (both_rise c.args.near.now c.loop-node.node-index c.loop-node-item.result c.requires.rising c.loop-node-test.true c.loop-node-item.is).1

pub loop-node-preserved : goal.loop-node-preserved
loop-node-preserved c =
    let k = c.loop-node.node-index in
    let near = c.args.near.now in
    let item : ℕ × Bor declared.Row = c.loop-node-item.result in
    let rows : List (ℕ × Row) = map (λ a. (a.0, arc_value a.1)) c.loop-node.rows.items in
    let is : map (λ a. (a.0, arc_value a.1)) c.push.new.self.items ≡ rows ++ (item.0, c.in_ok-new.new) ∷ [] =
    ap (map (λ a. (a.0, arc_value a.1))) c.in_ok-push.ensures.items
    ∙ map_push (λ a. (a.0, arc_value a.1)) c.loop-node.rows.items (item.0, c.in_ok-new-2.field-0)
    ∙ ap (λ (r : Row). rows ++ (item.0, r) ∷ []) c.in_ok-new-2.ensures.ok in
    subst (λ xs. AreChanged c.args.gone (map (λ a. (a.0, a.1.now)) near) c.args.out.now.placed.items c.args.inn.now.placed.items (take (k + 1) (map (λ a. a.0) near)) xs) (sym is)
    (changed_more c.args.gone (map (λ a. (a.0, a.1.now)) near) c.args.out.now.placed.items c.args.inn.now.placed.items (map (λ a. a.0) near) k item.0 item.1.now c.in_ok-new.new rows
    (omega (arith, c.loop-node-test.true, length-map near (λ (a : ℕ × Bor declared.Row). a.0)))
    (get_or-map (λ (a : ℕ × Bor declared.Row). a.0) near k item item.0 c.loop-node-test.true ∙ ap (λ (a : ℕ × Bor declared.Row). a.0) (sym c.loop-node-item.is))
    (contains-map (λ (a : ℕ × Bor declared.Row). (a.0, a.1.now)) near item (k, c.loop-node-test.true, sym c.loop-node-item.is))
    c.in_ok-new.ensures c.loop-node.invariant)
