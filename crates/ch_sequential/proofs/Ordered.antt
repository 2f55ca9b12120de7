-- Contractions in an order that is given.
use Rattle.std.proofs.Common.{ℕ, ◌≡◌, ◌<◌, List, length, slice_index, get_or, Contains, take, arith, ap, sym, subst, ◌∙◌}
use Rattle.std.proofs.lemmas.List.{ext_get_or, get_or_default}
use Rattle.ch_graph.specs.Graph.{Graph}
use Rattle.ch_graph.specs.Hierarchy.{Hierarchy}
use Rattle.ch_laws.specs.Contraction.{State, IsAlive, IsOver, IsMade}
use Rattle.ch_check.specs.Ranks.Laws.{in_order, not_yet, ranked_inside}
use Rattle.ch_laws.specs.declared.shortcut.Shortcut.{Shortcut}
use Rattle.ch_check.specs.Replay.{IsReplay, MayPut}
use Rattle.ch_contract.specs.Ledger.{Ledger, AreLawful, IsLedger}
use Rattle.ch_sequential.specs.InOrder.{IsOrderBy}

-- the next node isn't contracted yet
pub next_is_alive : {n : ℕ} {ranks order : List ℕ} → IsOrderBy n ranks order → (s : State) (i : ℕ) {x : ℕ} → i < length order → x ≡ get_or order i 0 → s.order ≡ take i order → s.nodes ≡ n → IsAlive s x
next_is_alive is s i {x} low is_node order_is nodes = record {
  in_range =
      let count = is.count in
      let inside = ranked_inside is.ordered i {x = x} 0 low is_node in
      omega (arith, inside, count, nodes);
  waits = λ among. not_yet is.ordered i {x = x} 0 low is_node (subst (λ (xs : List ℕ). Contains xs x) order_is among);
}

-- after all of them each node is contracted
pub over_in_order : {n : ℕ} {ranks order : List ℕ} → IsOrderBy n ranks order → (s : State) → s.order ≡ order → s.nodes ≡ n → IsOver s
over_in_order is s order_is nodes x inside =
    let count = is.count in
    subst (λ (xs : List ℕ). Contains xs x) (sym order_is) (in_order is.low is.once is.ordered x (omega (arith, inside, nodes, count)))

-- and the ranks are those of the order
pub ranks_stay : {n : ℕ} {ranks order : List ℕ} → IsOrderBy n ranks order → (g : Graph) (s : State) (h : Hierarchy) → IsMade g s h → s.order ≡ order → s.nodes ≡ n → h.ranks ≡ ranks
ranks_stay {n} {ranks} {order} is g s h made order_is nodes = ext_get_or 0 h.ranks ranks (made.nodes ∙ nodes ∙ sym is.count) same
  where
    same : (x : ℕ) → x < length h.ranks → get_or h.ranks x 0 ≡ get_or ranks x 0
    same x inside =
        let long = made.nodes in
        let count = is.count in
        let at = in_order is.low is.once is.ordered x (omega (arith, inside, long, nodes, count)) in
        let k = at.0 in
        let here : slice_index order k ≡ x = get_or_default order k 0 x at.1 ∙ at.2 in
        let made_at : slice_index h.ranks (slice_index order k) ≡ k =
        subst (λ (xs : List ℕ). slice_index h.ranks (slice_index xs k) ≡ k) order_is (made.ranks k (subst (λ (xs : List ℕ). k < length xs) (sym order_is) at.1)) in
        let new : slice_index h.ranks x ≡ k = ap (λ (y : ℕ). slice_index h.ranks y) (sym here) ∙ made_at in
        let old : slice_index ranks x ≡ k = ap (λ (y : ℕ). slice_index ranks y) (sym here) ∙ is.ordered.by_rank k at.1 in
        new ∙ sym old

-- a ledger's rows are those of a replay of its graph
pub as_replay : (l : Ledger) → IsLedger l → IsReplay (record { graph = l.graph; overlay = l.overlay })
as_replay l is = record {
  graph = is.graph;
  overlay = is.overlay;
  bound = is.bound;
  log = l.log;
  reached = is.reached;
}

-- and what may be put into them may be put into it
pub may_be_put : (l : Ledger) (node : ℕ) (put : List Shortcut) → MayPut l.overlay node put → AreLawful l node put
may_be_put l node put may = record { plan = may.plan; witnessed = may.witnessed }
