-- The world at the start.
use Rattle.std.proofs.Common.{ℕ, ◌≡◌, ◌^◌, ◌<◌, List, [], length, get_or, slice_index, replicate, suc, zero, Some, None, arith, ap, sym, subst, refl, ◌∙◌}
use Rattle.std.specs.List.{range_with_len}
use Rattle.std.proofs.lemmas.List.{length-replicate, get_or_default}
use Rattle.std.proofs.lemmas.List.FromFn.{get_or-range_with_len}
use Rattle.ch_cost.specs.declared.cost.Cost.{Cost}
use Rattle.ch_laws.specs.Theorems.{BoundsFit}
use Rattle.ch_overlay.specs.Source.{IsBound}
use Rattle.ch_overlay.specs.Overlay.{row_at, no_arcs}
use Rattle.ch_contract.specs.Ledger.{IsLedger}
use Rattle.ch_core.specs.World.{World, RowVersion, View, Standing, IsIn, has, stands_at}
use Rattle.ch_core.specs.Keeping.{IsWorld, IsSoundVersion}
use Rattle.ch_overlay.specs.Soundness.{sound_row}

abbrev no_rows : View
no_rows = []

-- nobody has read a row
no_view : (n k : ℕ) → get_or (replicate n no_rows) k no_rows ≡ no_rows
no_view zero k = refl
no_view (suc n) zero = refl
no_view (suc n) (suc k) = no_view n k

pub nothing_had : (w : World) (workers : ℕ) → w.views ≡ replicate workers [] → (k x : ℕ) → has w k x ≡ None
nothing_had w workers is k x = ap (λ (views : List View). stands_at (get_or views k []) x) is ∙ ap (λ (view : View). stands_at view x) (no_view workers k)

module _ (bounds_fit : BoundsFit) (w : World) (workers : ℕ) (ledger : IsLedger w.ledger) (versions : w.ledger.overlay.versions ≡ range_with_len 0 w.ledger.graph.nodes) (nodes : length w.ledger.overlay.rows ≡ w.ledger.graph.nodes) where
  version_is : (x : ℕ) → x < length w.ledger.overlay.rows → slice_index w.ledger.overlay.versions x ≡ x
  version_is x inside =
      let low : x < w.ledger.graph.nodes = omega (arith, inside, nodes) in
      ap (λ vs. slice_index vs x) versions ∙ get_or-range_with_len 0 w.ledger.graph.nodes x 0 low ∙ omega arith

  pub world_opens : length w.book ≡ length w.ledger.overlay.rows → ((x : ℕ) → x < length w.ledger.overlay.rows → IsIn w.book x x (row_at w.ledger.overlay.rows x)) → w.views ≡ replicate workers [] → workers < 2 ^ 32 → IsWorld w
  world_opens many book views few = record {
    ledger = ledger;
    bound = subst (λ (b : Cost). IsBound b) (sym ledger.bound) (bounds_fit w.ledger.graph ledger.graph);
    few_workers = omega (arith, ap length views, length-replicate {A = View} workers [], few);
    current = λ x inside. subst (λ v. IsIn w.book x v (row_at w.ledger.overlay.rows x)) (sym (version_is x inside)) (book x inside);
    views = λ k x s there. absurd (none_some s (sym (nothing_had w workers views k x) ∙ there));
    sound = λ k d h.
        let inside : k < length w.ledger.overlay.rows = omega (arith, h, many) in
        let here = get_or_default w.book k d (record { node = 0; row = no_arcs }) h ∙ (book k inside).here in
        subst (λ (v : RowVersion). IsSoundVersion w.ledger.overlay v) (sym here) (sound_row w.ledger.overlay ledger.overlay k inside);
  }
    where
      none_some : (s : Standing) → None ≡ Some s → ⊥
      none_some s e = cc
