-- A ledger that one thread contracts: the versions of its rows, and which nodes are contracted.
use Rattle.std.proofs.Common.{ℕ, ◌≡◌, ◌≢◌, ◌+◌, ◌<◌, ◌≤◌, ◌^◌, List, [], ◌∷◌, ◌++◌, Option, Some, None, length, map, All, Contains, arith, ap, sym, subst, ◌∙◌, refl, inl, inr}
use Rattle.std.specs.List.{range_with_len, zip}
use Rattle.std.proofs.lemmas.List.{length-map, length_push}
use Rattle.std.proofs.lemmas.Bool.{cases_eq}
use Rattle.std.proofs.lemmas.List.Elements.{All-map, Contains-append_left, Contains-push}
use Rattle.ch_graph.specs.Graph.{Graph}
use Rattle.ch_laws.specs.declared.shortcut.Shortcut.{Shortcut}
use Rattle.ch_laws.specs.Contraction.{State, IsOver}
use Rattle.ch_laws.specs.Members.{contains_place}
use Rattle.ch_laws.specs.Rows.{Row}
use Rattle.ch_laws.specs.Theorems.{BoundsFit}
use Rattle.ch_cost.specs.declared.cost.Cost.{Cost}
use Rattle.ch_overlay.specs.declared.source.Seen.{Seen}
use Rattle.ch_overlay.specs.Overlay.{Overlay, IsOverlay, IsSound, row_at, state_of}
use Rattle.ch_overlay.specs.Soundness.{sound_row, still_sound}
use Rattle.ch_overlay.specs.Source.{row_in, IsBound, IsSeenRow, NamesAlone}
use Rattle.ch_overlay.specs.Change.{Change, ChangesWriteTheirRows, IsChange, changed_nodes, puts}
use Rattle.ch_overlay.specs.Ranges.{distinct_below-few, pairs-map, range-within}
use Rattle.ch_overlay.specs.Versions.{versions-next}
use Rattle.ch_contract.specs.declared.contraction.Receipt.{Receipt}
use Rattle.ch_contract.specs.Ledger.{Ledger, IsContracted, IsGone, IsLedger, IsLog, IsNode, IsStartLedger, row_now, versions_now}
use Rattle.ch_sequential.specs.Solo.{AreGoneBelow, HasVersions}

-- a change has few rows
pub few_changes : ChangesWriteTheirRows → {o : Overlay} {put : List Shortcut} {c : Change} → IsOverlay o → IsChange o put c → length c.rows ≤ 2 ^ 25
few_changes writes {o} {put} {c} is planned =
    let has = writes o c is (put, planned) in
    let f = λ (a : ℕ × Row). a.0 in
    let few = distinct_below-few (map f c.rows) (length o.rows) (pairs-map (λ x y. x ≢ y) f c.rows has.once) (All-map (λ x. x < length o.rows) f c.rows has.in_range) in
    let count = length-map c.rows f in
    let nodes = is.few_nodes in
    omega (arith, few, count, nodes)

-- Versions are left after a contraction whose rows took the next ones.
pub versions_left : (c : Change) {old new : Ledger} {node : ℕ} {put : List Shortcut} {receipt : Receipt} {vs : List ℕ} {next count : ℕ} → HasVersions old next → IsContracted old node put receipt new
    → vs ≡ range_with_len next count → versions_now new ≡ puts (versions_now old) (zip (changed_nodes c) vs) → count ≤ 2 ^ 25 → HasVersions new (next + count)
versions_left c {old} {new} {vs = vs} {next = next} {count = count} has done are written few =
    let long : length new.log ≡ length old.log + 1 = ap length done.contracts.log ∙ length_push old.log done.entry in
    let before = has.few in
    record {
      above = subst (λ (ws : List ℕ). All (λ v. v < next + count) ws) (sym written) (versions-next vs next count are (changed_nodes c) (versions_now old) has.above);
      few = omega (arith, before, few, long);
    }

-- and their numbers fit
pub room_left : {l : Ledger} {next count : ℕ} → HasVersions l next → IsLog l.log → count ≤ 2 ^ 25 → next + count < 2 ^ 64
room_left has is few = let before = has.few in let short = is.few in omega (arith, before, short, few)

-- as there are at first
pub versions_start : {g : Graph} {l : Ledger} {next : ℕ} → IsStartLedger g l → IsLedger l → next ≡ length l.overlay.rows → HasVersions l next
versions_start {g} {l} {next} start is nodes =
    let few = is.overlay.few_nodes in
    let count : length l.overlay.rows ≡ g.nodes = start.start.nodes in
    record {
      above = subst (λ (vs : List ℕ). All (λ v. v < next) vs) (sym start.versions) (λ k d h. let at = range-within 0 g.nodes k d h in omega (arith, at.1, nodes, count));
      few = omega (arith, few, nodes);
    }

-- A node is contracted once its contraction is entered, and so are those that were.
pub gone_now : {old new : Ledger} {node : ℕ} {put : List Shortcut} {receipt : Receipt} → IsContracted old node put receipt new → IsGone new node
gone_now {old} {new} {node} done = subst (λ (xs : List ℕ). Contains xs node) (sym (ap (λ (s : State). s.order) done.state)) (Contains-push old.overlay.order node)

pub gone_still : {old new : Ledger} {node : ℕ} {put : List Shortcut} {receipt : Receipt} → IsContracted old node put receipt new → (x : ℕ) → IsGone old x → IsGone new x
gone_still {old} {new} {node} done x among = subst (λ (xs : List ℕ). Contains xs x) (sym (ap (λ (s : State). s.order) done.state)) (Contains-append_left old.overlay.order (node ∷ []) x among)

pub same_nodes : {old new : Ledger} {node : ℕ} {put : List Shortcut} {receipt : Receipt} → IsContracted old node put receipt new → length new.overlay.rows ≡ length old.overlay.rows
same_nodes done = ap (λ (s : State). s.nodes) done.state

-- It is the last of those that are.
pub order_now : {old new : Ledger} {node : ℕ} {put : List Shortcut} {receipt : Receipt} → IsContracted old node put receipt new → new.overlay.order ≡ old.overlay.order ++ node ∷ []
order_now done = ap (λ (s : State). s.order) done.state

-- so the nodes up to this one are
pub gone_more : (old new : Ledger) (n : ℕ) → AreGoneBelow n old → IsGone new n → ((x : ℕ) → IsGone old x → IsGone new x) → AreGoneBelow (n + 1) new
gone_more old new n below here still x low = elim (cases_eq x n) [
  | inl same ↦ subst (λ (y : ℕ). IsGone new y) (sym same) here
  | inr other ↦ still x (below x (omega (arith, low, other)))
]

-- and at last all are
pub over_at_last : (l : Ledger) (n : ℕ) → AreGoneBelow n l → length l.overlay.rows ≤ n → IsOver (state_of l.overlay)
over_at_last l n below all x inside = below x (omega (arith, inside, all))

-- a node whose row has a rank is contracted
pub gone_by_rank : (l : Ledger) → IsLedger l → (x : ℕ) → IsNode l x → (row_now l x).rank ≢ None → IsGone l x
gone_by_rank l is x inside some = by_rank (row_now l x).rank refl
  where
    by_rank : (o : Option ℕ) → (row_now l x).rank ≡ o → IsGone l x
    by_rank None none = absurd (some none)
    by_rank (Some k) ranked = let at = ((is.overlay.rows x inside).rank k).0 ranked in contains_place l.overlay.order k 0 x at.0 at.1

-- The rows that it shows can be relied on.
module _ (o : Overlay) (is : IsOverlay o) (s : Seen) (inside : s.node < length o.rows) (row_is : row_in s ≡ row_at o.rows s.node) where
  sound : IsSound (length o.rows) o.bound s.node (row_in s)
  sound = subst (λ (r : Row). IsSound (length o.rows) o.bound s.node r) (sym row_is) (sound_row o is s.node inside)

  pub seen_row : IsSeenRow o.bound s
  seen_row = still_sound (length o.rows) (2 ^ 25) o.bound s.node (row_in s) is.few_nodes sound

  pub names_nodes : NamesAlone (λ x. x < length o.rows) (row_in s)
  names_nodes = record { out = λ k d h. (sound.entries.out k d h).in_range; inn = λ k d h. (sound.entries.inn k d h).in_range }

-- and so can its bound
pub ledger_bound : BoundsFit → (l : Ledger) → IsLedger l → IsBound l.overlay.bound
ledger_bound bounds_fit l is = subst (λ (c : Cost). IsBound c) (sym is.bound) (bounds_fit l.graph is.graph)
