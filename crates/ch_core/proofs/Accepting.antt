-- A contraction that a ledger entered is what an accepted offer does.
use Rattle.std.proofs.Common.{ℕ, ◌≡◌, List, [], ◌∷◌, ◌++◌, length, map, All, Contains, ap, sym, subst, refl, ◌∙◌}
use Rattle.std.specs.List.{zip, range_with_len}
use Rattle.ch_cost.specs.declared.cost.Cost.{Cost}
use Rattle.ch_graph.specs.Graph.{Graph}
use Rattle.ch_graph.specs.Limits.{bound_of}
use Rattle.ch_laws.specs.declared.shortcut.Shortcut.{Shortcut}
use Rattle.ch_laws.specs.Contraction.{State, Contraction, IsNeighbour}
use Rattle.ch_laws.specs.Rows.{Row}
use Rattle.ch_overlay.specs.Overlay.{Overlay, state_of}
use Rattle.ch_overlay.specs.Change.{Change, IsChange, puts, ChangesWriteTheirRows}
use Rattle.ch_contract.specs.declared.contraction.Receipt.{Receipt}
use Rattle.ch_contract.specs.Ledger.{Ledger, IsLedger, IsContracted}
use Rattle.ch_contract.specs.Commit.{IsContractedYet}
use Rattle.ch_contract.specs.Planned.{Planned, IsPlanned}
use Rattle.ch_contract.specs.Proposal.{Proposal}
use Rattle.ch_core.specs.World.{World, MayOffer, IsCurrent, AreNewRows, IsEntryOf, entered, version_of, IsAccepted}
use Rattle.ch_core.specs.Keeping.{IsWorld}
use Rattle.ch_core.proofs.Kept.{world_after}

ledger_of : Graph → Cost → List Row → List ℕ → List ℕ → List Contraction → Ledger
ledger_of graph bound rows versions order log = record { graph = graph; overlay = record { bound = bound; rows = rows; versions = versions; order = order }; log = log }

-- the new rows of a change
new_rows : (o : Overlay) (put : List Shortcut) (c : Change) (node : ℕ) → IsChange o put c → c.node ≡ node → AreNewRows o node put c.rows
new_rows o put c node is of_node = subst (λ n. AreNewRows o n put c.rows) of_node (record { others = is.others; listed = is.rows; rising = is.rising; neighbours = is.neighbours; changed = is.changed })

module _ (changes_write : ChangesWriteTheirRows) (w : World) (p : Proposal) (plan : Planned) (planned : IsPlanned w.ledger p.node p.shortcuts plan) (receipt : Receipt) (new : Ledger) (contracted : IsContracted w.ledger p.node p.shortcuts receipt new) (goes : IsLedger new) where
  its_entry : IsEntryOf (state_of w.ledger.overlay) p.node p.shortcuts contracted.entry
  its_entry = record {
    of_node = contracted.of_node;
    rank = contracted.contracts.step.rank;
    rising = contracted.contracts.step.rising;
    neighbours = subst (λ n. (x : ℕ) → (Contains contracted.entry.neighbours x → IsNeighbour (state_of w.ledger.overlay) n x) × (IsNeighbour (state_of w.ledger.overlay) n x → Contains contracted.entry.neighbours x)) contracted.of_node contracted.contracts.step.neighbours;
    shortcuts = contracted.of_shortcuts;
  }

  module _ (is : IsWorld w) (rows : new.overlay.rows ≡ puts w.ledger.overlay.rows plan.change.rows) (versions_are : new.overlay.versions ≡ puts w.ledger.overlay.versions (zip (map (λ a. a.0) plan.change.rows) (range_with_len (length w.book) (length plan.change.rows)))) where
    bound_stays : new.overlay.bound ≡ w.ledger.overlay.bound
    bound_stays = goes.bound ∙ ap bound_of contracted.contracts.graph ∙ sym is.ledger.bound

    order_is : new.overlay.order ≡ w.ledger.overlay.order ++ p.node ∷ []
    order_is = ap (λ (s : State). s.order) contracted.state

    ledger_is : new ≡ entered w.ledger (length w.book) p.node plan.change.rows contracted.entry
    unfolding ledger_of
    ledger_is =
        ap (λ (g : Graph). ledger_of g new.overlay.bound new.overlay.rows new.overlay.versions new.overlay.order new.log) contracted.contracts.graph
        ∙ ap (λ (b : Cost). ledger_of w.ledger.graph b new.overlay.rows new.overlay.versions new.overlay.order new.log) bound_stays
        ∙ ap (λ (rs : List Row). ledger_of w.ledger.graph w.ledger.overlay.bound rs new.overlay.versions new.overlay.order new.log) rows
        ∙ ap (λ vs. ledger_of w.ledger.graph w.ledger.overlay.bound (puts w.ledger.overlay.rows plan.change.rows) vs new.overlay.order new.log) versions_are
        ∙ ap (λ xs. ledger_of w.ledger.graph w.ledger.overlay.bound (puts w.ledger.overlay.rows plan.change.rows) (puts w.ledger.overlay.versions (zip (map (λ a. a.0) plan.change.rows) (range_with_len (length w.book) (length plan.change.rows)))) xs new.log) order_is
        ∙ ap (λ (es : List Contraction). ledger_of w.ledger.graph w.ledger.overlay.bound (puts w.ledger.overlay.rows plan.change.rows)
        (puts w.ledger.overlay.versions (zip (map (λ a. a.0) plan.change.rows) (range_with_len (length w.book) (length plan.change.rows))))
        (w.ledger.overlay.order ++ p.node ∷ []) es) contracted.contracts.log

    -- the world after it
    abbrev pub world_then : World
    world_then = record { ledger = new; book = w.book ++ map version_of plan.change.rows; views = w.views }

    pub then_world : IsWorld world_then
    then_world = world_after changes_write w is p.shortcuts plan.change planned.change new goes contracted.contracts.graph rows versions_are

    pub then_accepted : (worker : ℕ) → MayOffer w worker p → (IsContractedYet w.ledger p → ⊥) → All (IsCurrent w) p.rests_on → IsAccepted w worker p receipt world_then
    then_accepted worker may waits current = record {
      may = may;
      waits = waits;
      current = current;
      rows = plan.change.rows;
      are_new = new_rows w.ledger.overlay p.shortcuts plan.change p.node planned.change planned.of_node;
      entry = contracted.entry;
      is_entry = its_entry;
      handed = contracted.handed;
      ledger = ledger_is;
      book = refl;
      views = refl;
    }
