-- One contraction of a ledger: the change that was planned makes a lawful step.
use Rattle.std.proofs.Common.{ℕ, ◌≡◌, List, [], ◌∷◌, ◌++◌, length, map, drop, ap, sym, subst, refl, ◌∙◌}
use Rattle.std.proofs.lemmas.List.{length-map}
use Rattle.ch_graph.specs.Limits.{bound_of}
use Rattle.ch_laws.specs.declared.shortcut.Shortcut.{Shortcut}
use Rattle.ch_laws.specs.Contraction.{Contraction, contracted}
use Rattle.ch_laws.specs.Rows.{Row}
use Rattle.ch_laws.specs.Theorems.{PlanIsLawful, ReachesOn}
use Rattle.ch_overlay.specs.Overlay.{Overlay, IsOverlay, state_of}
use Rattle.ch_overlay.specs.Change.{AreRenewed, Change, IsChange, changed_nodes}
use Rattle.ch_overlay.specs.Steps.{lawful_step, log_entry}
use Rattle.ch_contract.specs.Ledger.{Ledger, IsLedger, AreLawful, IsContracted, receipt_of}
use Rattle.ch_contract.specs.Planned.{Planned, IsPlanned}

-- the ledger with these rows and one more entry
abbrev pub ledger_with : Ledger → Overlay → Contraction → Ledger
ledger_with l new e = record { graph = l.graph; overlay = new; log = l.log ++ e ∷ [] }

-- the ledger after a contraction is one
pub ledger_after : PlanIsLawful → ReachesOn → (l : Ledger) (put : List Shortcut) (c : Change) (new : Overlay) → IsLedger l → AreLawful l c.node put
    → IsChange l.overlay put c → IsOverlay new → new.bound ≡ l.overlay.bound → state_of new ≡ contracted (state_of l.overlay) c.node put
    → IsLedger (ledger_with l new (log_entry l.overlay put c))
ledger_after plan_is_lawful reaches_on l put c new is lawful planned overlay bound made = record {
  graph = is.graph;
  overlay = overlay;
  bound = bound ∙ is.bound;
  reached = reaches_on l.graph l.log (state_of l.overlay) (log_entry l.overlay put c) (state_of new) is.reached (lawful_step plan_is_lawful (bound_of l.graph) l.overlay put c (state_of new) is.bound lawful.witnessed planned made);
}

-- the nodes whose rows change are the contracted one and its neighbours
changed_are : (l : Ledger) (put : List Shortcut) (c : Change) → IsChange l.overlay put c → changed_nodes c ≡ c.node ∷ (log_entry l.overlay put c).neighbours
unfolding log_entry
changed_are l put c planned =
    ap (λ (rows : List (ℕ × Row)). map (λ (a : ℕ × Row). a.0) rows) planned.rows
    ∙ ap (λ (rows : List (ℕ × Row)). c.node ∷ map (λ (a : ℕ × Row). a.0) (drop 1 rows)) (sym planned.rows)

-- and the node is contracted
pub contracted_after : PlanIsLawful → (l : Ledger) (put : List Shortcut) (c : Change) (new : Overlay) → IsLedger l → AreLawful l c.node put
    → IsChange l.overlay put c → state_of new ≡ contracted (state_of l.overlay) c.node put
    → AreRenewed (changed_nodes c) l.overlay.versions new.versions
    → IsContracted l c.node put (receipt_of (log_entry l.overlay put c)) (ledger_with l new (log_entry l.overlay put c))
unfolding log_entry
contracted_after plan_is_lawful l put c new is lawful planned made renewed = record {
  entry = log_entry l.overlay put c;
  of_node = refl;
  of_shortcuts = refl;
  handed = refl;
  contracts = record { graph = refl; log = refl; step = lawful_step plan_is_lawful (bound_of l.graph) l.overlay put c (state_of new) is.bound lawful.witnessed planned made };
  state = made;
  versions = subst (λ (nodes : List ℕ). AreRenewed nodes l.overlay.versions new.versions) (changed_are l put c planned) renewed;
}

-- the nodes of shared rows are those of the rows
pub nodes_behind_first : {A : Type 0} (f : A → Row) (rows : List (ℕ × A)) (c : Change) → map (λ (a : ℕ × A). (a.0, f a.1)) rows ≡ c.rows → map (λ (a : ℕ × A). a.0) (drop 1 rows) ≡ map (λ (a : ℕ × Row). a.0) (drop 1 c.rows)
nodes_behind_first f rows c e = same_behind f rows ∙ ap (λ (rs : List (ℕ × Row)). map (λ (a : ℕ × Row). a.0) (drop 1 rs)) e
  where
    same : {A : Type 0} (g : A → Row) (xs : List (ℕ × A)) → map (λ (a : ℕ × A). a.0) xs ≡ map (λ (a : ℕ × Row). a.0) (map (λ (a : ℕ × A). (a.0, g a.1)) xs)
    same g [] = refl
    same g (x ∷ xs) = ap (λ ns. x.0 ∷ ns) (same g xs)

    same_behind : {A : Type 0} (g : A → Row) (xs : List (ℕ × A)) → map (λ (a : ℕ × A). a.0) (drop 1 xs) ≡ map (λ (a : ℕ × Row). a.0) (drop 1 (map (λ (a : ℕ × A). (a.0, g a.1)) xs))
    same_behind g [] = refl
    same_behind g (x ∷ xs) = same g xs

abbrev pub entry : ℕ → ℕ → List ℕ → ℕ → Contraction
entry node rank neighbours shortcuts = record { node = node; rank = rank; neighbours = neighbours; shortcuts = shortcuts }

-- the entry that was planned
pub planned_entry : (l : Ledger) (node : ℕ) (put : List Shortcut) (p : Planned) → IsPlanned l node put p → p.entry ≡ log_entry l.overlay put p.change
unfolding log_entry
planned_entry l node put p is =
    ap (λ n. entry n p.entry.rank p.entry.neighbours p.entry.shortcuts) (is.entry_node ∙ sym is.of_node)
    ∙ ap (λ r. entry p.change.node r p.entry.neighbours p.entry.shortcuts) is.entry_rank
    ∙ ap (λ ns. entry p.change.node (length l.overlay.order) ns p.entry.shortcuts) is.entry_neighbours
    ∙ ap (λ n. entry p.change.node (length l.overlay.order) (map (λ (a : ℕ × Row). a.0) (drop 1 p.change.rows)) n) is.entry_shortcuts

-- what was planned is lawful for the change's node
pub planned_lawful : (l : Ledger) (node : ℕ) (put : List Shortcut) (p : Planned) → IsPlanned l node put p → AreLawful l p.change.node put
planned_lawful l node put p is = subst (λ n. AreLawful l n put) (sym is.of_node) is.lawful

module _ (plan_is_lawful : PlanIsLawful) (l : Ledger) (node : ℕ) (put : List Shortcut) (p : Planned) (new : Overlay) (is : IsLedger l) (plan : IsPlanned l node put p) (made : state_of new ≡ contracted (state_of l.overlay) p.change.node put) where
  -- once it is entered, the ledger is one
  pub ledger_entered : ReachesOn → IsOverlay new → new.bound ≡ l.overlay.bound → IsLedger (ledger_with l new p.entry)
  ledger_entered reaches_on overlay bound =
      subst (λ (e : Contraction). IsLedger (ledger_with l new e)) (sym (planned_entry l node put p plan))
      (ledger_after plan_is_lawful reaches_on l put p.change new is (planned_lawful l node put p plan) plan.change overlay bound made)

  -- and the node is contracted
  pub contracted_entered : AreRenewed (changed_nodes p.change) l.overlay.versions new.versions → IsContracted l node put (receipt_of p.entry) (ledger_with l new p.entry)
  contracted_entered renewed =
      subst (λ n. IsContracted l n put (receipt_of p.entry) (ledger_with l new p.entry)) plan.of_node
      (subst (λ (e : Contraction). IsContracted l p.change.node put (receipt_of e) (ledger_with l new e)) (sym (planned_entry l node put p plan))
      (contracted_after plan_is_lawful l put p.change new is (planned_lawful l node put p plan) plan.change made renewed))

-- as many rows change as the code counts
pub counted : {A : Type 0} (f : A → Row) (rows : List (ℕ × A)) (all : List (ℕ × Row)) → map (λ (a : ℕ × A). (a.0, f a.1)) rows ≡ all → length rows ≡ length all
counted {A} f rows all e = sym (length-map rows (λ (a : ℕ × A). (a.0, f a.1))) ∙ ap length e
