use Rattle.std.proofs.Common.{ℕ, ◌≡◌, ◌<◌, ◌++◌, List, All, length, map, ap, sym, subst, ◌∙◌, arith}
use Rattle.std.specs.Arc.{arc_value}
use Rattle.std.specs.List.{zip, range_with_len}
use Rattle.std.proofs.lemmas.List.{length-map}
use Rattle.std.proofs.lemmas.Grind.{common_steps}
use Rattle.ch_overlay.specs.Change.{puts}
use Rattle.ch_laws.specs.declared.shortcut.Shortcut.{Shortcut}
use Rattle.ch_laws.specs.Rows.{Row}
use Rattle.ch_laws.specs.Members.{map-map}
use Rattle.ch_contract.specs.Ledger.{IsLedger, AreLawful, IsContracted}
use Rattle.ch_contract.specs.Commit.{IsContractedYet}
use Rattle.ch_contract.specs.Planned.{IsPlanned, AreNewVersions}
use Rattle.ch_core.specs.World.{World, RowVersion, MayOffer, IsCurrent, version_of, IsAccepted}
use Rattle.ch_core.specs.Keeping.{IsWorld}
use Rattle.ch_core.proofs.Kept.{versions_below}
use Rattle.ch_core.proofs.Lawful.{lawful_offer}
use Rattle.ch_core.proofs.Accepting.{then_world, then_accepted}
use Rattle.ch_core.proofs.world.World.accept.Goals as goal

pub plan-requires : goal.plan-requires
plan-requires c =
    let w = c.args.self.now in
    let p = c.args.proposal.now in
    let is : IsWorld w = subst (λ (v : World). IsWorld v) c.self.view_is c.self.invariant in
    let lawful : AreLawful w.ledger p.node p.shortcuts = lawful_offer c.agreement_is_lawful.ensures w is c.args.worker p c.requires.holds c.requires.may c.requires.current in
    subst (λ (put : List Shortcut). AreLawful c.self.inside.ledger c.node.result put) (sym c.shortcuts.ensures)
    (subst (λ n. AreLawful c.self.inside.ledger n p.shortcuts) (sym c.node.ensures)
    (subst (λ (v : World). AreLawful v.ledger p.node p.shortcuts) (sym c.self.view_is) lawful))

-- the versions of the new rows are the next places of the book
pub enter-receipt-requires-clause-versions : goal.enter-receipt-requires-clause-versions
enter-receipt-requires-clause-versions c =
    let w : World = record { ledger = c.self.inside.ledger; book = c.self.inside.book.items; views = c.self.inside.views.items } in
    let count : c.len-count.result ≡ length c.in_ok-planned.planned.change.rows =
    c.len-count.ensures ∙ c.in_ok-fresh.fresh.ok.0 ∙ ap length c.in_ok-fresh.ensures ∙ length-map c.rows.result.now (λ a. version_of (a.0, arc_value a.1))
    ∙ sym (length-map c.rows.result.now (λ a. (a.0, arc_value a.1))) ∙ ap length c.rows.ensures in
    let below : All (λ v. v < c.len-first.result) c.self.inside.ledger.overlay.versions = subst (λ n. All (λ v. v < n) c.self.inside.ledger.overlay.versions) (sym (c.len-first.ensures ∙ c.self.inside.book.ok.0)) (versions_below w c.self.invariant) in
    subst (λ (versions : List ℕ). AreNewVersions c.self.inside.ledger c.in_ok-planned.planned versions) (sym c.as_slice.ensures.value)
    (c.in_ok-versions.ensures.new c.self.inside.ledger c.in_ok-planned.planned count below)

-- the world before
abbrev before : goal.After-drop-versions-2 → World
before c = record { ledger = c.self.inside.ledger; book = c.self.inside.book.items; views = c.self.inside.views.items }

planned : (c : goal.After-drop-versions-2) → IsPlanned c.self.inside.ledger c.args.proposal.now.node c.args.proposal.now.shortcuts c.in_ok-planned.planned
planned c =
    subst (λ (put : List Shortcut). IsPlanned c.self.inside.ledger c.args.proposal.now.node put c.in_ok-planned.planned) c.shortcuts.ensures
    (subst (λ n. IsPlanned c.self.inside.ledger n c.shortcuts.result.now c.in_ok-planned.planned) c.node.ensures c.in_ok-planned.ensures)

contracts : (c : goal.After-drop-versions-2) → IsContracted c.self.inside.ledger c.args.proposal.now.node c.args.proposal.now.shortcuts c.enter-receipt.result c.enter-receipt.new.self
contracts c = c.enter-receipt.ensures.contracted c.args.proposal.now.node c.args.proposal.now.shortcuts (planned c)

-- as many versions as rows
count_is : (c : goal.After-drop-versions-2) → c.len-count.result ≡ length c.in_ok-planned.planned.change.rows
count_is c =
    c.len-count.ensures ∙ c.in_ok-fresh.fresh.ok.0 ∙ ap length c.in_ok-fresh.ensures ∙ length-map c.rows.result.now (λ a. version_of (a.0, arc_value a.1))
    ∙ sym (length-map c.rows.result.now (λ a. (a.0, arc_value a.1))) ∙ ap length c.rows.ensures

-- numbered from the end of the book on
versions_are : (c : goal.After-drop-versions-2) → c.enter-receipt.new.self.overlay.versions ≡ puts c.self.inside.ledger.overlay.versions (zip (map (λ a. a.0) c.in_ok-planned.planned.change.rows) (range_with_len (length c.self.inside.book.items) (length c.in_ok-planned.planned.change.rows)))
versions_are c =
    c.enter-receipt.ensures.versions
    ∙ ap (λ vs. puts c.self.inside.ledger.overlay.versions (zip (map (λ a. a.0) c.in_ok-planned.planned.change.rows) vs))
    (c.as_slice.ensures.value ∙ c.in_ok-versions.ensures.items ∙ ap (λ n. range_with_len n c.len-count.result) (c.len-first.ensures ∙ c.self.inside.book.ok.0) ∙ ap (λ n. range_with_len (length c.self.inside.book.items) n) (count_is c))

book_is : (c : goal.After-drop-versions-2) → c.append.new.book.items ≡ c.self.inside.book.items ++ map version_of c.in_ok-planned.planned.change.rows
book_is c =
    c.append.ensures
    ∙ ap (λ (b : List RowVersion). b ++ c.in_ok-fresh.fresh.items) c.in_ok-reserve.ensures.items
    ∙ ap (λ (fresh : List RowVersion). c.self.inside.book.items ++ fresh)
    (c.in_ok-fresh.ensures ∙ sym (map-map (λ a. (a.0, arc_value a.1)) version_of c.rows.result.now) ∙ ap (λ (rows : List (ℕ × Row)). map version_of rows) c.rows.ensures)

module _ (c : goal.After-drop-versions-2) (goes : IsLedger c.enter-receipt.new.self) where
  abbrev after : World
  after = record { ledger = c.enter-receipt.new.self; book = c.append.new.book.items; views = c.self.inside.views.items }

  after_world : IsWorld after
  after_world =
      subst (λ (book : List RowVersion). IsWorld (record { ledger = c.enter-receipt.new.self; book = book; views = c.self.inside.views.items })) (sym (book_is c))
      (then_world c.changes_write_their_rows.ensures (before c) c.args.proposal.now c.in_ok-planned.planned (planned c) c.enter-receipt.result c.enter-receipt.new.self (contracts c) goes c.self.invariant c.enter-receipt.ensures.rows (versions_are c))

  after_accepted : IsAccepted c.args.self.now c.args.worker c.args.proposal.now c.enter-receipt.result after
  after_accepted =
      let p = c.args.proposal.now in
      let may : MayOffer (before c) c.args.worker p = subst (λ (v : World). MayOffer v c.args.worker p) (sym c.self.view_is) c.requires.may in
      let waits : IsContractedYet c.self.inside.ledger p → ⊥ = subst (λ (v : World). IsContractedYet v.ledger p → ⊥) (sym c.self.view_is) c.requires.waits in
      let current : All (IsCurrent (before c)) p.rests_on = subst (λ (v : World). All (IsCurrent v) p.rests_on) (sym c.self.view_is) c.requires.current in
      subst (λ (v : World). IsAccepted v c.args.worker p c.enter-receipt.result after) c.self.view_is
      (subst (λ (book : List RowVersion). IsAccepted (before c) c.args.worker p c.enter-receipt.result (record { ledger = c.enter-receipt.new.self; book = book; views = c.self.inside.views.items })) (sym (book_is c))
      (then_accepted c.changes_write_their_rows.ensures (before c) p c.in_ok-planned.planned (planned c) c.enter-receipt.result c.enter-receipt.new.self (contracts c) goes c.self.invariant c.enter-receipt.ensures.rows (versions_are c) c.args.worker may waits current))

pub invariant_of-self-2 : goal.invariant_of-self-2
invariant_of-self-2 c = after_world c c.holds.ensures

pub returns-clause-accepted : goal.returns-clause-accepted
returns-clause-accepted c = after_accepted c c.holds.ensures

pub append-requires : goal.append-requires
append-requires c = grind (arith, common_steps) steps 600000

pub invariant_of-self : goal.invariant_of-self
invariant_of-self c = grind (arith, common_steps) steps 600000
