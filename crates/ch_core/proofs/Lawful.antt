-- An offer whose versions are all current is a lawful contraction.
use Rattle.std.proofs.Common.{ℕ, ◌≡◌, ◌<◌, List, length, get_or, Some, All, ap, sym, subst, ◌∙◌, inl, inr}
use Rattle.std.proofs.lemmas.Bool.{cases_eq}
use Rattle.ch_laws.specs.Rows.{Row}
use Rattle.ch_overlay.specs.declared.source.Seen.{Seen}
use Rattle.ch_overlay.specs.Source.{row_in}
use Rattle.ch_overlay.specs.Overlay.{row_at, no_arcs}
use Rattle.ch_contract.specs.Ledger.{AreLawful, version_now}
use Rattle.ch_contract.specs.Commit.{NoneIsOld, IsRowOf, AgreementIsLawful}
use Rattle.ch_contract.specs.Proposal.{Proposal, IsProposal}
use Rattle.ch_core.specs.World.{World, RowVersion, Standing, StandsIn, MayOffer, IsCurrent, IsIn, has, view_of}
use Rattle.ch_core.specs.Keeping.{IsWorld, IsSoundVersion}

-- the row of a number in the book is one
pub one_row : (book : List RowVersion) (x y v : ℕ) (q r : Row) → IsIn book x v q → IsIn book y v r → ◌≡◌ {A = RowVersion} (record { node = x; row = q }) (record { node = y; row = r })
one_row book x y v q r first second = sym first.here ∙ second.here

module _ (w : World) (is : IsWorld w) where
  -- what a worker has is of a node
  pub had_in_range : (k x : ℕ) (t : Standing) → has w k x ≡ Some t → x < length w.ledger.overlay.rows
  had_in_range k x t there =
      let listed = is.views k x t there in
      let none : RowVersion = record { node = 0; row = no_arcs } in
      let sound : IsSoundVersion w.ledger.overlay (get_or w.book t.version none) = is.sound t.version none listed.within in
      let node_is : (get_or w.book t.version none).node ≡ x = ap (λ (v : RowVersion). v.node) listed.here in
      subst (λ n. n < length w.ledger.overlay.rows) node_is sound.in_range

  -- the row that a worker has of a node is the current one where the version is
  pub standing_now : (k : ℕ) (s : Seen) → StandsIn (view_of w k) s → IsCurrent w s → IsRowOf w.ledger s
  standing_now k s stands current =
      let t : Standing = record { version = s.version; row = row_in s } in
      let inside = had_in_range k s.node t stands in
      let listed = is.views k s.node t stands in
      let now = is.current s.node inside in
      let moved = subst (λ v. IsIn w.book s.node v (row_at w.ledger.overlay.rows s.node)) (sym current) now in
      record { in_range = inside; same = ap (λ (v : RowVersion). v.row) (one_row w.book s.node s.node s.version (row_in s) (row_at w.ledger.overlay.rows s.node) listed moved) }

-- so is an offer whose versions are all current
pub lawful_offer : AgreementIsLawful → (w : World) → IsWorld w → (worker : ℕ) (p : Proposal) → IsProposal p → MayOffer w worker p → All (IsCurrent w) p.rests_on → AreLawful w.ledger p.node p.shortcuts
lawful_offer agreement_is_lawful w is worker p holds may current = agreement_is_lawful w.ledger p is.ledger holds (record {
  bound = may.bound ∙ sym is.ledger.bound;
  rows = λ k d h. standing_now w is worker (get_or p.rests_on k d) (may.rows k d h) (current k d h);
})

-- a row that is in a view is current where it isn't old
pub all_current : (w : World) → IsWorld w → (k : ℕ) (rows : List Seen) → All (StandsIn (view_of w k)) rows → NoneIsOld w.ledger rows → All (IsCurrent w) rows
all_current w is k rows stand none i d h =
    let s : Seen = get_or rows i d in
    elim (cases_eq s.version (version_now w.ledger s.node)) [
      | inl same ↦ same
      | inr changed ↦ absurd (none i d h (record { in_range = had_in_range w is k s.node (record { version = s.version; row = row_in s }) (stand i d h); changed = changed }))
    ]
