-- A proposal that agrees with a ledger is a lawful contraction of it.
use Rattle.std.proofs.Common.{◌≡◌, ◌<◌, List, ◌∷◌, length, All, sym, subst, ◌∙◌}
use Rattle.std.proofs.lemmas.List.Elements.{All-head, All-contains}
use Rattle.ch_cost.specs.declared.cost.Cost.{Cost}
use Rattle.ch_graph.specs.Limits.{bound_of}
use Rattle.ch_laws.specs.Contraction.{IsPlan, IsWitnessed}
use Rattle.ch_laws.specs.Rows.{Row, IsRow}
use Rattle.ch_laws.specs.Verdicts.{AreRead, AreVerdicts}
use Rattle.ch_laws.specs.Theorems.{VerdictsAreLawful}
use Rattle.ch_overlay.specs.Finding.{row_among}
use Rattle.ch_overlay.specs.declared.source.Seen.{Seen}
use Rattle.ch_overlay.specs.Overlay.{state_of}
use Rattle.ch_overlay.specs.Source.{row_in, row_of}
use Rattle.ch_contract.specs.Ledger.{Ledger, IsLedger, AreLawful}
use Rattle.ch_contract.specs.Proposal.{Proposal, IsProposal}
use Rattle.ch_contract.specs.Commit.{IsRowOf, Agrees}

module _ (verdicts_are_lawful : VerdictsAreLawful) (l : Ledger) (is : IsLedger l) where
  -- a row that is the ledger's is the row of its node
  row_of_node : (s : Seen) → IsRowOf l s → IsRow (state_of l.overlay) s.node (row_in s)
  row_of_node s here = subst (λ (r : Row). IsRow (state_of l.overlay) s.node r) (sym here.same) (is.overlay.rows s.node here.in_range)

  -- so are all rows that were read
  are_read : (seen : List Seen) → All (IsRowOf l) seen → AreRead (state_of l.overlay) (row_of seen)
  are_read seen all x r found =
      let s = row_among seen x r found in
      subst (λ (q : Row). IsRow (state_of l.overlay) x q) s.3 (subst (λ y. IsRow (state_of l.overlay) y (row_in s.0)) s.2 (row_of_node s.0 (All-contains (IsRowOf l) seen s.0 all s.1)))

  -- and the verdicts on them are lawful
  pub agrees-lawful : (p : Proposal) → IsProposal p → Agrees l p → AreLawful l p.node p.shortcuts
  agrees-lawful p made agrees =
      let first : All (IsRowOf l) (made.first ∷ made.others) = subst (λ (rows : List Seen). All (IsRowOf l) rows) made.rests_on agrees.rows in
      let low : p.node < length l.overlay.rows = subst (λ n. n < length l.overlay.rows) made.of_node (All-head (IsRowOf l) made.first made.others first).in_range in
      let bound : p.bound ≡ bound_of l.graph = agrees.bound ∙ is.bound in
      let verdicts : AreVerdicts (bound_of l.graph) (row_of p.rests_on) p.node p.shortcuts = subst (λ (c : Cost). AreVerdicts c (row_of p.rests_on) p.node p.shortcuts) bound made.verdicts in
      let lawful = verdicts_are_lawful l.graph l.log (state_of l.overlay) (row_of p.rests_on) p.node p.shortcuts is.graph is.reached low (are_read p.rests_on agrees.rows) verdicts in
      record {
        plan = subst (λ (c : Cost). IsPlan c (state_of l.overlay) p.node p.shortcuts) (sym is.bound) lawful.0;
        witnessed = subst (λ (c : Cost). IsWitnessed c (state_of l.overlay) p.node p.shortcuts) (sym is.bound) lawful.1;
      }
