use Rattle.std.proofs.Common.{ℕ, arith, sym, subst, ◌∙◌, inl, inr}
use Rattle.std.proofs.lemmas.Bool.{cases_eq}
use Rattle.ch_laws.specs.Rows.{Row, row_at}
use Rattle.ch_check.specs.Comparing.{IsLinked}
use Rattle.ch_check.proofs.comparing.compare_rows.Goals as goal

pub nodes-preserved : goal.nodes-preserved
nodes-preserved c = λ x low. elim (cases_eq x c.nodes.node) [
  | inl same ↦
      subst (λ (y : ℕ). IsLinked c.args.hierarchy.now.links y (row_at c.args.overlay.now.rows y)) (sym same)
      (subst (λ (r : Row). IsLinked c.args.hierarchy.now.links c.nodes.node r) (c.deref.ensures ∙ c.row.ensures) c.in_ok-compare_row.ensures)
  | inr other ↦ c.nodes.invariant x (omega (arith, low, other))
]
