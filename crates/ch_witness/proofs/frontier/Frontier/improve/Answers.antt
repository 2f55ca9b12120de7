use Rattle.std.proofs.Common.{Bool, ◌≡◌, true, false, Some, sym, subst, ap, ◌∙◌}
use Rattle.ch_witness.specs.declared.label.Label.{Label}
use Rattle.ch_witness.specs.Frontier.{Improves}
use Rattle.ch_witness.specs.Tree.{labels_of}
use Rattle.ch_witness.proofs.OfferedLabels.{offer_none, offer_better}
use Rattle.ch_witness.proofs.ValuesOfNodes.{value_elsewhere, value_found, value_written}
use Rattle.ch_witness.proofs.frontier.Frontier.improve.Goals as goal

pub returns-then-not-is_improved_by : goal.returns-then-not-is_improved_by
returns-then-not-is_improved_by c =
    let known : labels_of c.args.self.now c.args.node ≡ Some c.index.result.now = value_found c.args.self.now.labels.items c.index.result.now c.args.self.now.paired c.requires ∙ ap (λ (l : Label). Some l) (sym c.index.ensures) in
    offer_none (labels_of c.args.self.now) c.args.node c.args.cost c.args.before (λ i. not_true c.is_improved_by.result (c.is_improved_by.ensures.1 (subst (Improves c.args.cost) known i)) c.if-not-is_improved_by.true) where
      not_true : (b : Bool) → b ≡ true → b ≡ false → ⊥
      not_true b t f = cc

pub returns : goal.returns
returns c =
    let known : labels_of c.args.self.now c.args.node ≡ Some c.index.result.now = value_found c.args.self.now.labels.items c.index.result.now c.args.self.now.paired c.requires ∙ ap (λ (l : Label). Some l) (sym c.index.ensures) in
    offer_better (labels_of c.args.self.now) _ c.args.node c.args.cost c.args.before
    (subst (Improves c.args.cost) (sym known) (c.is_improved_by.ensures.0 c.if-not-is_improved_by.false))
    (value_written c.args.self.now.labels.items c.opened.result c.args.self.now.paired c.requires ∙ ap (λ (l : Label). Some l) c.opened.ensures)
    (λ u apart. value_elsewhere c.args.self.now.nodes c.args.self.now.labels.items u c.args.at c.opened.result (λ e. apart (sym e ∙ c.requires.here)))
