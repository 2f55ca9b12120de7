use Rattle.std.proofs.Common.{Bool, ◌≡◌, true, Some, sym, ap, ◌∙◌}
use Rattle.ch_witness.specs.declared.label.Label.{Label}
use Rattle.ch_witness.specs.Tree.{labels_of}
use Rattle.ch_witness.proofs.SomeValues.{some-same}
use Rattle.ch_witness.proofs.ValuesOfNodes.{value_elsewhere, value_found, value_written}
use Rattle.ch_witness.proofs.frontier.Frontier.settle.Goals as goal

pub returns-clause-settled : goal.returns-clause-settled
returns-clause-settled c =
    let at = c.in_ok-place.ensures.found in
    let nodes = c.args.self.now.nodes in
    let labels = c.args.self.now.labels.items in
    let l = c.index-label.result.now in
    let m = c.index_mut.result.now in
    let known : labels_of c.args.self.now c.args.node ≡ Some l = value_found labels l c.args.self.now.paired at ∙ ap (λ (k : Label). Some k) (sym c.index-label.ensures) in
    let again : labels_of c.args.self.now c.args.node ≡ Some m = value_found labels m c.args.self.now.paired at ∙ ap (λ (k : Label). Some k) (sym c.index_mut.ensures.value) in
    record {
      others = λ u apart. value_elsewhere nodes labels u c.in_ok-place.place _ (λ e. apart (sym e ∙ at.here));
      was = known ∙ ap (λ (b : Bool). Some (record { cost = l.cost; before = l.before; settled = b })) c.if-label.false;
      here = value_written labels _ c.args.self.now.paired at ∙ ap (λ (k : Label). Some (record { cost = k.cost; before = k.before; settled = true })) (some-same m l (sym again ∙ known));
    }
