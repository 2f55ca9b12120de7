use Rattle.std.proofs.Common.{List, Some, sym, subst, ap, ◌++◌, ◌∷◌, [], ◌∙◌, arith}
use Rattle.std.proofs.lemmas.Grind.{common_steps}
use Rattle.ch_witness.specs.declared.label.Label.{Label}
use Rattle.ch_witness.specs.Frontier.{Improves}
use Rattle.ch_witness.specs.Tree.{labels_of}
use Rattle.ch_witness.proofs.OfferedLabels.{offer_better}
use Rattle.ch_witness.proofs.ValuesOfNodes.{value_absent, values_put}
use Rattle.ch_witness.proofs.frontier.Frontier.open.Goals as goal

pub returns : goal.returns
returns c =
    let nodes = c.args.self.now.nodes in
    let labels : List Label = c.args.self.now.labels.items in
    let put = values_put nodes labels c.args.node c.opened.result c.in_ok-push-2.ensures.put (c.push_reserved.ensures.items ∙ ap (λ (ls : List Label). ls ++ c.opened.result ∷ []) c.reserve.ensures.items) c.args.self.now.paired c.requires in
    offer_better (labels_of c.args.self.now) _ c.args.node c.args.cost c.args.before
    (subst (Improves c.args.cost) (sym (value_absent nodes labels c.args.node c.requires)) tt)
    (put.0 ∙ ap (λ (l : Label). Some l) c.opened.ensures)
    put.1

pub invariant_of-self-2 : goal.invariant_of-self-2
invariant_of-self-2 c = grind (arith, common_steps) steps 200000
