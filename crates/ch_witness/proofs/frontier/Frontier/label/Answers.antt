use Rattle.std.proofs.Common.{Some, sym, ap, ◌∙◌}
use Rattle.ch_witness.specs.declared.label.Label.{Label}
use Rattle.ch_witness.proofs.ValuesOfNodes.{value_absent, value_found}
use Rattle.ch_witness.proofs.frontier.Frontier.label.Goals as goal

pub returns-in_err-place : goal.returns-in_err-place
returns-in_err-place c = c.from_residual.ensures ∙ sym (value_absent c.args.self.now.nodes c.args.self.now.labels.items c.args.node c.in_err-place.ensures.absent)

pub returns : goal.returns
returns c = ap (λ (l : Label). Some l) c.index.ensures ∙ sym (value_found c.args.self.now.labels.items c.index.result.now c.args.self.now.paired c.in_ok-place.ensures.found)
