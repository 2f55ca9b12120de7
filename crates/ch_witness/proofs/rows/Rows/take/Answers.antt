use Rattle.std.proofs.Common.{sym, ap, ◌∙◌}
use Rattle.ch_witness.specs.Kept.{joined}
use Rattle.ch_witness.proofs.ValuesOfNodes.{value_absent, value_elsewhere, value_found, value_written}
use Rattle.ch_witness.proofs.rows.Rows.take.Goals as goal

pub returns-in_err-place-clause-taken : goal.returns-in_err-place-clause-taken
returns-in_err-place-clause-taken c = c.from_residual.ensures ∙ sym (ap joined (value_absent c.args.self.now.nodes c.args.self.now.kept.items c.args.node c.in_err-place.ensures.absent))

pub returns-in_err-place-clause-here : goal.returns-in_err-place-clause-here
returns-in_err-place-clause-here c = ap joined (value_absent c.args.self.now.nodes c.args.self.now.kept.items c.args.node c.in_err-place.ensures.absent)

pub returns-clause-taken : goal.returns-clause-taken
returns-clause-taken c = c.take.ensures.value ∙ sym (ap joined (value_found c.args.self.now.kept.items c.index_mut.result.now c.args.self.now.paired c.in_ok-place.ensures.found) ∙ sym c.index_mut.ensures.value)

pub returns-clause-here : goal.returns-clause-here
returns-clause-here c = ap joined (value_written c.args.self.now.kept.items c.take.new.self c.args.self.now.paired c.in_ok-place.ensures.found) ∙ c.take.ensures.after

pub returns-clause-others : goal.returns-clause-others
returns-clause-others c = λ x apart. ap joined (value_elsewhere c.args.self.now.nodes c.args.self.now.kept.items x c.in_ok-place.place c.take.new.self (λ e. apart (sym e ∙ c.in_ok-place.ensures.found.here)))
