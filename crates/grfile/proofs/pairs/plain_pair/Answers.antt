use Rattle.std.proofs.Common.{sym, ◌∙◌}
use Rattle.grfile.proofs.PlainFields.{pair_before}
use Rattle.grfile.proofs.pairs.plain_pair.Goals as goal

pub returns-in-Ok : goal.returns-in-Ok
returns-in-Ok c = pair_before c.args.nodes c.args.size c.args.line c.in-Ok.entry c.in_ok-numbers.ensures c.in_ok-source.ensures c.in_ok-target.ensures (sym c.pair_in_range.ensures ∙ c.in-Ok.is)
