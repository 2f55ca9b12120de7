use Rattle.std.proofs.Common.{sym, ◌∙◌}
use Rattle.ch_cost.specs.Cost.Laws.{equal-from_same}
use Rattle.ch_graph.specs.Middle.{same_middles-Decides}
use Rattle.ch_check.proofs.Tests.{and_parts}
use Rattle.ch_check.proofs.comparing.is_same.Goals as goal

pub returns : goal.returns
returns c = λ both.
    let parts = and_parts c.eq.result c.eq-2.result both in (
      equal-from_same _ _ (sym c.eq.ensures ∙ parts.0),
      (same_middles-Decides _ _).0 (sym c.eq-2.ensures ∙ parts.1),
    )
