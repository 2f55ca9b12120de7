use Rattle.std.proofs.Common.{◌∙◌, sym, rules}
use Rattle.ch_service.proofs.JoinedLines.{pairs_part-percent, graph_part-percent, graph_part-line}
use Rattle.ch_service.proofs.joined.parts.Goals as goal

pub returns-then-is_percent-clause-graph : goal.returns-then-is_percent-clause-graph
returns-then-is_percent-clause-graph c =
    sym (c.loop-start.invariant.graph ∙ graph_part-percent c.args.input.now c.loop-start.start c.line_len.result c.line_len.ensures.line (sym c.is_percent.ensures ∙ c.if-is_percent.true))

pub returns-then-is_percent-clause-pairs : goal.returns-then-is_percent-clause-pairs
returns-then-is_percent-clause-pairs c =
    sym (c.loop-start.invariant.pairs ∙ pairs_part-percent c.args.input.now c.loop-start.start c.line_len.result c.line_len.ensures.line (sym c.is_percent.ensures ∙ c.if-is_percent.true))

pub loop-start-preserved : goal.loop-start-preserved
loop-start-preserved c =
    let line = graph_part-line c.args.input.now c.loop-start.start c.line_len.result c.line_len.ensures.line (sym c.is_percent.ensures ∙ c.if-is_percent.false) in
    record {
      within = search rules;
      graph = c.loop-start.invariant.graph ∙ line.0;
      pairs = c.loop-start.invariant.pairs ∙ line.1;
    }
