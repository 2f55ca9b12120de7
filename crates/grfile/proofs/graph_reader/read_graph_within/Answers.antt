use Rattle.std.proofs.Common.{Ok, ap, sym}
use Rattle.std.proofs.lemmas.Result.{IfOk-at_ok}
use Rattle.ch_graph.specs.Graph.{Graph}
use Rattle.grfile.proofs.SpelledTexts.{graph_spelled}
use Rattle.grfile.proofs.LaterFaults.{graph_text, text_read, text_refused}
use Rattle.grfile.proofs.graph_reader.read_graph_within.Goals as goal

pub returns-in_err-size : goal.returns-in_err-size
returns-in_err-size g c = record {
  reads = text_refused graph_text (λ (g : Graph). g) c.from_residual.result c.from_residual.ensures.1 c.in_err-size.ensures.told c.in_err-size.ensures.reads c.in_err-size.ensures.before;
}

pub new-requires : goal.new-requires
new-requires g c = let listed = c.in_ok-size.ensures.listed in
    (IfOk-at_ok _ listed.1 (graph_spelled listed.0)).limits

pub returns : goal.returns
returns g c = record {
  reads = text_read graph_text (λ (g : Graph). g) _ c.new.result c.in_ok-size.ensures.told (ap (λ (g : Graph). Ok g) (sym c.new.ensures)) c.in_ok-size.ensures.reads;
}
