use Rattle.std.proofs.Common.{Result, ap, sym, ◌∙◌}
use Rattle.ch_graph.specs.declared.road.Road.{Road}
use Rattle.grfile.specs.declared.error.GrError.{GrError}
use Rattle.grfile.specs.Grammar.{Listing}
use Rattle.grfile.specs.Outcome.{◌>>=◌}
use Rattle.grfile.specs.Roads.{graph_grammar}
use Rattle.grfile.proofs.TextInPieces.{told_first}
use Rattle.grfile.proofs.LinesToText.{as_graph, graph_seen, graph_sound}
use Rattle.grfile.proofs.graph_reader.GrReader.new.Goals as goal

pub returns-clause-told : goal.returns-clause-told
returns-clause-told c = λ rest. ap (λ (told : Result (Listing Road) GrError). told >>= as_graph) (told_first graph_grammar rest c.new.ensures) ∙ graph_seen rest

pub invariant_of-result : goal.invariant_of-result
invariant_of-result c = λ rest g is. graph_sound rest g (sym (ap (λ (told : Result (Listing Road) GrError). told >>= as_graph) (told_first graph_grammar rest c.new.ensures) ∙ graph_seen rest) ∙ is)
