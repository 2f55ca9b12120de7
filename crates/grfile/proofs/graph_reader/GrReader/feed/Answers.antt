use Rattle.std.proofs.Common.{◌≡◌, None, subst}
use Rattle.std.specs.Result.{IfErr}
use Rattle.ch_graph.specs.declared.road.Road.{Road}
use Rattle.grfile.proofs.LaterFaults.{first_taken, graph_text}
use Rattle.ch_graph.specs.Limits.{IsGraph}
use Rattle.grfile.specs.Roads.{graph_grammar}
use Rattle.grfile.specs.Taken.{ComesFirst, Taken, graph_with, taken_of}
use Rattle.grfile.proofs.TextInPieces.{still_holds}
use Rattle.grfile.proofs.LinesToText.{as_graph}
use Rattle.grfile.proofs.graph_reader.GrReader.feed.Goals as goal

pub invariant_of-self : goal.invariant_of-self
invariant_of-self c = still_holds graph_grammar (taken_of c.self.inside.pieces) (taken_of c.feed.new.pieces) c.args.piece.now as_graph IsGraph c.feed.result c.feed.ensures.takes c.feed.ensures.refused c.self.invariant

pub returns-clause-before : goal.returns-clause-before
returns-clause-before c = subst (λ (old : Taken Road). old.failed ≡ None → IfErr c.feed.result (ComesFirst (graph_with old) c.args.piece.now)) c.self.view_is (λ fresh. first_taken graph_text (taken_of c.self.inside.pieces) c.args.piece.now c.feed.result (c.feed.ensures.before fresh))
