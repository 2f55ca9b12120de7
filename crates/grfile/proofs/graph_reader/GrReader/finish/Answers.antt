use Rattle.std.proofs.Common.{[], Result, ap}
use Rattle.ch_graph.specs.declared.road.Road.{Road}
use Rattle.grfile.specs.declared.error.GrError.{GrError}
use Rattle.grfile.specs.Grammar.{Listing}
use Rattle.grfile.specs.Outcome.{◌>>=◌}
use Rattle.grfile.proofs.LinesToText.{as_graph}
use Rattle.grfile.proofs.graph_reader.GrReader.finish.Goals as goal

pub new-requires : goal.new-requires
new-requires c = c.self.invariant [] _ (ap (λ (told : Result (Listing Road) GrError). told >>= as_graph) c.in_ok-size.ensures.told)
