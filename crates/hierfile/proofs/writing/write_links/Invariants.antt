use Rattle.std.proofs.Common.{take}
use Rattle.std.specs.List.{flat_map}
use Rattle.ch_graph.specs.declared.version.Version.TheVariants.{Two}
use Rattle.counted_io.specs.Sinks.{Puts}
use Rattle.hierfile.specs.Spelling.{link_bytes}
use Rattle.hierfile.proofs.writing.write_links.Given as goal

abbrev pub invariant-links : goal.invariant-links
invariant-links g l = Puts g.W.StepWrite.step g.W.Write.contents l.fn.sink l.sink l.fn.writer l.writer (flat_map (link_bytes Two) (take l.link-index l.links))
