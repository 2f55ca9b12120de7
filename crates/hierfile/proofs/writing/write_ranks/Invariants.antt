use Rattle.std.proofs.Common.{take}
use Rattle.std.specs.List.{flat_map}
use Rattle.counted_io.specs.Sinks.{Puts}
use Rattle.hierfile.specs.Spelling.{word}
use Rattle.hierfile.proofs.writing.write_ranks.Given as goal

abbrev pub invariant-nodes : goal.invariant-nodes
invariant-nodes g l = Puts g.W.StepWrite.step g.W.Write.contents l.fn.sink l.sink l.fn.writer l.writer (flat_map word (take l.node l.hierarchy.ranks))
