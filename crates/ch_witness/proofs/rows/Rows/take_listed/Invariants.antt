use Rattle.std.proofs.Common.{take}
use Rattle.ch_witness.specs.Kept.{kept_of}
use Rattle.ch_witness.proofs.ListedAnswers.{Listing}
use Rattle.ch_witness.proofs.rows.Rows.take_listed.Given as goal

abbrev pub invariant-nodes : goal.invariant-nodes
invariant-nodes l = Listing (kept_of l.initial.self) (kept_of l.self) (take l.node-index l.nodes) l.listed.items
