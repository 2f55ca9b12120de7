use Rattle.std.proofs.Common.{arith}
use Rattle.ch_graph.proofs.HeadSearch.{upper_half, lower_half}
use Rattle.ch_graph.proofs.link_index.half_with.Goals as goal

pub returns-then-links-middle-clause-near : goal.returns-then-links-middle-clause-near
returns-then-links-middle-clause-near c = upper_half _ _ c.requires.sorted c.requires.near (omega arith) c.if-links-middle.true

pub returns-else-links-middle-clause-near : goal.returns-else-links-middle-clause-near
returns-else-links-middle-clause-near c = lower_half _ _ c.requires.sorted c.requires.near (omega arith) (omega arith) c.if-links-middle.false
