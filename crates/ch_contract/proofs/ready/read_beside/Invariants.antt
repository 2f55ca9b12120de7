use Rattle.std.proofs.Common.{◌++◌, All, take}
use Rattle.ch_contract.specs.Ready.{AreAnswered, RowsRise}
use Rattle.ch_contract.proofs.ready.read_beside.Given as goal

-- the first nodes are answered
abbrev pub invariant-nodes : goal.invariant-nodes
invariant-nodes g l = record {
  bears : All g.S.RowSource.bears l.beside.items;
  rise : RowsRise l.beside.items;
  read : AreAnswered (l.rests_on ++ l.beside.items) (take l.node-index l.nodes);
  stays : g.S.RowSource.stays l.initial.source l.source;
}
