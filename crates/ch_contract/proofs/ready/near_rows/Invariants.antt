use Rattle.std.proofs.Common.{◌≡◌, ◌++◌, Some, All, map, take}
use Rattle.ch_overlay.specs.Source.{row_of}
use Rattle.ch_contract.proofs.ready.near_rows.Given as goal

-- the rows of the first nodes
abbrev pub invariant-nodes : goal.invariant-nodes
invariant-nodes l = record {
  nodes : map (λ a. a.0) l.near.items ≡ take l.node-index l.nodes;
  rows : All (λ a. row_of (l.rests_on ++ l.beside) a.0 ≡ Some a.1.now) l.near.items;
}
