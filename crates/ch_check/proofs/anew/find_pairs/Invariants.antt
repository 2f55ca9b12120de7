use Rattle.std.proofs.Common.{[], take}
use Rattle.ch_check.specs.Pairs.{AreSorted}
use Rattle.ch_check.proofs.anew.find_pairs.Given as goal

abbrev pub invariant-outs : goal.invariant-outs
invariant-outs l =
    let t = l.task in
    AreSorted t.overlay.now t.node l.first l.into (take l.out-index t.row.now.out) l.pairs.items []
