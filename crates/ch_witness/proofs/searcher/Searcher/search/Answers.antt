use Rattle.ch_witness.specs.Kept.{kept_of, IsKept}
use Rattle.ch_witness.specs.Tree.{labels_of}
use Rattle.ch_witness.proofs.WaysOfTree.{all_seen, rows, ways_given, start_given}
use Rattle.ch_witness.proofs.searcher.Searcher.search.Goals as goal

pub returns-clause-ways : goal.returns-clause-ways
returns-clause-ways g c = ways_given c.in_ok-tree.tree.steps.items (labels_of c.in_ok-tree.tree.frontier) c.args.targets.now c.in_ok-ways.ways.items c.in_ok-tree.ensures.tree c.in_ok-ways.ensures.many c.in_ok-ways.ensures.ways

pub returns-clause-direct : goal.returns-clause-direct
returns-clause-direct g c = λ k h other.
    let start = c.in_ok-tree.ensures.start k h other in (
      start.0,
      start.1,
      start_given c.in_ok-tree.tree.steps.items (labels_of c.in_ok-tree.tree.frontier) c.args.targets.now c.in_ok-ways.ways.items start.0 c.requires.targets c.in_ok-ways.ensures.ways start.2,
    )

pub returns-clause-rows : goal.returns-clause-rows
returns-clause-rows g c = rows _ c.in_ok-tree.tree.steps.items c.in_ok-tree.ensures.tree.grown

pub returns-clause-kept_rows : goal.returns-clause-kept_rows
returns-clause-kept_rows g c = all_seen (IsKept (kept_of c.new-2.new.rows)) c.in_ok-tree.tree.steps.items c.in_ok-tree.ensures.kept_rows
