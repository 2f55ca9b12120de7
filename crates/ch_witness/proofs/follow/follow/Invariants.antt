use Rattle.ch_witness.proofs.FollowedArcs.{AreFollowedSoFar}
use Rattle.ch_witness.specs.Tree.{labels_of}
use Rattle.ch_witness.proofs.follow.follow.Given as goal

abbrev pub invariant-loop-entry : goal.invariant-loop-entry
invariant-loop-entry l = AreFollowedSoFar l.fn.rule l.fn.entries l.cost l.before l.entry-index (labels_of l.initial.frontier) (labels_of l.frontier)
