use Rattle.std.proofs.Common.{◌+◌, ◌-◌, slice_index}
use Rattle.ch_query.proofs.StepToRank.{IsAhead}
use Rattle.ch_query.proofs.upward.UpwardSteps.link_between.Given as goal

abbrev pub invariant-steps : goal.invariant-steps
invariant-steps l = IsAhead l.hierarchy l.fn.side l.self.first.items l.self.links.items l.foot l.head l.place

abbrev pub decreases-steps : goal.decreases-steps
decreases-steps l = slice_index l.self.first.items (l.foot + 1) - l.place
