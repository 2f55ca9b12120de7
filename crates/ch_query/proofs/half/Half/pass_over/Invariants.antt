use Rattle.std.proofs.Common.{◌≡◌, ◌+◌, ◌≤◌, slice_index}
use Rattle.ch_query.proofs.FollowedLinks.{IsPassing}
use Rattle.ch_query.proofs.half.Half.pass_over.Given as goal

abbrev pub invariant-loop-place : goal.invariant-loop-place
invariant-loop-place l = record {
  from : slice_index l.self.steps.now.first.items l.from.rank ≤ l.place;
  end : l.end ≡ slice_index l.self.steps.now.first.items (l.from.rank + 1);
  passing : IsPassing l.self.hierarchy.now l.self.side l.self.bound l.from.rank l.from.label.cost
      l.self.steps.now.links.items (slice_index l.self.steps.now.first.items l.from.rank) l.place l.limit l.initial.here
      l.here;
}
