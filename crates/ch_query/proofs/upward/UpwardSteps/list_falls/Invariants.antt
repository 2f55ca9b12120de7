use Rattle.std.proofs.Common.{◌≡◌, ◌+◌, ◌≤◌, slice_index}
use Rattle.ch_query.proofs.ListedFalls.{IsListing}
use Rattle.ch_query.proofs.upward.UpwardSteps.list_falls.Given as goal

abbrev pub invariant-places : goal.invariant-places
invariant-places l = record {
  from : slice_index l.self.first.items l.rank ≤ l.place;
  end : l.end ≡ slice_index l.self.first.items (l.rank + 1);
  listing : IsListing l.hierarchy l.rank l.self.links.items (slice_index l.self.first.items l.rank) l.place l.falls.items;
}
