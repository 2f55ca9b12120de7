use Rattle.std.proofs.Common.{◌≡◌, length}
use Rattle.ch_query.specs.Touched.{ArePlaces}
use Rattle.ch_query.proofs.mark_list.MarkList.clear.Given as goal

abbrev pub invariant-seen : goal.invariant-seen
invariant-seen l = record {
  placed : ArePlaces l.self-inside.places.items l.self-inside.seen.items;
  count : length l.self-inside.places.items ≡ length l.initial.self-inside.places.items;
}

abbrev pub decreases-seen : goal.decreases-seen
decreases-seen l = length l.self-inside.seen.items
