use Rattle.std.proofs.Common.{◌≡◌, None, [], ◌+◌, ◌-◌, ◌*◌, ◌≤◌, ◌++◌, length, option_to_list, vec_len}
use Rattle.ch_unpack.proofs.LinksToArcs.{IsUnderWay}
use Rattle.ch_unpack.proofs.unpacking.unpack.Given as goal

-- The next link counts among those ahead.
abbrev pub invariant-route : goal.invariant-route
invariant-route l = record {
  under_way : IsUnderWay l.hierarchy l.source l.links l.nodes.items (l.ahead.items ++ option_to_list l.next);
  none_left : l.next ≡ None → l.ahead.items ≡ [];
  in_room : vec_len l.nodes + length (l.ahead.items ++ option_to_list l.next) ≤ l.room;
}

-- Each turn either makes the known route longer by a node, or leaves a link fewer ahead.
abbrev pub decreases-route : goal.decreases-route
decreases-route l = 2 * (l.room - (vec_len l.nodes + length (l.ahead.items ++ option_to_list l.next))) + length (l.ahead.items ++ option_to_list l.next)
