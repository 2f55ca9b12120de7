use Rattle.std.proofs.Common.{◌≡◌, ◌++◌, ◌<◌, reverse, length, List, ap, ◌∙◌, sym, subst, arith}
use Rattle.ch_graph.specs.declared.hierarchy.LinkId.{LinkId}
use Rattle.ch_graph.specs.Marks.{mark, label_in}
use Rattle.ch_graph.specs.Marks.Laws.{label-in}
use Rattle.ch_query.specs.Seeds.{IsWalkBetween}
use Rattle.ch_query.proofs.NodeOfRank.{rank_taken}
use Rattle.ch_query.proofs.MarkOrder.{from_cost}
use Rattle.ch_query.proofs.StoppedSides.{walk_between}
use Rattle.ch_query.proofs.query.Query.walk.Goals as goal

joined : (c : goal.After-drop-fallen-2) → c.extend_from_slice.new.self.items ≡ reverse c.in_ok-links.field-0.links.items ++ c.in_ok-fallen.fallen.links.items
joined c =
    let reversed = ap (λ (ids : List LinkId). ids ++ c.deref.result.now) c.reverse.ensures.items in
    c.in_ok-extend_from_slice.ensures.items ∙ (reversed ∙ ap (λ (ids : List LinkId). reverse c.in_ok-links.field-0.links.items ++ ids) c.deref.ensures.value)

pub returns-clause-walk : goal.returns-clause-walk
returns-clause-walk c =
    let h = c.args.self.now.hierarchy.now in
    let meets = c.requires.met.meets in
    let label = from_cost {o = label_in (mark c.args.up.now c.args.meeting.rank)} meets.risen in
    let low : c.args.meeting.rank < length h.ranks = omega (arith, label-in c.args.up.now c.args.meeting.rank label.0 label.1, c.requires.met.rises.nodes) in
    let node = rank_taken c.requires.query.made low in
    let up = c.in_ok-links.ensures node.0 meets.rise node.1 node.2 meets.risen in
    let down = c.in_ok-fallen.ensures node.0 meets.fall node.1 node.2 meets.fallen in
    subst (λ (ids : List LinkId). IsWalkBetween h c.args.self.now.starts.now c.args.self.now.ends.now c.in_ok-links.field-0.seed c.in_ok-fallen.fallen.seed ids c.args.meeting.cost) (sym (joined c))
    (walk_between {start = up.seed} {stop = down.seed} up.descends down.descends c.rise_fall_joins.ensures up.at down.at meets.sum)
