use Rattle.std.proofs.Common.{◌≡◌, length, get_or, ap, subst, arith}
use Rattle.ch_graph.specs.Hierarchy.{Hierarchy, IsWellMade}
use Rattle.ch_table.proofs.Marked.{listed-all, listed-closed}
use Rattle.ch_table.proofs.columns.down_to.Goals as goal

pub returns : goal.returns
returns g c =
    let h = c.args.search.now in
    let made : IsWellMade c.args.search.now = subst (λ (k : Hierarchy). IsWellMade k) c.hierarchy.ensures c.nodes-nodes.ensures.made in
    let count : length c.hierarchy.result.now.ranks ≡ length c.args.search.now.ranks = ap (λ (k : Hierarchy). length k.ranks) c.hierarchy.ensures in
    let whole : c.ranks.low ≡ length c.args.search.now.ranks = omega (arith, c.ranks-test.false, c.ranks.invariant.within, c.nodes-nodes.ensures.count, count) in
    let ranks = c.ranks.marked.down.ranks.items in
    let tails = c.ranks.marked.down.steps.tails.items in
    record {
      above = listed-all h c.args.targets.now ranks tails c.ranks.low c.ranks.marked.marks.items whole c.ranks.invariant.listed (λ k d low. made.in_range (get_or c.args.targets.now k d) 0 (c.requires.targets k d low));
      down = c.ranks.invariant.down;
      closed = listed-closed h c.args.targets.now ranks tails c.ranks.low c.ranks.marked.marks.items whole c.ranks.invariant.listed;
    }
