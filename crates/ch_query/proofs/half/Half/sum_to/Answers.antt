use Rattle.std.proofs.Common.{ℕ, ◌≡◌, ◌≢◌, ◌+◌, ◌*◌, ◌^◌, ◌<◌, ◌≤◌, length, slice_index, sym, subst, arith, ◌∙◌}
use Rattle.ch_graph.specs.Hierarchy.{Hierarchy}
use Rattle.ch_query.specs.declared.side.Side.{Side}
use Rattle.ch_query.specs.declared.side.Side.TheVariants.{Rise}
use Rattle.ch_query.specs.Climb.{LeadsUp}
use Rattle.ch_query.specs.Searching.{IsSearching}
use Rattle.ch_query.proofs.ClimbLinks.{came_from}
use Rattle.ch_query.proofs.NodeOfRank.{rank_below}
use Rattle.ch_query.proofs.LinkEnds.{foot_in}
use Rattle.ch_query.proofs.ClimbSums.{foot-sum, sum-none, sum-over}
use Rattle.ch_query.proofs.half.Half.sum_to.Goals as goal

pub link_between-link-requires-clause-link : goal.link_between-link-requires-clause-link
link_between-link-requires-clause-link c =
    let own = c.in-Some.ensures.some in
    let other : own.0.foot ≢ c.args.rank = λ same. own.3 (sym own.2 ∙ same) in
    let comes = came_from c.requires.searching own.1 other in
    (comes.over.goes.link, subst (λ q. LeadsUp c.args.self.now.hierarchy.now c.args.self.now.side q c.args.rank comes.over.goes.link) own.2 comes.over.goes.leads)

pub overflow_add-result : goal.overflow_add-result
overflow_add-result c =
    let own = c.in-Some.ensures.some in
    let searching = subst (λ (s : Side). IsSearching c.args.self.now.hierarchy.now s c.args.self.now.seeds.now c.args.self.now.bound c.args.marks.now) c.requires.side c.requires.searching in
    let leads = subst (λ (s : Side). LeadsUp c.args.self.now.hierarchy.now s c.in-Some.foot c.args.rank c.link_between-link.result) c.requires.side c.link_between-link.ensures in
    let before = foot-sum c.requires.half.made searching own.1 own.2 own.3 leads c.requires.foot in
    let number : slice_index c.args.numbers.now c.link_between-link.result ≤ 2 ^ 36 = c.requires.numbers.small c.link_between-link.result 0 (omega (arith, leads.climbs.within, c.requires.numbers.count)) in
    omega (arith, before.1.small, number, leads.foot, leads.head, leads.climbs.rises, c.requires.rank_in, c.requires.half.made.few_nodes)

pub returns-in-None : goal.returns-in-None
returns-in-None c =
    let searching = subst (λ (s : Side). IsSearching c.args.self.now.hierarchy.now s c.args.self.now.seeds.now c.args.self.now.bound c.args.marks.now) c.requires.side c.requires.searching in
    sum-none c.requires.half.made searching c.in-None.ensures.none

pub returns-in-Some : goal.returns-in-Some
returns-in-Some c =
    let own = c.in-Some.ensures.some in
    let searching = subst (λ (s : Side). IsSearching c.args.self.now.hierarchy.now s c.args.self.now.seeds.now c.args.self.now.bound c.args.marks.now) c.requires.side c.requires.searching in
    let leads = subst (λ (s : Side). LeadsUp c.args.self.now.hierarchy.now s c.in-Some.foot c.args.rank c.link_between-link.result) c.requires.side c.link_between-link.ensures in
    let number : slice_index c.args.numbers.now c.link_between-link.result ≤ 2 ^ 36 = c.requires.numbers.small c.link_between-link.result 0 (omega (arith, leads.climbs.within, c.requires.numbers.count)) in
    sum-over c.requires.half.made searching own.1 own.2 own.3 leads c.requires.foot number
