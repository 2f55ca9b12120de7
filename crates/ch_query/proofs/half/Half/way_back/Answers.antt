use Rattle.std.proofs.Common.{◌≢◌, ◌++◌, ◌∷◌, [], List, sym, subst, refl, ◌∙◌}
use Rattle.ch_graph.specs.declared.hierarchy.LinkId.{LinkId}
use Rattle.ch_query.specs.Climb.{LeadsUp}
use Rattle.ch_query.proofs.SeedPlaces.{among-from_get, seed-in}
use Rattle.ch_query.proofs.ClimbLinks.{IsDescending, came_from, descending-none, descending-more, seed_there, descended}
use Rattle.ch_query.proofs.half.Half.way_back.Goals as goal

pub links-init : goal.links-init
links-init c = subst (λ (ids : List LinkId). IsDescending c.args.self.now.hierarchy.now c.args.self.now.side c.args.marks.now c.args.top c.args.top ids) (sym c.new-links.ensures.items) (descending-none c.requires.top_in)

pub link_between-at-requires-clause-link : goal.link_between-at-requires-clause-link
link_between-at-requires-clause-link c =
    let own = c.in-Some.ensures.some in
    let other : own.0.foot ≢ c.links.rank = λ same. own.3 (sym own.2 ∙ same) in
    let comes = came_from c.requires.searching own.1 other in
    (comes.over.goes.link, subst (λ q. LeadsUp c.args.self.now.hierarchy.now c.args.self.now.side q c.links.rank comes.over.goes.link) own.2 comes.over.goes.leads)

pub links-preserved : goal.links-preserved
links-preserved c =
    let h = c.args.self.now.hierarchy.now in
    let own = c.in-Some.ensures.some in
    let other : own.0.foot ≢ c.links.rank = λ same. own.3 (sym own.2 ∙ same) in
    let leads : LeadsUp h c.args.self.now.side own.0.foot c.links.rank c.link_between-at.result = subst (λ q. LeadsUp h c.args.self.now.side q c.links.rank c.link_between-at.result) (sym own.2) c.link_between-at.ensures in
    let more = descending-more c.requires.half.made c.requires.searching own.1 other leads c.links.invariant in
    subst (λ (ids : List LinkId). IsDescending h c.args.self.now.side c.args.marks.now c.args.top c.in-Some.foot ids) (sym c.in_ok-push.ensures.items)
    (subst (λ q. IsDescending h c.args.self.now.side c.args.marks.now c.args.top q (c.links.links.items ++ record { 0 = c.link_between-at.result } ∷ [])) own.2 more)

pub seed_at-seed-requires-clause-one : goal.seed_at-seed-requires-clause-one
seed_at-seed-requires-clause-one c =
    let here = seed_there c.requires.half.made c.requires.searching c.requires.top_in c.requires.label.1 c.in_default.ensures.none c.links.invariant in
    (here.0, c.cost.ensures ∙ here.1, here.2)

pub returns : goal.returns
returns c = λ x cost x_in at label.
    let found = c.seed_at-seed.ensures in
    let seed = seed-in c.args.self.now.seeds.now c.requires.half.seeds (among-from_get c.args.self.now.seeds.now c.seed_at-seed.result found.1) in
    descended c.requires.half.made found.1 seed.node_in found.2 (sym c.cost.ensures ∙ found.3) c.links.invariant x_in at label refl refl
