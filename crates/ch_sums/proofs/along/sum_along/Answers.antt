use Rattle.std.proofs.Common.{◌<◌, ◌≤◌, List, length, Option, None, option_map, IfSome, All, sym, subst, arith}
use Rattle.ch_cost.specs.Cost.{length_of}
use Rattle.ch_graph.specs.declared.hierarchy.LinkId.{LinkId}
use Rattle.ch_graph.specs.Hierarchy.{IsValue, IsWellMade}
use Rattle.ch_query.specs.declared.search.Found.{Found}
use Rattle.ch_query.specs.Places.{IsRiseFallAt}
use Rattle.ch_sums.specs.Numbers.{SumIsAlong, sum_at}
use Rattle.ch_sums.proofs.Walks.{places-in, walk-few}
use Rattle.ch_sums.proofs.along.sum_along.Goals as goal

pub returns-in-None-clause-along : goal.returns-in-None-clause-along
returns-in-None-clause-along g c graph number right are =
    let h = c.args.search.now in
    let value : IsValue h c.args.pair.0 c.args.pair.1 None = subst (λ (o : Option Found). IsValue h c.args.pair.0 c.args.pair.1 (option_map (λ (f : Found). f.cost) o)) c.in-None.is c.in_ok-distance.ensures.value in
    (c.sums_are_along.ensures graph h number c.args.numbers.now c.args.pair.0 c.args.pair.1 right are c.requires.source_in c.requires.target_in).1 value

pub along-sum-requires-clause-links_in : goal.along-sum-requires-clause-links_in
along-sum-requires-clause-links_in g c =
    let h = c.args.search.now in
    let walk : IsRiseFallAt h c.in-Some.found.links.items c.args.pair.0 c.args.pair.1 c.in-Some.found.cost = subst (λ (o : Option Found). IfSome o (λ (f : Found). IsRiseFallAt h f.links.items c.args.pair.0 c.args.pair.1 f.cost)) c.in-Some.is c.in_ok-distance.ensures.walk in
    subst (λ (ids : List LinkId). All (λ (id : LinkId). id.0 < length c.args.numbers.now) ids) (sym c.deref.ensures.value)
    (λ k d low. omega (arith, places-in h c.in-Some.found.links.items walk.links walk.are_at k d low, c.requires.numbers))

pub along-sum-requires-clause-few : goal.along-sum-requires-clause-few
along-sum-requires-clause-few g c =
    let h = c.args.search.now in
    let walk : IsRiseFallAt h c.in-Some.found.links.items c.args.pair.0 c.args.pair.1 c.in-Some.found.cost = subst (λ (o : Option Found). IfSome o (λ (f : Found). IsRiseFallAt h f.links.items c.args.pair.0 c.args.pair.1 f.cost)) c.in-Some.is c.in_ok-distance.ensures.walk in
    let made : IsWellMade h = subst IsWellMade c.hierarchy.ensures c.nodes-well_made.ensures.made in
    subst (λ (ids : List LinkId). length ids ≤ 67108864) (sym c.deref.ensures.value) (walk-few made c.requires.source_in walk)

pub returns-in-Some-clause-along : goal.returns-in-Some-clause-along
returns-in-Some-clause-along g c graph number right are =
    let h = c.args.search.now in
    let s = c.args.pair.0 in
    let t = c.args.pair.1 in
    let ns = c.args.numbers.now in
    let found = c.in-Some.found in
    let walk : IsRiseFallAt h c.in-Some.found.links.items c.args.pair.0 c.args.pair.1 c.in-Some.found.cost = subst (λ (o : Option Found). IfSome o (λ (f : Found). IsRiseFallAt h f.links.items c.args.pair.0 c.args.pair.1 f.cost)) c.in-Some.is c.in_ok-distance.ensures.walk in
    let value = subst (λ (o : Option Found). IsValue h c.args.pair.0 c.args.pair.1 (option_map (λ (f : Found). f.cost) o)) c.in-Some.is c.in_ok-distance.ensures.value in
    let is = (c.sums_are_along.ensures graph h number ns s t right are c.requires.source_in c.requires.target_in).0 found.cost found.links.items value walk in
    subst (λ n. SumIsAlong graph number s t n c.along-sum.result) (sym c.length-length.ensures)
    (subst (λ m. SumIsAlong graph number s t (length_of c.in-Some.found.cost) m) (sym c.along-sum.ensures)
    (subst (λ (ids : List LinkId). SumIsAlong graph number s t (length_of c.in-Some.found.cost) (sum_at ns ids)) (sym c.deref.ensures.value) is))
