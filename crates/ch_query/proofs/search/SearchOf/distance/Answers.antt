use Rattle.std.proofs.Common.{◌∷◌, [], Option, Some, None, IfSome, option_map, subst, ap, ◌∙◌}
use Rattle.ch_query.specs.declared.search.FoundBetween.{FoundBetween}
use Rattle.ch_graph.specs.Hierarchy.{Hierarchy}
use Rattle.ch_query.specs.Seeds.{IsValueBetween, IsWalkBetween}
use Rattle.ch_query.proofs.FreeSeeds.{seeds-of, bound-of, value-of, walk-of}
use Rattle.ch_query.proofs.search.SearchOf.distance.Given.{Over}
use Rattle.ch_query.proofs.search.SearchOf.distance.Goals as goal

pub least_walk-requires-clause-starts : goal.least_walk-requires-clause-starts
least_walk-requires-clause-starts g c = seeds-of c.free.ensures c.requires.source_in

pub least_walk-requires-clause-ends : goal.least_walk-requires-clause-ends
least_walk-requires-clause-ends g c = seeds-of c.free-2.ensures c.requires.target_in

pub least_walk-requires-clause-bound : goal.least_walk-requires-clause-bound
least_walk-requires-clause-bound g c = bound-of c.self.invariant.made (c.bound-bound.ensures ∙ ap (λ (h : Hierarchy). h.bound) c.hierarchy.ensures)

pub returns-in_default-clause-value : goal.returns-in_default-clause-value
returns-in_default-clause-value g c =
    value-of c.args.self.now c.free.ensures c.free-2.ensures
    (c.bound-bound.ensures ∙ ap (λ (h : Hierarchy). h.bound) (c.hierarchy.ensures ∙ c.self.view_is)) None
    (subst (λ (o : Option FoundBetween). IsValueBetween c.args.self.now (c.free.result ∷ []) (c.free-2.result ∷ []) c.bound-bound.result
    (option_map (λ (f : FoundBetween). f.cost) o)) c.in_default.is c.in_ok-found.ensures.value)

pub returns-clause-value : goal.returns-clause-value
returns-clause-value g c =
    value-of c.args.self.now c.free.ensures c.free-2.ensures
    (c.bound-bound.ensures ∙ ap (λ (h : Hierarchy). h.bound) (c.hierarchy.ensures ∙ c.self.view_is)) (Some c.in-Some.field-0.cost)
    (subst (λ (o : Option FoundBetween). IsValueBetween c.args.self.now (c.free.result ∷ []) (c.free-2.result ∷ []) c.bound-bound.result
    (option_map (λ (f : FoundBetween). f.cost) o)) c.in-Some.is c.in_ok-found.ensures.value)

walk : (g : Over) (c : goal.In-Some g) → IsWalkBetween c.args.self.now (c.free.result ∷ []) (c.free-2.result ∷ []) c.in-Some.field-0.start c.in-Some.field-0.end c.in-Some.field-0.links.items c.in-Some.field-0.cost
walk g c = subst (λ (o : Option FoundBetween). IfSome o (λ (f : FoundBetween). IsWalkBetween c.args.self.now (c.free.result ∷ []) (c.free-2.result ∷ []) f.start f.end f.links.items f.cost)) c.in-Some.is c.in_ok-found.ensures.walk

pub returns-clause-walk : goal.returns-clause-walk
returns-clause-walk g c = (walk-of c.free.ensures c.free-2.ensures (walk g c)).0

pub returns-clause-joined : goal.returns-clause-joined
returns-clause-joined g c = (walk-of c.free.ensures c.free-2.ensures (walk g c)).1
