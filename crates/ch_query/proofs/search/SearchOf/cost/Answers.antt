use Rattle.std.proofs.Common.{◌∷◌, [], ap, ◌∙◌}
use Rattle.std.proofs.lemmas.Result.{IfOk-weaker}
use Rattle.ch_graph.specs.Hierarchy.{IsValue}
use Rattle.ch_graph.specs.Hierarchy.{Hierarchy}
use Rattle.ch_query.specs.Seeds.{IsValueBetween}
use Rattle.ch_query.proofs.FreeSeeds.{seeds-of, bound-of, value-of}
use Rattle.ch_query.proofs.search.SearchOf.cost.Goals as goal

pub least_cost-requires-clause-starts : goal.least_cost-requires-clause-starts
least_cost-requires-clause-starts g c = seeds-of c.free.ensures c.requires.source_in

pub least_cost-requires-clause-ends : goal.least_cost-requires-clause-ends
least_cost-requires-clause-ends g c = seeds-of c.free-2.ensures c.requires.target_in

pub least_cost-requires-clause-bound : goal.least_cost-requires-clause-bound
least_cost-requires-clause-bound g c =
    bound-of c.self.invariant.made (c.bound-bound.ensures ∙ ap (λ (h : Hierarchy). h.bound) c.hierarchy.ensures)

pub returns-clause-value : goal.returns-clause-value
returns-clause-value g c =
    IfOk-weaker c.least_cost.result
    (IsValueBetween c.args.self.now (c.free.result ∷ []) (c.free-2.result ∷ []) c.bound-bound.result)
    (IsValue c.args.self.now c.args.source c.args.target)
    (λ v value. value-of c.args.self.now c.free.ensures c.free-2.ensures
    (c.bound-bound.ensures ∙ ap (λ (h : Hierarchy). h.bound) (c.hierarchy.ensures ∙ c.self.view_is)) v value)
    c.least_cost.ensures.value
