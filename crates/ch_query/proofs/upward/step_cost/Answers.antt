use Rattle.std.proofs.Common.{ℕ, ◌≡◌, ◌∙◌, Some, slice_index, ap, sym}
use Rattle.ch_cost.specs.ShortCost.{short_of, kept_in}
use Rattle.ch_cost.specs.ShortCost.Laws.{kept}
use Rattle.ch_query.specs.declared.upward.UpwardStep.{UpwardStep}
use Rattle.ch_query.specs.Climb.{cost_at}
use Rattle.ch_query.specs.Upward.{step_along}
use Rattle.ch_query.proofs.upward.step_cost.Goals as goal

pub returns-in-Some : goal.returns-in-Some
returns-in-Some c =
    let h = c.args.hierarchy.now in
    let k : ℕ = slice_index c.args.upward.now.links.items c.args.place in
    let step : UpwardStep = c.index.result.now in
    let is : step ≡ step_along h c.requires.0 k = c.index.ensures ∙ c.requires.1.along step in
    let read : kept_in (short_of (cost_at h k)) ≡ Some c.in-Some.cost = ap (λ (s : UpwardStep). kept_in s.cost) (sym is) ∙ (sym c.cost.ensures ∙ c.in-Some.is) in
    kept (cost_at h k) c.in-Some.cost read

pub link_cost-requires-clause-link_in : goal.link_cost-requires-clause-link_in
link_cost-requires-clause-link_in c = c.requires.1.climbs.within
