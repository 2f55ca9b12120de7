use Rattle.std.proofs.Common.{◌≡◌, slice_index, ap, subst, sym, ◌∙◌}
use Rattle.ch_query.specs.declared.upward.UpwardStep.{UpwardStep}
use Rattle.ch_query.specs.Climb.{head_rank, LeadsUp}
use Rattle.ch_query.specs.Upward.{step_along}
use Rattle.ch_query.specs.Searching.{IsStepAt}
use Rattle.ch_query.proofs.StepToRank.{IsAhead, ahead-first, ahead-step, ahead-next, ahead-here}
use Rattle.ch_query.proofs.upward.UpwardSteps.link_between.Goals as goal

pub steps-init : goal.steps-init
steps-init c =
    let h = c.args.hierarchy.now in
    let first = c.args.self.now.first.items in
    let links = c.args.self.now.links.items in
    let leads = c.requires.link in
    let begin : c.get-place.result ≡ slice_index first c.args.foot = c.get-place.ensures in
    subst (λ i. IsAhead h c.args.side first links c.args.foot c.args.head i) (sym begin) (ahead-first c.requires.made c.requires.laid leads.1)

pub steps-preserved : goal.steps-preserved
steps-preserved c =
    let h = c.args.hierarchy.now in
    let links = c.args.self.now.links.items in
    let leads = c.requires.link in
    let read : IsStepAt h c.args.side links c.args.self.now.steps.items c.steps.place = ahead-step c.requires.made c.requires.laid leads.1 c.steps.invariant in
    let is : c.index.result.now ≡ step_along h c.args.side (slice_index links c.steps.place) = c.index.ensures ∙ read.along c.index.result.now in
    let head : c.index.result.now.head ≡ head_rank h c.args.side (slice_index links c.steps.place) = ap (λ (s : UpwardStep). s.head) is in
    ahead-next c.requires.made c.requires.laid leads.1 c.steps.invariant (λ same. c.steps-test.true (head ∙ same))

pub returns : goal.returns
returns c =
    let h = c.args.hierarchy.now in
    let links = c.args.self.now.links.items in
    let leads = c.requires.link in
    let read : IsStepAt h c.args.side links c.args.self.now.steps.items c.steps.place = ahead-step c.requires.made c.requires.laid leads.1 c.steps.invariant in
    let is : c.index.result.now ≡ step_along h c.args.side (slice_index links c.steps.place) = c.index.ensures ∙ read.along c.index.result.now in
    let head : c.index.result.now.head ≡ head_rank h c.args.side (slice_index links c.steps.place) = ap (λ (s : UpwardStep). s.head) is in
    subst (λ k. LeadsUp h c.args.side c.args.foot c.args.head k) (sym c.get.ensures) (ahead-here c.requires.made c.requires.laid leads.1 c.steps.invariant (sym head ∙ c.steps-test.false))
