use Rattle.std.proofs.Common.{ℕ, ◌≡◌, List, replicate, sym, subst}
use Rattle.ch_query.specs.declared.upward.UpwardStep.{UpwardStep}
use Rattle.ch_query.specs.Counting.{IsFilled}
use Rattle.ch_query.proofs.LaidLinks.{filled-none}
use Rattle.ch_query.proofs.upward.UpwardSteps.with_room.Goals as goal

pub returns-clause-filled : goal.returns-clause-filled
returns-clause-filled c =
    let h = c.args.hierarchy.now in
    let side = c.args.side in
    let sums : List ℕ = c.sum_up-count.new.counts.items in
    let count = c.sum_up-count.result in
    let links : c.in_ok-links.links.items ≡ replicate count 0 = c.in_ok-links.ensures.items in
    let steps : c.in_ok-steps.steps.items ≡ replicate count c.first_step.result = c.in_ok-steps.ensures.items_if_clones_equal (λ y e. e) in
    let filled : IsFilled h side 0 sums (replicate count 0) (replicate count c.first_step.result) = filled-none c.sum_up-count.ensures.sums c.sum_up-count.ensures.all c.first_step.ensures in
    subst (λ (ls : List ℕ). IsFilled h side 0 sums ls c.in_ok-steps.steps.items) (sym links)
    (subst (λ (ss : List UpwardStep). IsFilled h side 0 sums (replicate count 0) ss) (sym steps) filled)
