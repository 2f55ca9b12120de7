use Rattle.std.proofs.Common.{Bool, true, false, ℕ, slice_index, ◌≡◌, ◌+◌, ◌<◌, ◌≤◌, ◌^◌, ◌∙◌, List, length, ap, refl, subst, sym, arith}
use Rattle.std.proofs.lemmas.Bool.{iff_false}
use Rattle.ch_cost.specs.declared.cost.Cost.{Cost}
use Rattle.ch_cost.specs.Cost.{◌⊕◌, IsSummable, IsNoLonger}
use Rattle.ch_cost.specs.Cost.Laws.{summable-from_walks}
use Rattle.ch_graph.specs.declared.mark.Mark.{Mark}
use Rattle.ch_graph.specs.Marks.{mark, Improves}
use Rattle.ch_query.specs.declared.upward.UpwardStep.{UpwardStep}
use Rattle.ch_query.specs.declared.label.Label.{Label}
use Rattle.ch_query.specs.Upward.{step_along}
use Rattle.ch_query.specs.Labels.{CountsBelow}
use Rattle.ch_query.specs.Climb.{head_rank, cost_at}
use Rattle.ch_query.specs.Marks.{IsSettledAtMost, label_cost}
use Rattle.ch_query.specs.Searching.{IsOpenedOver, IsFollowed, ClimbsTo}
use Rattle.ch_query.proofs.LinkEnds.{foot_in, head_in}
use Rattle.ch_query.proofs.NodeOfRank.{rank_below}
use Rattle.ch_query.proofs.OneTurn.{link_summable, rank_few}
use Rattle.ch_query.proofs.FollowedLinks.{opened-one, followed-put, followed-kept, leads-step, settled-step}
use Rattle.ch_query.proofs.half.Half.follow.Goals as goal

pub step_cost-requires : goal.step_cost-requires
step_cost-requires c = (c.args.self.now.side, c.requires.step)

pub plus_wide-sum-requires-clause-first : goal.plus_wide-sum-requires-clause-first
plus_wide-sum-requires-clause-first c =
    let few = rank_few c.requires.half.made (foot_in c.requires.half.made c.args.self.now.side c.requires.step.climbs.within) in
    summable-from_walks (subst (λ q. q + 1 ≤ 2 ^ 25) c.requires.foot few) c.requires.fits c.requires.short c.requires.half.bound

pub plus_wide-sum-requires-clause-second : goal.plus_wide-sum-requires-clause-second
plus_wide-sum-requires-clause-second c =
    subst (λ (d : Cost). IsSummable d) (sym c.step_cost.ensures) (link_summable c.requires.half.made c.requires.step.climbs.within)

pub is_improved_by-requires-clause-settled : goal.is_improved_by-requires-clause-settled
is_improved_by-requires-clause-settled c =
    let h = c.args.self.now.hierarchy.now in
    let k : ℕ = slice_index c.args.self.now.steps.now.links.items c.args.place in
    let step : UpwardStep = c.index-step.result.now in
    let is : step ≡ step_along h c.args.self.now.side k = c.index-step.ensures ∙ c.requires.step.along step in
    let head : step.head ≡ head_rank h c.args.self.now.side k = ap (λ (s : UpwardStep). s.head) is in
    let sum : c.plus_wide-sum.result ≡ c.args.from.label.cost ⊕ cost_at h k = c.plus_wide-sum.ensures ∙ ap (λ (d : Cost). c.args.from.label.cost ⊕ d) c.step_cost.ensures in
    settled-step c.args.here.now (leads-step c.requires.step c.requires.foot head sum) c.requires.latest

true_false : {b : Bool} → b ≡ true → b ≡ false → ⊥
true_false first second = cc

pub returns-then-not-counts-clause-followed : goal.returns-then-not-counts-clause-followed
returns-then-not-counts-clause-followed c counted =
    let h = c.args.self.now.hierarchy.now in
    let k : ℕ = slice_index c.args.self.now.steps.now.links.items c.args.place in
    let sum : c.plus_wide-sum.result ≡ c.args.from.label.cost ⊕ cost_at h k = c.plus_wide-sum.ensures ∙ ap (λ (d : Cost). c.args.from.label.cost ⊕ d) c.step_cost.ensures in
    absurd (iff_false c.counts.ensures c.if-not-counts.true (subst (λ (d : Cost). CountsBelow c.args.self.now.bound c.args.limit d) (sym sum) counted))

pub returns-then-not-is_improved_by-clause-followed : goal.returns-then-not-is_improved_by-clause-followed
returns-then-not-is_improved_by-clause-followed c counted =
    let h = c.args.self.now.hierarchy.now in
    let k : ℕ = slice_index c.args.self.now.steps.now.links.items c.args.place in
    let step : UpwardStep = c.index-step.result.now in
    let is : step ≡ step_along h c.args.self.now.side k = c.index-step.ensures ∙ c.requires.step.along step in
    let head : step.head ≡ head_rank h c.args.self.now.side k = ap (λ (s : UpwardStep). s.head) is in
    let sum : c.plus_wide-sum.result ≡ c.args.from.label.cost ⊕ cost_at h k = c.plus_wide-sum.ensures ∙ ap (λ (d : Cost). c.args.from.label.cost ⊕ d) c.step_cost.ensures in
    let never : Improves label_cost c.plus_wide-sum.result (mark c.args.here.now step.head) → ⊥ = λ improves. true_false (c.is_improved_by.ensures.1 improves) c.if-not-is_improved_by.true in
    let above : IsSettledAtMost c.args.here.now step.head c.plus_wide-sum.result = settled-step c.args.here.now (leads-step
    c.requires.step c.requires.foot head sum) c.requires.latest in
    followed-kept h c.args.self.now.side c.args.self.now.bound c.args.from.label.cost c.args.limit c.args.here.now k never above head sum counted

pub returns-clause-opened : goal.returns-clause-opened
returns-clause-opened c =
    let h = c.args.self.now.hierarchy.now in
    let k : ℕ = slice_index c.args.self.now.steps.now.links.items c.args.place in
    let step : UpwardStep = c.index-step.result.now in
    let is : step ≡ step_along h c.args.self.now.side k = c.index-step.ensures ∙ c.requires.step.along step in
    let head : step.head ≡ head_rank h c.args.self.now.side k = ap (λ (s : UpwardStep). s.head) is in
    let side = c.args.self.now.side in
    let marks : List (Mark Label) = c.args.here.now in
    let sum : c.plus_wide-sum.result ≡ c.args.from.label.cost ⊕ cost_at h k = c.plus_wide-sum.ensures ∙ ap (λ (d : Cost). c.args.from.label.cost ⊕ d) c.step_cost.ensures in
    let short : IsNoLonger c.plus_wide-sum.result c.args.self.now.bound = (c.counts.ensures.0 c.if-not-counts.false).short in
    let improves : Improves label_cost c.plus_wide-sum.result (mark marks step.head) = c.is_improved_by.ensures.0 c.if-not-is_improved_by.false in
    let within : step.head < length marks = omega (arith, c.requires.here_nodes, head, rank_below c.requires.half.made (head_in c.requires.half.made side c.requires.step.climbs.within)) in
    let e : Label = record { cost = c.plus_wide-sum.result; foot = c.args.from.rank } in
    let climbs : ClimbsTo h side c.args.self.now.bound c.args.from.rank c.args.from.label.cost step.head e = record {
      over = leads-step c.requires.step c.requires.foot head sum;
      foot = refl;
      short = short;
    } in
    subst (λ (ms : List (Mark Label)). IsOpenedOver h side c.args.self.now.bound c.args.from.rank c.args.from.label.cost marks ms) (sym c.in_ok-open.ensures.opened) (opened-one within improves climbs)

pub returns-clause-followed : goal.returns-clause-followed
returns-clause-followed c =
    let h = c.args.self.now.hierarchy.now in
    let k : ℕ = slice_index c.args.self.now.steps.now.links.items c.args.place in
    let step : UpwardStep = c.index-step.result.now in
    let is : step ≡ step_along h c.args.self.now.side k = c.index-step.ensures ∙ c.requires.step.along step in
    let head : step.head ≡ head_rank h c.args.self.now.side k = ap (λ (s : UpwardStep). s.head) is in
    let side = c.args.self.now.side in
    let marks : List (Mark Label) = c.args.here.now in
    let sum : c.plus_wide-sum.result ≡ c.args.from.label.cost ⊕ cost_at h k = c.plus_wide-sum.ensures ∙ ap (λ (d : Cost). c.args.from.label.cost ⊕ d) c.step_cost.ensures in
    let within : step.head < length marks = omega (arith, c.requires.here_nodes, head, rank_below c.requires.half.made (head_in c.requires.half.made side c.requires.step.climbs.within)) in
    let e : Label = record { cost = c.plus_wide-sum.result; foot = c.args.from.rank } in
    subst (λ (ms : List (Mark Label)). IsFollowed h side c.args.self.now.bound c.args.from.label.cost c.args.limit ms k) (sym c.in_ok-open.ensures.opened) (followed-put h side c.args.self.now.bound c.args.from.label.cost c.args.limit marks k e within head sum)
