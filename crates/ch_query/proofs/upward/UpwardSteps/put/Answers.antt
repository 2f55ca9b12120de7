use Rattle.std.proofs.Common.{ℕ, ◌≡◌, ◌+◌, ◌-◌, ◌<◌, ◌∙◌, List, set, length, slice_index, ap, sym, subst, arith}
use Rattle.ch_graph.specs.declared.link.Link.{Link}
use Rattle.ch_graph.specs.Hierarchy.{rank_of}
use Rattle.ch_query.specs.declared.upward.UpwardStep.{UpwardStep}
use Rattle.ch_query.specs.Climb.{foot_of, foot_rank}
use Rattle.ch_query.specs.Counting.{IsFilled}
use Rattle.ch_query.proofs.LaidLinks.{foot_room, one_before, place-left, here_in, here_few, filled-more, as_many}
use Rattle.ch_query.proofs.upward.UpwardSteps.put.Goals as goal

pub get-place-requires : goal.get-place-requires
get-place-requires c =
    let h = c.args.hierarchy.now in
    let side = c.args.side in
    let self = c.args.self.now in
    let f : ℕ = c.rank-foot.result in
    let foot : foot_rank h side c.args.at ≡ f = sym (c.rank-foot.ensures ∙ ap (rank_of h) (c.foot.ensures ∙ ap (λ (l : Link). foot_of side l) c.link_at.ensures)) in
    let low : f < length self.first.items = foot_room c.requires.made c.requires.climbs foot c.requires.filled in
    low

pub overflow_sub-place : goal.overflow_sub-place
overflow_sub-place c =
    let h = c.args.hierarchy.now in
    let side = c.args.side in
    let self = c.args.self.now in
    let f : ℕ = c.rank-foot.result in
    let foot : foot_rank h side c.args.at ≡ f = sym (c.rank-foot.ensures ∙ ap (rank_of h) (c.foot.ensures ∙ ap (λ (l : Link). foot_of side l) c.link_at.ensures)) in
    let low : f < length self.first.items = foot_room c.requires.made c.requires.climbs foot c.requires.filled in
    omega (arith, c.get-place.ensures, place-left c.requires.climbs foot low c.requires.filled)

pub set-requires-clause-index_in : goal.set-requires-clause-index_in
set-requires-clause-index_in c =
    let h = c.args.hierarchy.now in
    let side = c.args.side in
    let self = c.args.self.now in
    let f : ℕ = c.rank-foot.result in
    let foot : foot_rank h side c.args.at ≡ f = sym (c.rank-foot.ensures ∙ ap (rank_of h) (c.foot.ensures ∙ ap (λ (l : Link). foot_of side l) c.link_at.ensures)) in
    let low : f < length self.first.items = foot_room c.requires.made c.requires.climbs foot c.requires.filled in
    low

pub set-requires-clause-fits : goal.set-requires-clause-fits
set-requires-clause-fits c =
    let h = c.args.hierarchy.now in
    let side = c.args.side in
    let self = c.args.self.now in
    let f : ℕ = c.rank-foot.result in
    let foot : foot_rank h side c.args.at ≡ f = sym (c.rank-foot.ensures ∙ ap (rank_of h) (c.foot.ensures ∙ ap (λ (l : Link). foot_of side l) c.link_at.ensures)) in
    let low : f < length self.first.items = foot_room c.requires.made c.requires.climbs foot c.requires.filled in
    let place : ℕ = c.get-place.result - 1 in
    let before : place + 1 ≡ slice_index self.first.items f = one_before c.requires.climbs foot low c.requires.filled c.get-place.ensures in
    omega (arith, c.requires.room.first_room, here_few c.requires.made place c.requires.climbs foot low c.requires.filled before)

pub set-requires-2-clause-index_in : goal.set-requires-2-clause-index_in
set-requires-2-clause-index_in c =
    let h = c.args.hierarchy.now in
    let side = c.args.side in
    let self = c.args.self.now in
    let f : ℕ = c.rank-foot.result in
    let foot : foot_rank h side c.args.at ≡ f = sym (c.rank-foot.ensures ∙ ap (rank_of h) (c.foot.ensures ∙ ap (λ (l : Link). foot_of side l) c.link_at.ensures)) in
    let low : f < length self.first.items = foot_room c.requires.made c.requires.climbs foot c.requires.filled in
    let place : ℕ = c.get-place.result - 1 in
    let before : place + 1 ≡ slice_index self.first.items f = one_before c.requires.climbs foot low c.requires.filled c.get-place.ensures in
    here_in c.requires.made place c.requires.climbs foot low c.requires.filled before

pub set-requires-2-clause-fits : goal.set-requires-2-clause-fits
set-requires-2-clause-fits c = omega (arith, c.requires.room.links_room, c.requires.climbs.within)

pub index_mut-requires : goal.index_mut-requires
index_mut-requires c =
    let h = c.args.hierarchy.now in
    let side = c.args.side in
    let self = c.args.self.now in
    let f : ℕ = c.rank-foot.result in
    let foot : foot_rank h side c.args.at ≡ f = sym (c.rank-foot.ensures ∙ ap (rank_of h) (c.foot.ensures ∙ ap (λ (l : Link). foot_of side l) c.link_at.ensures)) in
    let low : f < length self.first.items = foot_room c.requires.made c.requires.climbs foot c.requires.filled in
    let place : ℕ = c.get-place.result - 1 in
    let before : place + 1 ≡ slice_index self.first.items f = one_before c.requires.climbs foot low c.requires.filled c.get-place.ensures in
    let within : place < length self.links.items = here_in c.requires.made place c.requires.climbs foot low c.requires.filled before in
    omega (arith, within, self.steps.ok, as_many h side self.links.items c.requires.filled.along)

pub returns-clause-filled : goal.returns-clause-filled
returns-clause-filled c =
    let h = c.args.hierarchy.now in
    let side = c.args.side in
    let self = c.args.self.now in
    let f : ℕ = c.rank-foot.result in
    let foot : foot_rank h side c.args.at ≡ f = sym (c.rank-foot.ensures ∙ ap (rank_of h) (c.foot.ensures ∙ ap (λ (l : Link). foot_of side l) c.link_at.ensures)) in
    let low : f < length self.first.items = foot_room c.requires.made c.requires.climbs foot c.requires.filled in
    let place : ℕ = c.get-place.result - 1 in
    let before : place + 1 ≡ slice_index self.first.items f = one_before c.requires.climbs foot low c.requires.filled c.get-place.ensures in
    subst (λ (fs : List ℕ). IsFilled h side (c.args.at + 1) fs c.set-2.new.self.items (set self.steps.items place c.step_along-step.result)) (sym c.set.ensures.items)
    (subst (λ (ls : List ℕ). IsFilled h side (c.args.at + 1) (set self.first.items f place) ls (set self.steps.items place c.step_along-step.result)) (sym c.set-2.ensures.items)
    (subst (λ (s : UpwardStep). IsFilled h side (c.args.at + 1) (set self.first.items f place) (set self.links.items place c.args.at) (set self.steps.items place s)) (sym c.step_along-step.ensures)
    (filled-more c.requires.made place c.requires.climbs foot low c.requires.filled before)))
