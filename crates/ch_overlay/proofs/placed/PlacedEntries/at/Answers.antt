use Rattle.std.proofs.Common.{rules, ◌≡◌, ◌↔◌, ℕ, ◌-◌, List, Contains, take, drop, map, slice_range, sym, ◌∙◌, ap, subst}
use Rattle.std.proofs.lemmas.List.{drop-map, take-map}
use Rattle.ch_laws.specs.declared.entry.Entry.{Entry}
use Rattle.ch_overlay.specs.declared.placed.Placed.{Placed}
use Rattle.ch_overlay.specs.Placing.{IsInOrder}
use Rattle.ch_overlay.proofs.EntriesByNode.{first_before_end, group_rises, group_all}
use Rattle.ch_overlay.proofs.placed.PlacedEntries.at.Goals as goal

in_order : {xs ys : List Placed} → xs ≡ ys → IsInOrder ys → IsInOrder xs
in_order same order = subst (λ (es : List Placed). IsInOrder es) (sym same) order

-- a part of the entries is that of the placed ones
part_is : {es fs : List Entry} {xs ys : List Placed} (first end : ℕ) → es ≡ fs → fs ≡ map (λ (p : Placed). p.entry) ys → xs ≡ ys → slice_range es first end ≡ map (λ (p : Placed). p.entry) (slice_range xs first end)
part_is {es} {fs} {xs} {ys} first end here same placed =
    let entry : Placed → Entry = λ p. p.entry in
    let count = end - first in
    ap (λ (es : List Entry). take count (drop first es)) (here ∙ same ∙ ap (map entry) (sym placed))
    ∙ ap (take count) (drop-map entry first xs)
    ∙ take-map entry count (drop first xs)

pub slice_bounds-result-count : goal.slice_bounds-result-count
slice_bounds-result-count c =
    first_before_end c.as_slice-placed.result.now
    (in_order c.as_slice-placed.ensures.value c.requires) c.args.node c.count_before-first.result c.count_up_to-end.result c.count_before-first.ensures.bound c.count_up_to-end.ensures.bound c.count_before-first.ensures.parted c.count_up_to-end.ensures.parted

pub slice_bounds-result-start : goal.slice_bounds-result-start
slice_bounds-result-start c =
    let fits = first_before_end c.as_slice-placed.result.now
    (in_order c.as_slice-placed.ensures.value c.requires) c.args.node c.count_before-first.result c.count_up_to-end.result c.count_before-first.ensures.bound c.count_up_to-end.ensures.bound c.count_before-first.ensures.parted c.count_up_to-end.ensures.parted in
    search (rules, fits)

pub returns-clause-rises : goal.returns-clause-rises
returns-clause-rises c =
    group_rises c.as_slice-placed.result.now
    (in_order c.as_slice-placed.ensures.value c.requires) c.args.node c.count_before-first.result c.count_up_to-end.result c.count_before-first.ensures.bound c.count_up_to-end.ensures.bound c.count_before-first.ensures.parted c.count_up_to-end.ensures.parted _
    (part_is _ _ c.deref.ensures.value c.args.self.now.same c.as_slice-placed.ensures.value)

pub returns-clause-all : goal.returns-clause-all
returns-clause-all c e =
    subst (λ (es : List Placed). Contains (slice_range c.deref.result.now c.count_before-first.result c.count_up_to-end.result) e ↔ Contains es (record { at = c.args.node; entry = e })) c.as_slice-placed.ensures.value
    (group_all c.as_slice-placed.result.now (in_order c.as_slice-placed.ensures.value c.requires) c.args.node c.count_before-first.result c.count_up_to-end.result c.count_before-first.ensures.bound c.count_up_to-end.ensures.bound c.count_before-first.ensures.parted c.count_up_to-end.ensures.parted _
    (part_is _ _ c.deref.ensures.value c.args.self.now.same c.as_slice-placed.ensures.value) e)
