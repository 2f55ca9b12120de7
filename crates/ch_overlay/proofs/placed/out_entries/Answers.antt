use Rattle.std.proofs.Common.{List, map, ap, sym, subst}
use Rattle.std.specs.List.Sorted.{IsPermutation}
use Rattle.ch_overlay.specs.declared.placed.Placed.{Placed}
use Rattle.ch_overlay.specs.Placing.{IsInOrder, out_place}
use Rattle.ch_overlay.proofs.EntriesByNode.{in_order, places_differ}
use Rattle.ch_overlay.proofs.placed.out_entries.Goals as goal

pub returns-clause-all : goal.returns-clause-all
returns-clause-all c = subst (λ (es : List Placed). IsPermutation (map (out_place c.args.middle) c.args.shortcuts.now) es) (sym (ap (λ v. v.items) c.in_ok-placed.ensures)) (subst (λ xs. IsPermutation xs c.sorted.result.items) c.in_ok-entries.ensures c.sorted.ensures.all)

pub returns-clause-order : goal.returns-clause-order
returns-clause-order c =
    subst (λ (es : List Placed). IsInOrder es) (sym (ap (λ v. v.items) c.in_ok-placed.ensures))
    (in_order (map (out_place c.args.middle) c.args.shortcuts.now) c.sorted.result.items
    (places_differ (out_place c.args.middle) (λ p q same. (ap (λ e. e.0) same, ap (λ e. e.1) same)) c.args.shortcuts.now c.requires)
    (subst (λ xs. IsPermutation xs c.sorted.result.items) c.in_ok-entries.ensures c.sorted.ensures.all)
    c.sorted.ensures.sorted)
