use Rattle.std.proofs.Common.{rules, arith}
use Rattle.std.proofs.lemmas.List.Sorted.{answers_always}
use Rattle.ch_graph.specs.declared.road.Road.{Road}
use Rattle.ch_overlay.specs.Opening.{ComesNoLater}
use Rattle.ch_overlay.proofs.SortedByKeys.{pairs-from_adjacent, no_later, no_later_trans}
use Rattle.ch_overlay.proofs.least.sorted_arcs.Goals as goal

pub returns-clause-sorted : goal.returns-clause-sorted
returns-clause-sorted c =
    let up = c.sort_unstable_by_key.ensures.sorted (λ (r : Road). (r.from, r.to, r.weight)) (answers_always _ _ _ (λ f a r g called. search rules)) in
    pairs-from_adjacent ComesNoLater c.sort_unstable_by_key.new.self.items no_later_trans (λ k d h. no_later _ _ (up k d (omega arith) h))
