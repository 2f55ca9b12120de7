-- The numbers of steps by the places of their links.
use Rattle.std.proofs.Common.{ℕ, ◌≡◌, ◌^◌, ◌<◌, ◌≤◌, ◌∙◌, List, length, slice_index, ap, sym, subst, arith}
use Rattle.std.specs.List.{range_with_len}
use Rattle.std.proofs.lemmas.List.FromFn.{length-range_with_len, get_or-range_with_len}
use Rattle.ch_graph.specs.Hierarchy.{Hierarchy}
use Rattle.ch_query.specs.Sums.{HaveNumbers}
use Rattle.ch_table.specs.Selection.{IsSelection, Selection}
use Rattle.ch_table.specs.Sums.{AreStepNumbers}
use Rattle.domethyme_c.specs.StepLinks.{AreGathered}

pub places_are_numbers : (h : Hierarchy) (places : List ℕ) → places ≡ range_with_len 0 (length h.links) → length h.links ≤ 2 ^ 36 → HaveNumbers h places
places_are_numbers h places are few = subst (HaveNumbers h) (sym are) (record {
  count = length-range_with_len 0 (length h.links);
  small = λ k d low.
      let within : k < length h.links = omega (arith, low, length-range_with_len 0 (length h.links)) in
      omega (arith, get_or-range_with_len 0 (length h.links) k d within, within, few);
})

pub numbers_of_places : (h : Hierarchy) (s : Selection) (numbers links steps : List ℕ) → IsSelection h s → length numbers ≡ length h.links → AreStepNumbers h (range_with_len 0 (length h.links)) s links → AreGathered links numbers steps
    → AreStepNumbers h numbers s steps
numbers_of_places h s numbers links steps selection count are gathered = record {
  count = gathered.count ∙ are.count;
  each = λ p at k p_in from before leads.
      let within : k < length h.links = leads.climbs.within in
      let own = are.each p at k p_in from before leads in
      let place : slice_index links at ≡ k = omega (arith, own, get_or-range_with_len 0 (length h.links) k 0 within) in
      let at_in : at < length links = omega (arith, before, (selection.laid p p_in).within, are.count) in
      gathered.each at at_in (omega (arith, place, within, count)) ∙ ap (slice_index numbers) place;
}
