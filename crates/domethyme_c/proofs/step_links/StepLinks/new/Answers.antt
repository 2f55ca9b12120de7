use Rattle.std.proofs.Common.{◌≡◌, ◌≤◌, ◌∙◌, length, ap, arith}
use Rattle.std.specs.List.{range_with_len}
use Rattle.domethyme_c.proofs.LinkPlaces.{places_are_numbers}
use Rattle.domethyme_c.proofs.step_links.StepLinks.new.Goals as goal

pub step_numbers-requires-clause-numbers : goal.step_numbers-requires-clause-numbers
step_numbers-requires-clause-numbers c =
    let few : length c.args.search.now.links ≤ 68719476736 = omega (arith, c.link_count-count.ensures) in
    let are : c.as_slice.result.now ≡ range_with_len 0 (length c.args.search.now.links) = c.as_slice.ensures.value ∙ (c.in_ok-places.ensures ∙ ap (range_with_len 0) c.link_count-count.ensures) in
    places_are_numbers c.args.search.now c.as_slice.result.now are few
