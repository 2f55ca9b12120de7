use Rattle.std.proofs.Common.{ℕ, ◌≤◌, List, length, subst, arith}
use Rattle.std.specs.Arc.{arc_value}
use Rattle.domethyme_c.specs.StepLinks.{AreGathered}
use Rattle.domethyme_c.proofs.LinkPlaces.{numbers_of_places}
use Rattle.domethyme_c.proofs.step_links.StepLinks.numbers.Goals as goal

pub returns : goal.returns
returns c =
    let few : length c.args.search.now.links ≤ 68719476736 = omega (arith, c.requires.numbers.count) in
    let gathered : AreGathered c.args.self.now.links.items c.args.numbers.now c.in_ok-steps.steps.items = subst (λ (links : List ℕ). AreGathered links c.args.numbers.now c.in_ok-steps.steps.items) c.as_slice-links.ensures.value c.in_ok-steps.ensures in
    numbers_of_places c.args.search.now (arc_value c.args.self.now.selection) c.args.numbers.now c.args.self.now.links.items c.in_ok-steps.steps.items c.requires.links.selection c.requires.numbers.count (c.requires.links.links few) gathered
