use Rattle.std.proofs.Common.{◌≡◌, Option, Some, sym, subst}
use Rattle.crossbeam_queue.specs.Fifo.{Pushes}
use Rattle.crossbeam_queue.specs.Passes.{ruled_capacity}
use Rattle.ch_graph.specs.Hierarchy.{Hierarchy}
use Rattle.domethyme_c.specs.Engines.{AreOfOne}
use Rattle.domethyme_c.proofs.Handles.{names}
use Rattle.domethyme_c.proofs.sharing.Sharing.new.Goals as goal

pub try_push_as-requires-clause-rule : goal.try_push_as-requires-clause-rule
try_push_as-requires-clause-rule c =
    let n = ruled_capacity c.in_ok-shelf.shelf in
    let pass = c.in_ok-shelf.pass.id in
    let own : Hierarchy = c.of.result.value in
    subst (λ (v : Option Hierarchy). Pushes AreOfOne n pass v own (λ (w : Option Hierarchy). w ≡ Some own)) (sym c.in_ok-shelf.ensures.3) (names n pass own)
