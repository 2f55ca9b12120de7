use Rattle.std.proofs.Common.{◌≡◌, ◌∙◌, Option, Some, sym, subst}
use Rattle.crossbeam_queue.specs.Fifo.{Pops, Pushes}
use Rattle.crossbeam_queue.specs.Passes.{ruled_capacity, view}
use Rattle.ch_graph.specs.Hierarchy.{Hierarchy}
use Rattle.domethyme_c.specs.Engines.{AreOfOne}
use Rattle.domethyme_c.proofs.Handles.{puts, takes, stays}
use Rattle.domethyme_c.proofs.sharing.Sharing.replace.Goals as goal

pub try_pop_as-requires-clause-rule : goal.try_pop_as-requires-clause-rule
try_pop_as-requires-clause-rule c =
    let pass = c.self.inside.pass.id in
    subst (λ (v : Option Hierarchy). Pops AreOfOne pass v (λ (x : Hierarchy) (w : Option Hierarchy). (w ≡ v) × (v ≡ Some x))) (sym (c.self.view_is ∙ c.requires.known)) (takes pass c.args.router.now)

pub try_push_as-requires-clause-rule : goal.try_push_as-requires-clause-rule
try_push_as-requires-clause-rule c =
    let n = ruled_capacity c.deref-2.result.now in
    let pass = c.try_pop_as.new.pass.id in
    let own : Hierarchy = c.args.shared in
    let known : view c.try_pop_as.new.pass ≡ Some c.args.router.now = stays (λ (x : Hierarchy). view c.self.inside.pass ≡ Some x) c.try_pop_as.result c.try_pop_as.ensures.rule ∙ (c.self.view_is ∙ c.requires.known) in
    subst (λ (v : Option Hierarchy). Pushes AreOfOne n pass v own (λ (w : Option Hierarchy). w ≡ v)) (sym known) (puts pass c.args.router.now n own c.requires.same)
