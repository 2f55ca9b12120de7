use Rattle.std.proofs.Common.{◌≡◌, ◌∙◌, Option, Some, sym, subst}
use Rattle.crossbeam_queue.specs.Fifo.{Pops, Pushes}
use Rattle.crossbeam_queue.specs.Passes.{ruled_capacity, view}
use Rattle.ch_graph.specs.Hierarchy.{Hierarchy}
use Rattle.domethyme_c.specs.Engines.{AreOfOne}
use Rattle.domethyme_c.proofs.Handles.{puts, takes, same}
use Rattle.domethyme_c.proofs.sharing.Sharing.find.Goals as goal

pub try_pop_as-requires-clause-rule : goal.try_pop_as-requires-clause-rule
try_pop_as-requires-clause-rule c =
    let pass = c.tries.self-inside.pass.id in
    subst (λ (v : Option Hierarchy). Pops AreOfOne pass v (λ (x : Hierarchy) (w : Option Hierarchy). (w ≡ v) × (v ≡ Some x))) (sym (c.tries.invariant.same ∙ c.requires)) (takes pass c.args.router.now)

pub try_push_as-requires-clause-rule : goal.try_push_as-requires-clause-rule
try_push_as-requires-clause-rule c =
    let n = ruled_capacity c.deref-in-Some.result.now in
    let pass = c.try_pop_as.new.pass.id in
    let own : Hierarchy = c.in-Some.shared in
    let known : view c.try_pop_as.new.pass ≡ Some c.args.router.now = c.in-Some.ensures.rule.0 ∙ (c.tries.invariant.same ∙ c.requires) in
    let is : c.in-Some.shared ≡ c.args.router.now = same c.in-Some.shared c.args.router.now (sym c.in-Some.ensures.rule.1 ∙ (c.tries.invariant.same ∙ c.requires)) in
    subst (λ (v : Option Hierarchy). Pushes AreOfOne n pass v own (λ (w : Option Hierarchy). w ≡ v)) (sym known) (puts pass c.args.router.now n own is)
