use Rattle.std.proofs.Common.{◌∙◌, Option, sym, subst}
use Rattle.crossbeam_queue.specs.Fifo.{Forks}
use Rattle.ch_graph.specs.Hierarchy.{Hierarchy}
use Rattle.domethyme_c.specs.Engines.{AreOfOne}
use Rattle.domethyme_c.proofs.Handles.{forks}
use Rattle.domethyme_c.proofs.sharing.Sharing.beside.Goals as goal

pub another-pass-requires-clause-rule : goal.another-pass-requires-clause-rule
another-pass-requires-clause-rule c =
    subst (λ (v : Option Hierarchy). Forks AreOfOne c.self.inside.pass.id v v v) (sym (c.self.view_is ∙ c.requires)) (forks c.self.inside.pass.id c.args.router.now)
