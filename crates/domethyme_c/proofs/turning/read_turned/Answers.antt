use Rattle.std.proofs.Common.{subst, sym, ◌∙◌}
use Rattle.ch_graph.specs.Hierarchy.{Hierarchy}
use Rattle.ch_turned.specs.Turned.{IsTurned}
use Rattle.domethyme_c.proofs.turning.read_turned.Goals as goal

pub returns-clause-ok : goal.returns-clause-ok
returns-clause-ok c = record {
  hierarchy = c.in_ok-hierarchy.hierarchy;
  made = c.in_ok-hierarchy.ensures.made;
  spelled = c.in_ok-hierarchy.ensures.ok;
  turned = subst (λ (t : Hierarchy). IsTurned c.in_ok-hierarchy.hierarchy t) (sym (c.in_ok-held.ensures ∙ c.in_ok-engine.ensures.same)) c.in_ok-turned.ensures;
}
