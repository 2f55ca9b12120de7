use Rattle.std.proofs.Common.{List, Option, Some, sym, subst, ◌∙◌}
use Rattle.ch_witness.specs.declared.label.Label.{Label}
use Rattle.ch_witness.specs.declared.step.TreeNode.{TreeNode}
use Rattle.ch_witness.specs.Ways.{IsWay, IsWayOf}
use Rattle.ch_witness.specs.Tree.{seen_of}
use Rattle.ch_witness.proofs.searcher.known_way.Goals as goal

pub way_to-requires-clause-apart : goal.way_to-requires-clause-apart
way_to-requires-clause-apart c = (c.requires.tree.reached c.args.target c.in-Some.label (sym c.label.ensures ∙ c.in-Some.is)).apart

pub returns : goal.returns
returns c = subst (λ (o : Option Label). IsWayOf (seen_of c.args.tree.now.steps.items) c.args.rule.avoid c.args.rule.from c.args.target o
    (Some c.in_ok-way_to.field-0)) (sym (sym c.label.ensures ∙ c.in-Some.is)) (
      c.in_ok-way_to.ensures.costs,
      subst (λ (ss : List TreeNode). IsWay
          (seen_of ss) c.args.rule.avoid c.args.rule.from c.args.target c.in_ok-way_to.field-0) c.deref.ensures.value c.in_ok-way_to.ensures.leads,
    )
