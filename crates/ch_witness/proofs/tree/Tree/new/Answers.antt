use Rattle.std.proofs.Common.{List, None, refl, sym, subst, ap, ◌∙◌}
use Rattle.ch_cost.specs.declared.cost.Cost.{Cost}
use Rattle.ch_cost.specs.Cost.{◌≼◌}
use Rattle.ch_cost.specs.Cost.Laws.{ZERO-is}
use Rattle.ch_witness.specs.declared.step.TreeNode.{TreeNode}
use Rattle.ch_witness.specs.Kept.{kept_of, IsKept}
use Rattle.ch_witness.proofs.KeptAnswers.{kept_still, more_trans}
use Rattle.ch_witness.specs.Tree.{labels_of, IsTree, IsGoneOn, IsLater}
use Rattle.ch_witness.proofs.OfferedLabels.{begun}
use Rattle.ch_witness.proofs.GrowingTree.{all_start, tree_start, start_seen, seen_gone, seen_none}
use Rattle.ch_witness.proofs.tree.Tree.new.Goals as goal

pub returns-then-are_all-clause-tree : goal.returns-then-are_all-clause-tree
returns-then-are_all-clause-tree g c = subst (λ (ss : List TreeNode). IsTree c.args.rule ss (labels_of c.start.new.self)) (sym c.in_ok-steps.ensures) (tree_start c.args.rule c.in_ok-start.ensures c.requires.start)

pub expand-requires-clause-tree : goal.expand-requires-clause-tree
expand-requires-clause-tree g c = subst (λ (ss : List TreeNode). IsTree c.args.rule ss (labels_of c.start.new.self)) (sym c.in_ok-steps.ensures) (tree_start c.args.rule c.in_ok-start.ensures c.requires.start)

pub expand-requires-clause-label : goal.expand-requires-clause-label
expand-requires-clause-label g c = c.in_ok-start.ensures.here ∙ ap begun (sym ZERO-is)

pub grow-requires-clause-cutoff : goal.grow-requires-clause-cutoff
grow-requires-clause-cutoff g c = subst (λ (b : Cost). c.args.rule.cutoff ≼ b) (sym (g.met.S.RowSource.same_bound c.args.source.now c.expand.new.source c.in_ok-expand.ensures.read.stays)) c.requires.cutoff

pub returns-clause-kept_rows : goal.returns-clause-kept_rows
returns-clause-kept_rows g c =
    let gone = c.in_ok-expand.ensures.gone in
    c.in_ok-grow.ensures.kept_rows (seen_gone (IsKept (kept_of c.expand.new.rows)) gone.1 (seen_none (IsKept (kept_of c.expand.new.rows)) c.in_ok-steps.steps.items c.in_ok-steps.ensures) gone.2)

pub returns-clause-start : goal.returns-clause-start
returns-clause-start g c = λ k h other.
    let gone = c.in_ok-expand.ensures.gone in (
      gone.0,
      kept_still (kept_of c.expand.new.rows) (kept_of c.grow.new.rows) gone.0 c.in_ok-grow.ensures.read.more gone.1,
      start_seen ZERO-is _ (labels_of c.start.new.self) _ _ c.in_ok-start.ensures
          (subst (λ (ss : List TreeNode). IsLater ss c.expand.new.self.steps.items (labels_of c.start.new.self)
          (labels_of c.expand.new.self.frontier)) c.in_ok-steps.ensures c.in_ok-expand.ensures.later)
          (subst (λ (ss : List TreeNode). IsGoneOn c.args.rule
          (record { node = c.args.rule.from; cost = record { weight = 0; arcs = 0 }; before = None }) gone.0 ss c.expand.new.self.steps.items
          (labels_of c.start.new.self) (labels_of c.expand.new.self.frontier)) c.in_ok-steps.ensures gone.2) c.in_ok-grow.ensures.later,
    )

pub returns-clause-read : goal.returns-clause-read
returns-clause-read g c = record {
  kept = c.in_ok-grow.ensures.read.kept;
  more = more_trans _ _ _ c.in_ok-expand.ensures.read.more c.in_ok-grow.ensures.read.more;
  stays = g.met.S.RowSource.stays_more c.args.source.now c.expand.new.source c.grow.new.source c.in_ok-expand.ensures.read.stays c.in_ok-grow.ensures.read.stays;
}

pub returns-clause-found : goal.returns-clause-found
returns-clause-found g c = λ named whole.
    let all = all_start (g.S.RowSource.whole c.args.source.now) c.in_ok-start.ensures whole in
    c.in_ok-grow.ensures.found (c.in_ok-expand.ensures.found named all) (c.in_ok-expand.ensures.whole named all)

pub returns-then-are_all-clause-start : goal.returns-then-are_all-clause-start
returns-then-are_all-clause-start g c = λ k h other. absurd (other (c.if-are_all.ensures refl k h))

pub returns-in_err-grow-clause-read : goal.returns-in_err-grow-clause-read
returns-in_err-grow-clause-read g c = record {
  kept = c.in_err-grow.ensures.read.kept;
  more = more_trans _ _ _ c.in_ok-expand.ensures.read.more c.in_err-grow.ensures.read.more;
  stays = g.met.S.RowSource.stays_more c.args.source.now c.expand.new.source c.grow.new.source c.in_ok-expand.ensures.read.stays c.in_err-grow.ensures.read.stays;
}
