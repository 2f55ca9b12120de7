use Rattle.std.proofs.Common.{sym, subst, arith}
use Rattle.std.proofs.lemmas.Result.{err_from_is_err_and}
use Rattle.ch_cost.specs.declared.cost.Cost.{Cost}
use Rattle.ch_cost.specs.Cost.{◌≼◌}
use Rattle.ch_witness.specs.Kept.{kept_of, finds_unless, IsKept}
use Rattle.ch_witness.specs.Tree.{labels_of}
use Rattle.ch_witness.proofs.KeptAnswers.{kept_still, more_refl, more_trans}
use Rattle.ch_witness.proofs.GrowingTree.{tree_settled, tree_same, settled_new, all_settled, later_start, later_more, later_settled, later_same, seen_gone}
use Rattle.ch_witness.proofs.tree.Tree.grow.Goals as goal

pub turns-init : goal.turns-init
turns-init g c = record {
  tree = c.requires.tree;
  few = omega arith;
  later = later_start c.args.self.now.steps.items (labels_of c.args.self.now.frontier);
  read = record { kept = c.requires.kept; more = more_refl (kept_of c.args.rows.now); stays = g.met.S.RowSource.stays_self c.args.source.now };
  kept_rows = λ h. h;
  names = λ h k. h;
  whole = λ h k. k;
}

pub expand-requires-clause-tree : goal.expand-requires-clause-tree
expand-requires-clause-tree g c = tree_settled c.turns.self.steps.items (labels_of c.turns.self.frontier) (labels_of c.settle_next.new.self) c.in-Some.reached c.in-Some.ensures.settled c.turns.invariant.tree

pub expand-requires-clause-new : goal.expand-requires-clause-new
expand-requires-clause-new g c = settled_new c.turns.self.steps.items (labels_of c.turns.self.frontier) (labels_of c.settle_next.new.self) c.in-Some.reached c.in-Some.ensures.settled c.turns.invariant.tree

pub expand-requires-clause-few : goal.expand-requires-clause-few
expand-requires-clause-few g c = omega (arith, c.turns.invariant.few, c.requires.few, c.turns-test.true)

pub expand-requires-clause-cutoff : goal.expand-requires-clause-cutoff
expand-requires-clause-cutoff g c = subst (λ (b : Cost). c.args.rule.cutoff ≼ b) (sym (g.met.S.RowSource.same_bound c.args.source.now c.turns.source c.turns.invariant.read.stays)) c.requires.cutoff

pub expand-requires-clause-kept : goal.expand-requires-clause-kept
expand-requires-clause-kept g c = c.turns.invariant.read.kept

pub returns-in_err-expand-clause-read : goal.returns-in_err-expand-clause-read
returns-in_err-expand-clause-read g c =
    let inv = c.turns.invariant.read in
    let step = c.in_err-expand.ensures.read in
    record {
      kept = step.kept;
      more = more_trans _ _ _ inv.more step.more;
      stays = g.met.S.RowSource.stays_more c.args.source.now c.turns.source c.expand.new.source inv.stays step.stays;
    }

pub returns-in_err-expand-clause-found : goal.returns-in_err-expand-clause-found
returns-in_err-expand-clause-found g c = λ named all.
    let inv = c.turns.invariant in
    let p = err_from_is_err_and c.from_residual.result c.from_residual.ensures.1 in
    let same = p.2 in
    let other = c.in_err-expand.ensures.found (inv.names named all) (all_settled (g.S.RowSource.whole c.turns.source) c.in-Some.ensures.settled (inv.whole named all)) in
    finds_unless _ _ _ _ _ p.1 (λ unseen. other (cc (same, unseen)))

pub turns-preserved : goal.turns-preserved
turns-preserved g c =
    let now = c.in-Some.ensures.settled in
    let inv = c.turns.invariant in
    let gone = c.in_ok-expand.ensures.gone in
    record {
      tree = c.in_ok-expand.ensures.tree;
      few = omega (arith, c.in_ok-expand.ensures.few, c.turns.invariant.few);
      later = later_more (later_more inv.later (later_settled c.turns.self.steps.items _ _ c.in-Some.reached now)) c.in_ok-expand.ensures.later;
      read = record {
        kept = c.in_ok-expand.ensures.read.kept;
        more = more_trans _ _ _ inv.read.more c.in_ok-expand.ensures.read.more;
        stays = g.met.S.RowSource.stays_more c.args.source.now c.turns.source c.expand.new.source inv.read.stays c.in_ok-expand.ensures.read.stays;
      };
      kept_rows = λ h. seen_gone (IsKept (kept_of c.expand.new.rows)) gone.1 (λ k s is. kept_still (kept_of c.turns.rows) (kept_of c.expand.new.rows) s.seen.value c.in_ok-expand.ensures.read.more (inv.kept_rows h k s is)) gone.2;
      names = λ h k. c.in_ok-expand.ensures.found (inv.names h k) (all_settled (g.S.RowSource.whole c.turns.source) now (inv.whole h k));
      whole = λ h k. c.in_ok-expand.ensures.whole (inv.names h k) (all_settled (g.S.RowSource.whole c.turns.source) now (inv.whole h k));
    }

pub returns-after-turns-clause-tree : goal.returns-after-turns-clause-tree
returns-after-turns-clause-tree g c = c.turns.invariant.tree

pub returns-after-turns-clause-later : goal.returns-after-turns-clause-later
returns-after-turns-clause-later g c = c.turns.invariant.later

pub returns-after-turns-clause-kept_rows : goal.returns-after-turns-clause-kept_rows
returns-after-turns-clause-kept_rows g c = c.turns.invariant.kept_rows

pub returns-after-turns-clause-read : goal.returns-after-turns-clause-read
returns-after-turns-clause-read g c = c.turns.invariant.read

pub returns-after-turns-clause-found : goal.returns-after-turns-clause-found
returns-after-turns-clause-found g c = c.turns.invariant.names

pub returns-in_default-clause-tree : goal.returns-in_default-clause-tree
returns-in_default-clause-tree g c = tree_same c.turns.self.steps.items (labels_of c.turns.self.frontier) (labels_of c.settle_next.new.self) c.in_default.ensures.stays c.turns.invariant.tree

pub returns-in_default-clause-later : goal.returns-in_default-clause-later
returns-in_default-clause-later g c = later_more c.turns.invariant.later (later_same c.turns.self.steps.items _ _ c.in_default.ensures.stays)

pub returns-in_default-clause-kept_rows : goal.returns-in_default-clause-kept_rows
returns-in_default-clause-kept_rows g c = c.turns.invariant.kept_rows

pub returns-in_default-clause-read : goal.returns-in_default-clause-read
returns-in_default-clause-read g c = c.turns.invariant.read

pub returns-in_default-clause-found : goal.returns-in_default-clause-found
returns-in_default-clause-found g c = c.turns.invariant.names

pub returns-then-done-targets-clause-tree : goal.returns-then-done-targets-clause-tree
returns-then-done-targets-clause-tree g c = tree_settled c.turns.self.steps.items (labels_of c.turns.self.frontier) (labels_of c.settle_next.new.self) c.in-Some.reached c.in-Some.ensures.settled c.turns.invariant.tree

pub returns-then-done-targets-clause-later : goal.returns-then-done-targets-clause-later
returns-then-done-targets-clause-later g c = later_more c.turns.invariant.later (later_settled c.turns.self.steps.items _ _ c.in-Some.reached c.in-Some.ensures.settled)

pub returns-then-done-targets-clause-kept_rows : goal.returns-then-done-targets-clause-kept_rows
returns-then-done-targets-clause-kept_rows g c = c.turns.invariant.kept_rows

pub returns-then-done-targets-clause-read : goal.returns-then-done-targets-clause-read
returns-then-done-targets-clause-read g c = c.turns.invariant.read

pub returns-then-done-targets-clause-found : goal.returns-then-done-targets-clause-found
returns-then-done-targets-clause-found g c = c.turns.invariant.names
