use Rattle.std.proofs.Common.{ℕ, ◌≡◌, ◌<◌, List, length, Option, None, Some, slice_index_or, refl, sym, inl, subst, ap, ◌∙◌, arith}
use Rattle.std.proofs.lemmas.Grind.{common_steps}
use Rattle.ch_cost.specs.declared.cost.Cost.{Cost}
use Rattle.ch_cost.specs.Cost.{IsInLimit, IsOfWalks}
use Rattle.ch_laws.specs.declared.entry.Entry.{Entry}
use Rattle.ch_laws.specs.Rows.{Row, Lists}
use Rattle.ch_overlay.specs.declared.source.Seen.{Seen}
use Rattle.ch_overlay.specs.Source.{row_in}
use Rattle.ch_witness.specs.declared.step.TreeNode.{TreeNode}
use Rattle.ch_witness.specs.Frontier.{AreFollowed}
use Rattle.ch_witness.specs.Kept.{kept_of, read_there, IsAnswer, IsKept}
use Rattle.ch_witness.specs.Tree.{labels_of, IsTree, IsLater}
use Rattle.ch_witness.proofs.KeptAnswers.{none_there}
use Rattle.ch_witness.proofs.GrowingTree.{tree_grown, step_later, names_kept}
use Rattle.ch_witness.proofs.SummableCosts.{reached_fits, entries_fit, entries_light}
use Rattle.ch_witness.proofs.tree.Tree.expand.Given as given
use Rattle.ch_witness.proofs.tree.Tree.expand.Goals as goal

pub follow-requires-clause-fits : goal.follow-requires-clause-fits
follow-requires-clause-fits g c =
    let answer = c.in_ok-kept_at.ensures.here.answer in
    reached_fits c.args.self.now.steps.items _ c.args.reached.node _ (omega (arith, c.requires.few)) c.requires.cutoff answer.limit (c.requires.tree.reached c.args.reached.node _ c.requires.label)

pub follow-requires-clause-entries : goal.follow-requires-clause-entries
follow-requires-clause-entries g c =
    let answer = (read_there g.S.RowSource.bears (g.S.RowSource.shows c.read.new.source) (g.S.RowSource.bound_of c.args.source.now) c.args.reached.node c.read.new.self c.in_ok-kept_at.kept_at c.at-seen.result.now c.in_ok-kept_at.ensures.here c.at-seen.ensures).1 in
    let out : c.out.result.now ≡ (row_in c.at-seen.result.now).out = c.out.ensures ∙ ap (λ (r : Row). r.out) c.deref-2.ensures in
    subst (λ (es : List Entry). (k : ℕ) (d : Entry) → k < length es → IsInLimit (slice_index_or es k d).cost) (sym out) (entries_fit c.at-seen.result.now answer.limit answer.row)

-- the answer that was read is kept, and the source vouches for it
there : (g : given.Over) (c : goal.In_ok-push g) → IsKept (kept_of c.read.new.self) c.at-seen.result.now × IsAnswer g.S.RowSource.bears (g.S.RowSource.shows c.read.new.source) (g.S.RowSource.bound_of c.args.source.now) c.args.reached.node c.at-seen.result.now
there g c = read_there g.S.RowSource.bears (g.S.RowSource.shows c.read.new.source) (g.S.RowSource.bound_of c.args.source.now) c.args.reached.node c.read.new.self c.in_ok-kept_at.kept_at c.at-seen.result.now c.in_ok-kept_at.ensures.here c.at-seen.ensures

unranked : (g : given.Over) (c : goal.In_ok-push g) → (row_in c.at-seen.result.now).rank ≡ None
unranked g c = ap (λ (r : Row). r.rank) (sym (c.behind-seen.view_is ∙ c.deref.ensures)) ∙ none_there c.behind-seen.inside.rank c.if-is_some.ensures

followed : (g : given.Over) (c : goal.In_ok-push g) → AreFollowed c.args.rule (row_in c.at-seen.result.now).out c.args.reached.cost (Some (length c.args.self.now.steps.items)) (labels_of c.args.self.now.frontier) (labels_of c.follow.new.frontier)
followed g c =
    let out : c.out.result.now ≡ (row_in c.at-seen.result.now).out = c.out.ensures ∙ ap (λ (r : Row). r.out) c.deref-2.ensures in
    let place : c.len.result ≡ length c.args.self.now.steps.items = omega (arith, c.len.ensures, c.args.self.now.steps.ok) in
    subst (λ (b : Option ℕ). AreFollowed c.args.rule (row_in c.at-seen.result.now).out c.args.reached.cost b (labels_of c.args.self.now.frontier) (labels_of c.follow.new.frontier)) (c.at-before.ensures ∙ ap (λ (n : ℕ). Some n) place)
    (subst (λ (es : List Entry). AreFollowed c.args.rule es c.args.reached.cost c.at-before.result (labels_of c.args.self.now.frontier) (labels_of c.follow.new.frontier)) out c.in_ok-follow.ensures)

pub returns-clause-tree : goal.returns-clause-tree
returns-clause-tree g c =
    let answer = (there g c).1 in
    subst (λ (ss : List TreeNode). IsTree c.args.rule ss (labels_of c.follow.new.frontier)) (sym c.in_ok-push.ensures.items)
    (tree_grown c.args.self.now.steps.items (labels_of c.args.self.now.frontier) (labels_of c.follow.new.frontier) _ c.requires.tree
    (ap (λ (s : Seen). labels_of c.args.self.now.frontier s.node) c.of.ensures ∙ ap (λ (v : ℕ). labels_of c.args.self.now.frontier v) answer.node ∙ c.requires.label)
    (λ k t is e. c.requires.new k t is (e ∙ ap (λ (s : Seen). s.node) c.of.ensures ∙ answer.node))
    (ap (λ (s : Seen). (row_in s).rank) c.of.ensures ∙ unranked g c)
    (subst (λ (s : Seen). (v : ℕ) (d : Cost) → Lists (row_in s).out v d → IsOfWalks 1 d) (sym c.of.ensures) (entries_light c.at-seen.result.now answer.limit answer.row))
    (subst (λ (s : Seen). AreFollowed c.args.rule (row_in s).out c.args.reached.cost (Some (length c.args.self.now.steps.items)) (labels_of c.args.self.now.frontier) (labels_of c.follow.new.frontier)) (sym c.of.ensures) (followed g c)))

pub returns-clause-later : goal.returns-clause-later
returns-clause-later g c =
    subst (λ (ss : List TreeNode). IsLater c.args.self.now.steps.items ss (labels_of c.args.self.now.frontier) (labels_of c.follow.new.frontier)) (sym c.in_ok-push.ensures.items)
    (step_later c.args.self.now.steps.items _ (labels_of c.args.self.now.frontier) (labels_of c.follow.new.frontier) (followed g c).kept)

pub returns-clause-whole : goal.returns-clause-whole
returns-clause-whole g c = λ named all.
    let seen = c.at-seen.result.now in
    let now = c.in_ok-kept_at.ensures.found named (all c.args.reached.node _ c.requires.label) seen.node seen (there g c).0 in
    names_kept (g.S.RowSource.whole c.args.source.now) (g.S.RowSource.whole c.read.new.source)
    (λ v h. g.met.S.RowSource.still_whole c.args.source.now c.read.new.source v c.in_ok-kept_at.ensures.read.stays h)
    now all (followed g c)

pub returns-clause-gone : goal.returns-clause-gone
returns-clause-gone g c = (
  c.at-seen.result.now,
  (there g c).0,
  record {
    node = (there g c).1.node;
    steps = inl (unranked g c, (_, record { seen_is = c.of.ensures; cost = refl; before = refl }, c.in_ok-push.ensures.items));
    told = λ _. (followed g c).told;
  },
)

pub returns-clause-few : goal.returns-clause-few
returns-clause-few c = grind (arith, common_steps) steps 600000
