use Rattle.std.proofs.Common.{ℕ, Option, Some, None, ◌≡◌, ◌≢◌, ◌<◌, IfSome, IfNone, length, slice_index, ap, sym, subst, ◌∙◌}
use Rattle.ch_witness.specs.Kept.{joined, kept_of}
use Rattle.ch_witness.specs.Places.{IsFirstAt}
use Rattle.ch_witness.proofs.KeptAnswers.{none_there, some_there, stands}
use Rattle.ch_witness.proofs.ValuesOfNodes.{value_absent}
use Rattle.ch_witness.proofs.rows.Rows.known.Goals as goal

pub returns-in_err-place-clause-none : goal.returns-in_err-place-clause-none
returns-in_err-place-clause-none c =
    let absent : (k : ℕ) → k < length c.args.self.now.nodes → slice_index c.args.self.now.nodes k ≢ c.args.node = subst (λ (o : Option ℕ). IfNone o ((k : ℕ) → k < length c.args.self.now.nodes → slice_index c.args.self.now.nodes k ≢ c.args.node)) c.in_err-place.was c.requires.absent in
    subst (λ (o : Option ℕ). IfNone o (kept_of c.args.self.now c.args.node ≡ None)) (sym c.from_residual.ensures) (ap joined (value_absent c.args.self.now.nodes c.args.self.now.kept.items c.args.node absent))

pub returns-then-is_some-clause-here : goal.returns-then-is_some-clause-here
returns-then-is_some-clause-here c =
    let at = subst (λ (o : Option ℕ). IfSome o (IsFirstAt c.args.self.now.nodes c.args.node)) c.in_ok-place.was c.requires.found in
    let there = stands c.args.self.now c.args.self.now.paired at c.index.ensures in
    let some = some_there c.index.result.now c.if-is_some.ensures in
    (some.0, there.0 ∙ ap Some some.1, there.1 ∙ some.1)

pub returns-clause-none : goal.returns-clause-none
returns-clause-none c =
    let at = subst (λ (o : Option ℕ). IfSome o (IsFirstAt c.args.self.now.nodes c.args.node)) c.in_ok-place.was c.requires.found in
    let there = stands c.args.self.now c.args.self.now.paired at c.index.ensures in
    there.1 ∙ none_there c.index.result.now c.if-is_some.ensures
