use Rattle.std.specs.Prelude.{ℕ, ◌≡◌, ◌<◌, length, map}
use Rattle.std.proofs.Common.{inl, inr, subst, sym, ◌∙◌, ap, arith}
use Rattle.std.specs.Arc.{arc_value}
use Rattle.std.proofs.lemmas.Bool.{cases_lt}
use Rattle.std.proofs.lemmas.Bool.Decides.{nat_tests}
use Rattle.std.proofs.lemmas.List.{get_or-map, length-map}
use Rattle.ch_laws.specs.Rows.{Row, no_arcs, row_at}
use Rattle.ch_overlay.specs.Records.{IsSoundRow}
use Rattle.test_kit.proofs.rows.are_sound.Goals as goal

-- the row of the node at hand can be relied on
pub loop-node-preserved : goal.loop-node-preserved
loop-node-preserved c =
    let rows = c.args.rows.now in
    let node : ℕ = c.loop-node.node in
    let within : node < length rows = grind (arith, nat_tests, c.loop-node-test.true) in
    let at = get_or-map arc_value rows node c.index-rows-node.result no_arcs within in
    let here : IsSoundRow c.args.bound node (row_at (map arc_value rows) node) =
    subst (λ (r : Row). IsSoundRow c.args.bound node r) (c.deref.ensures ∙ ap arc_value c.index-rows-node.is ∙ sym at) (c.is_sound.ensures c.if-not-is_sound.false) in
    λ x less. elim (cases_lt x node) [
      | inl before ↦ c.loop-node.invariant x before
      | inr past ↦ let is : node ≡ x = omega (arith, past, less) in subst (λ (k : ℕ). IsSoundRow c.args.bound k (row_at (map arc_value rows) k)) is here
    ]

pub returns : goal.returns
returns c =
    λ t x less.
    let long : length (map arc_value c.args.rows.now) ≡ length c.args.rows.now = length-map c.args.rows.now arc_value in
    c.loop-node.invariant x (grind (arith, nat_tests, c.loop-node-test.false, less, long))
