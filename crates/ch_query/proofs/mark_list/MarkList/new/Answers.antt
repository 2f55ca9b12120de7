use Rattle.std.proofs.Common.{ℕ, ◌≡◌, ◌∙◌, List, replicate, length, ap, arith}
use Rattle.std.proofs.lemmas.List.{length-replicate}
use Rattle.ch_graph.specs.declared.mark.Mark.{Mark}
use Rattle.ch_graph.specs.declared.mark.Mark.TheVariants.{Unseen}
use Rattle.ch_query.specs.declared.label.Label.{Label}
use Rattle.ch_query.specs.declared.mark_list.Touched.{Touched}
use Rattle.ch_query.proofs.SeenNodes.{unseen, none_placed}
use Rattle.ch_query.proofs.mark_list.MarkList.new.Goals as goal

pub invariant_of-result : goal.invariant_of-result
invariant_of-result c =
    let zeros : c.in_ok-vec.field-0.items ≡ replicate c.args.nodes 0 = c.in_ok-vec.ensures.items_if_clones_equal (λ y e. e) in
    (none_placed c.args.nodes zeros c.new.ensures.items, omega (arith, c.ranges.nodes.fits, ap (λ (xs : List ℕ). length xs) zeros, length-replicate {A = ℕ} c.args.nodes 0))

pub returns : goal.returns
returns c =
    let zeros : c.in_ok-vec.field-0.items ≡ replicate c.args.nodes 0 = c.in_ok-vec.ensures.items_if_clones_equal (λ y e. e) in
    unseen c.new.result.items c.in_ok-vec.field-0.items (ap (λ (xs : List Touched). length xs) c.new.ensures.items)
    ∙ ap (λ n. replicate {A = Mark Label} n Unseen) (ap (λ (xs : List ℕ). length xs) zeros ∙ length-replicate {A = ℕ} c.args.nodes 0)
