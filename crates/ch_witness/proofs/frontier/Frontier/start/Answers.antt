use Rattle.std.proofs.Common.{List, ℕ, [], ◌∷◌, ◌++◌, refl, ap, ◌∙◌, arith}
use Rattle.ch_cost.specs.Cost.Laws.{ZERO-is}
use Rattle.ch_witness.specs.declared.label.Label.{Label}
use Rattle.ch_witness.proofs.OfferedLabels.{begun}
use Rattle.ch_witness.proofs.ValuesOfNodes.{values_put}
use Rattle.ch_witness.proofs.frontier.Frontier.start.Goals as goal

pub returns : goal.returns
returns c =
    let put = values_put [] [] c.args.start _
    (c.in_ok-push.ensures.put ∙ ap (λ (ns : List ℕ). ns ++ c.args.start ∷ []) c.clear-3.ensures)
    (c.push_reserved.ensures.items ∙ ap (λ (ls : List Label). ls ++ _ ∷ []) (c.reserve.ensures.items ∙ c.clear-2.ensures.items))
    refl (λ k h. absurd (omega (arith, h))) in
    record { here = put.0 ∙ ap begun ZERO-is; others = put.1 }
