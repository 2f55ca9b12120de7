use Rattle.std.proofs.Common.{List, Option, Some, [], ◌∷◌, ◌++◌, ap, ◌∙◌, arith}
use Rattle.std.proofs.lemmas.Grind.{common_steps}
use Rattle.ch_overlay.specs.declared.source.Seen.{Seen}
use Rattle.ch_witness.specs.Kept.{joined}
use Rattle.ch_witness.proofs.ValuesOfNodes.{values_put}
use Rattle.ch_witness.proofs.rows.Rows.push.Goals as goal

pub returns-clause-here : goal.returns-clause-here
returns-clause-here c =
    let put = values_put c.args.self.now.nodes c.args.self.now.kept.items c.args.node
    (Some c.args.seen) c.in_ok-push.ensures.put
    (c.push_reserved.ensures.items ∙ ap (λ (ks : List
    (Option Seen)). ks ++ Some c.args.seen ∷ []) c.reserve.ensures.items) c.args.self.now.paired c.requires.absent in
    ap joined put.0

pub returns-clause-others : goal.returns-clause-others
returns-clause-others c =
    let put = values_put c.args.self.now.nodes c.args.self.now.kept.items c.args.node
    (Some c.args.seen) c.in_ok-push.ensures.put
    (c.push_reserved.ensures.items ∙ ap (λ (ks : List
    (Option Seen)). ks ++ Some c.args.seen ∷ []) c.reserve.ensures.items) c.args.self.now.paired c.requires.absent in
    λ x apart. ap joined (put.1 x apart)

pub invariant_of-self-2 : goal.invariant_of-self-2
invariant_of-self-2 c = grind (arith, common_steps) steps 200000
