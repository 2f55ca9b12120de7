use Rattle.std.proofs.Common.{List, ◌≡◌, ◌++◌, ◌∙◌, subst, ap}
use Rattle.std.specs.List.Sorted.{IsPermutation}
use Rattle.ch_multiqueue.specs.Accounts.{all_taken}
use Rattle.ch_multiqueue.specs.declared.item.Item.{Item}
use Rattle.ch_multiqueue.proofs.account.gone_in_order.Goals as goal

pub returns-clause-same : goal.returns-clause-same
returns-clause-same c =
    let left : List Item = c.args.left.now in
    let gathered : c.extend_from_slice.new.self.items ≡ all_taken c.args.passes.now ++ left = c.in_ok-extend_from_slice.ensures.items ∙ ap (λ (l : List Item). l ++ left) c.in_ok-gone.ensures in
    subst (λ (l : List Item). IsPermutation l c.in_order.result.items) gathered c.in_order.ensures.same
