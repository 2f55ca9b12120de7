use Rattle.std.proofs.Common.{List, ◌≡◌, ◌∙◌, ◌++◌, length, take, drop, subst, sym, ap}
use Rattle.std.proofs.Math.Seq.{take-append_seam}
use Rattle.std.specs.List.{AllPairs}
use Rattle.ch_multiqueue.specs.declared.item.Item.{Item}
use Rattle.ch_multiqueue.specs.Items.{IsNotAfter}
use Rattle.ch_multiqueue.proofs.Orders.{pairs-from_sorted}
use Rattle.ch_multiqueue.proofs.account.in_order.Goals as goal

pub returns-clause-sorted : goal.returns-clause-sorted
returns-clause-sorted c =
    let sorted : List Item = c.sort_unstable.new.self in
    let rest : List Item = drop (length sorted) c.args.items.items in
    let count : length sorted ≡ c.args.items.len = c.sort_unstable.ensures.len ∙ c.as_mut_slice.ensures.len in
    let whole : sorted ≡ take c.args.items.len (sorted ++ rest) = sym (take-append_seam sorted rest) ∙ ap (λ n. take n (sorted ++ rest)) count in
    subst (AllPairs IsNotAfter) whole (pairs-from_sorted sorted c.sort_unstable.ensures.sorted)
