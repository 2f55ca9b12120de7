use Rattle.std.proofs.Common.{◌≡◌, ◌<◌, List, true, length, subst, sym, refl, inr}
use Rattle.std.proofs.lemmas.List.{get_or_read}
use Rattle.std.specs.BinaryHeap.{heap_items}
use Rattle.ch_cost.specs.declared.cost.Cost.{Cost}
use Rattle.ch_graph.specs.declared.mark.Mark.{Mark}
use Rattle.ch_graph.specs.declared.mark.Mark.TheVariants.{Unseen}
use Rattle.ch_graph.specs.Marks.{mark, Improves}
use Rattle.ch_graph.specs.Search.{own_cost, IsOffered}
use Rattle.ch_graph.proofs.QueueEntries.{queue-open}
use Rattle.ch_graph.proofs.frontier.Frontier.offer.Goals as goal

pub invariant_of-self-then-is_improved_by : goal.invariant_of-self-then-is_improved_by
invariant_of-self-then-is_improved_by c =
    let marks : List (Mark Cost) = c.self.inside.marks.items in
    let place : c.args.node < length marks = subst (λ (xs : List (Mark Cost)). c.args.node < length xs) (sym c.self.view_is) c.requires in
    let read : c.index.result.now ≡ mark marks c.args.node = get_or_read marks c.args.node c.index.result.now place c.index.ensures Unseen in
    queue-open marks (heap_items c.self.inside.queue) (heap_items c.push.new.self) c.args.node c.args.cost c.self.invariant place
    (subst (Improves own_cost c.args.cost) read (c.is_improved_by.ensures.0 c.if-is_improved_by.true)) c.in_ok-push.ensures.permutation
    (c.in_ok-push.ensures.heap_order c.self.invariant.heap)

pub returns-else-is_improved_by : goal.returns-else-is_improved_by
returns-else-is_improved_by c =
    let marks : List (Mark Cost) = c.self.inside.marks.items in
    let place : c.args.node < length marks = subst (λ (xs : List (Mark Cost)). c.args.node < length xs) (sym c.self.view_is) c.requires in
    let read : c.index.result.now ≡ mark marks c.args.node = get_or_read marks c.args.node c.index.result.now place c.index.ensures Unseen in
    subst (λ (xs : List (Mark Cost)). IsOffered xs c.args.node c.args.cost xs) c.self.view_is (inr (
      λ improves.
          let yes : c.is_improved_by.result ≡ true = c.is_improved_by.ensures.1 (subst (Improves own_cost c.args.cost) (sym read) improves) in
          cc (yes, c.if-is_improved_by.false),
      refl,
    ))
