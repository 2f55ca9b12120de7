use Rattle.std.proofs.Common.{◌≡◌, List, ◌++◌, length, rules, arith, ap, sym, subst, ◌∙◌}
use Rattle.std.specs.List.Sorted.{IsPermutation}
use Rattle.std.proofs.lemmas.List.Sorted.{answers_always}
use Rattle.ch_graph.specs.declared.link.Link.{Link}
use Rattle.ch_laws.specs.Rows.{Row}
use Rattle.ch_contract.specs.Finish.{row_links, links_below}
use Rattle.ch_contract.proofs.SortedLinks.{sorted-pairs, links_below-more}
use Rattle.ch_contract.proofs.parts.links_of.Goals as goal

pub loop-node-preserved : goal.loop-node-preserved
loop-node-preserved c =
    let rows = c.args.overlay.now.rows in
    c.in_ok-push_row.ensures ∙ ap (λ (ls : List Link). ls ++ row_links c.deref.result.now c.loop-node.node) c.loop-node.invariant ∙ ap (λ (r : Row). links_below rows c.loop-node.node ++ row_links r c.loop-node.node) (c.deref.ensures ∙ c.row.ensures) ∙ sym (links_below-more rows c.loop-node.node)

pub returns : goal.returns
returns c =
    let all : c.loop-node.node ≡ length c.args.overlay.now.rows = omega (arith, c.nodes-node-end.ensures.count) in
    let below = c.loop-node.invariant ∙ ap (links_below c.args.overlay.now.rows) all in
    let sorted = c.sort_unstable_by_key.ensures.sorted (λ (l : Link). (l.from, l.to)) (answers_always _ _ _ (λ f a r g called. search rules)) in
    record {
      all = subst (λ (ls : List Link). IsPermutation ls c.sort_unstable_by_key.new.self.items) below c.sort_unstable_by_key.ensures.permutation;
      no_later = sorted-pairs c.sort_unstable_by_key.new.self.items sorted;
    }
