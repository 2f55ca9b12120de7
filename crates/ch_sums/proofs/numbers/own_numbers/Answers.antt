use Rattle.std.proofs.Common.{◌≡◌, ◌+◌, ◌<◌, ◌≤◌, ◌∙◌, List, length, get_or, take, ap, sym, subst, arith}
use Rattle.std.proofs.lemmas.List.Sums.{sum_by_more, sum_by-take-le}
use Rattle.ch_graph.specs.declared.link.Link.{Link}
use Rattle.ch_sums.specs.Numbers.{count_arcs, one_arc}
use Rattle.ch_sums.specs.Order.{AreOwn}
use Rattle.ch_sums.proofs.Adding.{own-more}
use Rattle.ch_sums.proofs.numbers.own_numbers.Goals as goal

pub own_number-requires : goal.own_number-requires
own_number-requires c =
    let links = c.links-links.result.now in
    let l = c.index-links-at.result in
    let more : count_arcs (take (c.links.at + 1) links) ≡ count_arcs (take c.links.at links) + one_arc (get_or links c.links.at l).middle = sum_by_more (λ (k : Link). one_arc k.middle) links c.links.at l c.links-test.true in
    let most : count_arcs (take (c.links.at + 1) links) ≤ count_arcs links = sum_by-take-le (λ (k : Link). one_arc k.middle) links (c.links.at + 1) in
    let read : one_arc c.index-links-at.result.middle ≡ one_arc (get_or links c.links.at l).middle = ap (λ (k : Link). one_arc k.middle) c.index-links-at.is in
    omega (arith, more, most, read, c.links.invariant.next, c.count_arcs.ensures, c.if-count_arcs-given.false)

pub links-preserved : goal.links-preserved
links-preserved c =
    let h = c.args.hierarchy.now in
    let links = c.links-links.result.now in
    let l = c.index-links-at.result in
    let k = c.index-links-at-in-links.result in
    let was = c.links.invariant in
    let more : count_arcs (take (c.links.at + 1) links) ≡ count_arcs (take c.links.at links) + one_arc (get_or links c.links.at k).middle = sum_by_more (λ (k : Link). one_arc k.middle) links c.links.at k c.links-test.true in
    let read : one_arc c.index-links-at-in-links.result.middle ≡ one_arc (get_or links c.links.at k).middle = ap (λ (k : Link). one_arc k.middle) c.index-links-at-in-links.is in
    let within : c.links.at < length h.links = subst (λ (ls : List Link). c.links.at < length ls) c.links-links.ensures.links c.links-test.true in
    let own_read : get_or h.links c.links.at l ≡ l = sym (c.index-links-at.is ∙ ap (λ (ls : List Link). get_or ls c.links.at l) c.links-links.ensures.links) in
    let next : c.links.next ≡ count_arcs (take c.links.at h.links) = was.next ∙ ap (λ (ls : List Link). count_arcs (take c.links.at ls)) c.links-links.ensures.links in
    record {
      own = subst (λ ns. AreOwn h c.args.given.now (c.links.at + 1) ns) (sym c.in_ok-push.ensures.items) (own-more c.own_number.result c.links.next l within own_read c.own_number.ensures.arc c.own_number.ensures.small next was.own);
      next = omega (arith, more, read, was.next, c.one_arc-next.ensures);
    }
