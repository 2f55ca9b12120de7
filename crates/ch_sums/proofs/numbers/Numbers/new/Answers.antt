use Rattle.std.proofs.Common.{◌<◌, ◌∙◌, length, None, ap, sym, subst, arith}
use Rattle.std.proofs.lemmas.List.{get_or_default}
use Rattle.std.proofs.lemmas.Result.{err_from_is_err_and}
use Rattle.ch_cost.specs.Cost.{zero_cost}
use Rattle.ch_graph.specs.declared.link.Link.{Link}
use Rattle.ch_sums.specs.Numbers.{IsNumbersFault, IsNumbersFault.great}
use Rattle.ch_sums.specs.declared.order.LinkPlace.{LinkPlace}
use Rattle.ch_sums.proofs.Adding.{added-all, added-more, great-link}
use Rattle.ch_sums.proofs.numbers.Numbers.new.Goals as goal

abbrev none : LinkPlace
none = record { rank = 0; at = 0 }

pub places-preserved : goal.places-preserved
places-preserved c =
    let i_in : c.places.place < length c.in_ok-order.order.items = omega (arith, c.places-test.true, c.len-place-end.ensures, c.in_ok-order.order.ok) in
    added-more c.links_unfold.ensures c.nodes-well_made.ensures.made c.in_ok-order.ensures.places c.in_ok-order.ensures.all c.in_ok-order.ensures.sorted c.places.invariant i_in
    (ap (λ (p : LinkPlace). p.at) (c.index.ensures ∙ get_or_default c.in_ok-order.order.items c.places.place c.index.result.now none i_in)) c.in_ok-add_halves.ensures.added

pub returns-clause-numbers : goal.returns-clause-numbers
returns-clause-numbers c =
    added-all c.links_unfold.ensures c.nodes-well_made.ensures.made c.in_ok-order.ensures.places c.in_ok-order.ensures.all c.in_ok-order.ensures.sorted
    (omega (arith, c.places-test.false, c.len-place-end.ensures, c.in_ok-order.order.ok)) c.places.invariant

pub returns-in_err-add_halves-clause-refused : goal.returns-in_err-add_halves-clause-refused
returns-in_err-add_halves-clause-refused c =
    let told = err_from_is_err_and c.from_residual-in_err-add_halves.result c.from_residual-in_err-add_halves.ensures.1 in
    let refused = c.in_err-add_halves.ensures.refused in
    let some : Link = record { from = 0; to = 0; cost = zero_cost; middle = None } in
    let i_in : c.places.place < length c.in_ok-order.order.items = omega (arith, c.places-test.true, c.len-place-end.ensures, c.in_ok-order.order.ok) in
    let at = ap (λ (p : LinkPlace). p.at) (c.index.ensures ∙ get_or_default c.in_ok-order.order.items c.places.place c.index.result.now none i_in) in
    let fault : IsNumbersFault c.args.hierarchy.now c.args.given.now c.in_err-add_halves.field-0.0 = great refused.is
    (great-link c.links_unfold.ensures c.nodes-well_made.ensures.made c.in_ok-order.ensures.places c.in_ok-order.ensures.all c.in_ok-order.ensures.sorted c.places.invariant i_in at refused.halves refused.great some) in
    let own : IsNumbersFault c.args.hierarchy.now c.args.given.now told.0 = subst (IsNumbersFault c.args.hierarchy.now c.args.given.now) (sym told.2) fault in
    rw told.1 own
