use Rattle.std.proofs.Common.{List, Some, subst}
use Rattle.ch_cost.specs.declared.cost.Cost.{Cost}
use Rattle.ch_laws.specs.declared.entry.Entry.{Entry}
use Rattle.ch_overlay.specs.Pairs.{IsPairOf}
use Rattle.ch_check.specs.Pairs.{LeadsDirectly, LeadsOver}
use Rattle.ch_check.proofs.Joining.{direct_pair, two_pair}
use Rattle.ch_check.proofs.anew.long_pair.Goals as goal

pub returns-then-has_direct : goal.returns-then-has_direct
returns-then-has_direct c =
    let t = c.args.task.now in
    let pair = c.in-Some.pair in
    direct_pair t.node c.args.into.now c.args.out.now c.requires.first c.requires.start c.requires.end pair
    (subst (λ (b : Cost). IsPairOf b c.args.into.now c.args.out.now (Some pair)) c.bound.ensures c.in-Some.ensures)
    (subst (λ (es : List Entry). LeadsDirectly es pair) (c.out.ensures)
    (c.has_direct.ensures.yes c.if-has_direct.true))

pub returns-then-has_two_arcs : goal.returns-then-has_two_arcs
returns-then-has_two_arcs c =
    let t = c.args.task.now in
    let pair = c.in-Some.pair in
    let last = c.open_row-last.result.now in
    two_pair t.node c.args.into.now c.args.out.now c.requires.first c.requires.start c.requires.end pair
    (subst (λ (b : Cost). IsPairOf b c.args.into.now c.args.out.now (Some pair)) c.bound.ensures c.in-Some.ensures)
    c.open_row-last.ensures (subst (λ (es : List Entry). LeadsOver es last.inn t.node pair)
    (c.out-2.ensures)
    (subst (λ (es : List Entry). LeadsOver c.out-2.result.now es t.node pair)
    (c.inn.ensures)
    (c.has_two_arcs.ensures c.if-has_two_arcs.true)))
