use Rattle.std.proofs.Common.{All, Contains, List, subst}
use Rattle.std.proofs.lemmas.List.{take_all}
use Rattle.std.proofs.lemmas.List.Elements.{All-more}
use Rattle.ch_laws.specs.declared.entry.Entry.{Entry}
use Rattle.ch_check.specs.Comparing.{link_in}
use Rattle.ch_check.proofs.comparing.compare_in.Goals as goal

pub inns-preserved : goal.inns-preserved
inns-preserved c =
    All-more (λ (e : Entry). Contains c.args.hierarchy.now.links (link_in c.args.node e)) c.args.inns.now c.inns.entry-index _ c.inns-test.true c.inns.invariant
    (subst (λ (e : Entry). Contains c.args.hierarchy.now.links (link_in c.args.node e)) c.entry-item.is (c.has_link.ensures c.if-not-has_link.false))

pub returns : goal.returns
returns c = subst (λ (es : List Entry). All (λ (e : Entry). Contains c.args.hierarchy.now.links (link_in c.args.node e)) es) (take_all c.inns.entry-index c.args.inns.now c.inns-test.false) c.inns.invariant
