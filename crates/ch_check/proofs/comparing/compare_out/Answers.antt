use Rattle.std.proofs.Common.{All, Contains, List, subst}
use Rattle.std.proofs.lemmas.List.{take_all}
use Rattle.std.proofs.lemmas.List.Elements.{All-more}
use Rattle.ch_laws.specs.declared.entry.Entry.{Entry}
use Rattle.ch_check.specs.Comparing.{link_out}
use Rattle.ch_check.proofs.comparing.compare_out.Goals as goal

pub outs-preserved : goal.outs-preserved
outs-preserved c =
    All-more (λ (e : Entry). Contains c.args.hierarchy.now.links (link_out c.args.node e)) c.args.outs.now c.outs.entry-index _ c.outs-test.true c.outs.invariant
    (subst (λ (e : Entry). Contains c.args.hierarchy.now.links (link_out c.args.node e)) c.entry-item.is (c.has_link.ensures c.if-not-has_link.false))

pub returns : goal.returns
returns c = subst (λ (es : List Entry). All (λ (e : Entry). Contains c.args.hierarchy.now.links (link_out c.args.node e)) es) (take_all c.outs.entry-index c.args.outs.now c.outs-test.false) c.outs.invariant
