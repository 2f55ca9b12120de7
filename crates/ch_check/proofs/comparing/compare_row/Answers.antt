use Rattle.std.proofs.Common.{All, Contains, List, subst}
use Rattle.std.proofs.lemmas.Result.{on_ok_weaker}
use Rattle.ch_laws.specs.declared.entry.Entry.{Entry}
use Rattle.ch_check.specs.Comparing.{link_in, link_out}
use Rattle.ch_check.proofs.comparing.compare_row.Goals as goal

pub returns : goal.returns
returns c = on_ok_weaker c.compare_in.result (λ inn. record {
  out = subst (λ (es : List Entry). All (λ (e : Entry). Contains c.args.hierarchy.now.links (link_out c.args.node e)) es) (c.out.ensures) c.in_ok-compare_out.ensures;
  inn = subst (λ (es : List Entry). All (λ (e : Entry). Contains c.args.hierarchy.now.links (link_in c.args.node e)) es) (c.inn.ensures) inn;
}) c.compare_in.ensures
