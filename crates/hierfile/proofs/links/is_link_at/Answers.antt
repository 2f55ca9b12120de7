use Rattle.std.proofs.Common.{◌≡◌, ap, sym, ◌∙◌, arith}
use Rattle.std.proofs.lemmas.Bool.Decides.{nat_tests}
use Rattle.ch_graph.specs.declared.link.Link.{Link}
use Rattle.hierfile.proofs.links.is_link_at.Goals as goal

pub returns : goal.returns
returns c = λ leads.
    let from : c.in-Some.link.now.from ≡ c.args.from = grind (arith, nat_tests) in
    let to : c.in-Some.link.now.to ≡ c.args.to = grind (arith, nat_tests) in
    let there = c.in-Some.ensures.lookup.3 in
    record {
      within = there.0;
      from = λ d. ap (λ (l : Link). l.from) (sym (there.1 d)) ∙ from;
      to = λ d. ap (λ (l : Link). l.to) (sym (there.1 d)) ∙ to;
    }
