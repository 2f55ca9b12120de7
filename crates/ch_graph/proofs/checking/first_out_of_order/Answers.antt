use Rattle.std.proofs.Common.{arith}
use Rattle.ch_graph.specs.declared.link.Link.{Link}
use Rattle.ch_graph.proofs.LinkTests.{links_sorted}
use Rattle.ch_graph.proofs.checking.first_out_of_order.Goals as goal

pub returns-clause-none : goal.returns-clause-none
returns-clause-none c = links_sorted c.args.links.now (λ k (d : Link) within. c.links.invariant k d (omega (arith, c.links-test.false)))
