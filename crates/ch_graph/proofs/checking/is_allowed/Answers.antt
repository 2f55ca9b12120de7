use Rattle.std.proofs.Common.{◌≡◌, ◌≢◌, ◌<◌, true, arith, sym, subst}
use Rattle.std.proofs.lemmas.Bool.Decides.{nat_tests}
use Rattle.ch_cost.specs.declared.cost.Cost.{Cost}
use Rattle.ch_cost.specs.Cost.{IsWithin}
use Rattle.ch_graph.proofs.checking.is_allowed.Goals as goal

pub returns : goal.returns
returns c = (
  λ test.
      let from_in : c.args.link.now.from < c.args.nodes = grind (arith, nat_tests, test) in
      let to_in : c.args.link.now.to < c.args.nodes = grind (arith, nat_tests, test) in
      let apart : c.args.link.now.from ≢ c.args.link.now.to = λ same. grind (arith, nat_tests, test, same) in
      let counts : c.counts.result ≡ true = grind (arith, nat_tests, test) in
      let within : c.is_within.result ≡ true = grind (arith, nat_tests, test) in
      record {
        from_in = from_in;
        to_in = to_in;
        apart = apart;
        counts = c.counts.ensures.0 counts;
        within = subst (λ (k : Cost). IsWithin k c.args.bound) c.cost.ensures (c.is_within.ensures.0 within);
      },
  λ is.
      let within : c.is_within.result ≡ true = c.is_within.ensures.1 (subst (λ (k : Cost). IsWithin k c.args.bound) (sym c.cost.ensures) is.within) in
      grind (arith, nat_tests, is.from_in, is.to_in, is.apart, c.counts.ensures.1 is.counts, within),
)
