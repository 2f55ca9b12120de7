use Rattle.std.proofs.Common.{◌<◌, arith}
use Rattle.std.proofs.lemmas.Bool.Decides.{nat_tests}
use Rattle.ch_cost.specs.Cost.Laws.{weight-from}
use Rattle.ch_graph.proofs.road.Road.is_allowed.Goals as goal

pub returns : goal.returns
returns c = (
  λ test.
      let from_in : c.args.self.from < c.args.nodes = grind (arith, nat_tests, test) in
      let to_in : c.args.self.to < c.args.nodes = grind (arith, nat_tests, test) in
      record { from_in = from_in; to_in = to_in; weighs = weight-from c.args.self.weight (omega (arith, c.well_formed)) },
  λ is. grind (arith, nat_tests, is.from_in, is.to_in),
)
