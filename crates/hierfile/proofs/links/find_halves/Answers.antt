use Rattle.std.proofs.Common.{arith}
use Rattle.std.proofs.lemmas.Grind.{common_steps}
use Rattle.hierfile.proofs.links.find_halves.Goals as goal

pub links-preserved : goal.links-preserved
links-preserved c = record {
  halves = c.in_ok-keep.ensures c.args.links.now c.links.invariant.halves (λ d. grind (arith, common_steps));
  faultless = grind (arith, common_steps);
}

pub returns-clause-faultless : goal.returns-clause-faultless
returns-clause-faultless c = grind (arith, common_steps) steps 200000
