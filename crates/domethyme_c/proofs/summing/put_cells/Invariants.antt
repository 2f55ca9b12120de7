use Rattle.domethyme_c.specs.Summing.{ArePut}
use Rattle.domethyme_c.proofs.summing.put_cells.Given as goal

abbrev pub invariant-places : goal.invariant-places
invariant-places l = ArePut l.lengths l.sums l.place l.from l.fn.cells l.cells
