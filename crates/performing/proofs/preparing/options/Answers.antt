use Rattle.std.proofs.Common.{refl, sym, arith}
use Rattle.performing.proofs.preparing.options.Goals as goal

pub returns-clause-good : goal.returns-clause-good
returns-clause-good c =
    let some = c.commits.ensures.some in record {
      workers = c.count.ensures.few;
      heaps = record { above = omega arith; below = omega arith };
      settle = record { above = omega arith; below = omega arith };
      defer = omega arith;
      turns = record { above = omega arith; below = omega arith };
      stint = record { above = omega (arith, some); below = c.commits.ensures.few };
      a_list_each = sym c.count.ensures.count;
    }

pub returns-clause-all : goal.returns-clause-all
returns-clause-all c = rw (c.count.ensures.count, c.commits.ensures.commits) refl
