use Rattle.std.proofs.Common.{List, Option, length, subst}
use Rattle.ch_witness.specs.declared.way.Way.{Way}
use Rattle.ch_check.specs.Pairs.{AreUnmet}
use Rattle.ch_check.proofs.Joining.{left_over}
use Rattle.ch_check.proofs.ways.Finder.leave.Goals as goal

pub returns-clause-left : goal.returns-clause-left
returns-clause-left c =
    left_over c.args.overlay.now c.args.via c.args.from c.requires.owed c.in_ok-found.ensures.ways
    (subst (λ (ways : List (Option Way)). AreUnmet c.args.owed.now ways (length c.args.owed.now) c.in_ok-left.left.items)
    c.deref.ensures.value c.in_ok-left.ensures)
