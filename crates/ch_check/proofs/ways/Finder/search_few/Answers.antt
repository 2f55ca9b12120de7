use Rattle.std.proofs.Common.{List, sym, subst}
use Rattle.ch_laws.specs.declared.shortcut.Shortcut.{Shortcut}
use Rattle.ch_check.specs.Pairs.{AreLeft, AreOwed}
use Rattle.ch_check.proofs.Joining.{left_of_left}
use Rattle.ch_check.proofs.ways.Finder.search_few.Goals as goal

pub search_ways-requires-2-clause-owed : goal.search_ways-requires-2-clause-owed
search_ways-requires-2-clause-owed c =
    subst (λ (ps : List Shortcut). AreOwed c.args.overlay.now c.args.via c.args.from ps) (sym c.deref.ensures.value)
    (λ p among. c.requires.owed p (c.in_ok-some.ensures.left.among p among))

pub returns-clause-left : goal.returns-clause-left
returns-clause-left c =
    left_of_left c.in_ok-some.ensures.left
    (subst (λ (ps : List Shortcut). AreLeft c.args.overlay.now c.args.via ps c.in_ok-few.few.items) c.deref.ensures.value
    c.in_ok-few.ensures.left)
