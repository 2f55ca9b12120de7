use Rattle.std.proofs.Common.{List, sym, subst}
use Rattle.ch_laws.specs.declared.shortcut.Shortcut.{Shortcut}
use Rattle.ch_check.specs.Pairs.{AreOwed}
use Rattle.ch_check.proofs.ways.Finder.find_ways.Goals as goal

pub search_ways-requires-clause-owed : goal.search_ways-requires-clause-owed
search_ways-requires-clause-owed c =
    subst (λ (ps : List Shortcut). AreOwed c.args.overlay.now c.args.via c.args.from ps) (sym c.deref.ensures.value)
    (λ p among. c.requires.owed p (c.in_ok-few.ensures.left.among p among))
