use Rattle.std.proofs.Common.{◌≡◌, map, take}
use Rattle.ch_laws.specs.declared.shortcut.Shortcut.{Shortcut}
use Rattle.ch_overlay.proofs.pairs.find_ends.Given as goal

abbrev pub invariant-pairs : goal.invariant-pairs
invariant-pairs l = l.ends.items ≡ map (λ (p : Shortcut). p.to) (take l.pair-index l.pairs)
