use Rattle.std.proofs.Common.{take, Contains}
use Rattle.ch_cost.specs.declared.cost.Cost.{Cost}
use Rattle.ch_cost.specs.Cost.{◌≼◌, IsWithin}
use Rattle.ch_laws.specs.declared.shortcut.Shortcut.{Shortcut}
use Rattle.ch_overlay.proofs.pairs.greatest_cost.Given as goal

abbrev pub invariant-pairs : goal.invariant-pairs
invariant-pairs l = record {
  most : (p : Shortcut) → Contains (take l.pair-index l.pairs) p → p.cost ≼ l.most;
  within : (bound : Cost) → ((p : Shortcut) → Contains l.pairs p → IsWithin p.cost bound) → IsWithin l.most bound;
}
