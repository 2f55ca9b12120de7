use Rattle.std.proofs.Common.{◌≡◌, take}
use Rattle.ch_table.proofs.steps.short.Given as goal

abbrev pub invariant-numbers : goal.invariant-numbers
invariant-numbers l = l.short.items ≡ take l.number-index l.numbers
