use Rattle.std.proofs.Common.{◌≡◌, ◌++◌, map, take}
use Rattle.ch_contract.specs.Finish.{link_out}
use Rattle.ch_contract.proofs.parts.push_out.Given as goal

abbrev pub invariant-loop-entry : goal.invariant-loop-entry
invariant-loop-entry l = l.links.items ≡ l.fn.links.items ++ map (link_out l.node) (take l.entry-index l.entries)
