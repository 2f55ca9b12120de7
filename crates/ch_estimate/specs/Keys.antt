-- The keys of nodes: nodes of smaller keys are contracted first.
use Rattle.std.specs.Prelude.{ℕ, ◌+◌, ◌-◌, ◌*◌, ◌/◌, nat_eq, cond}
use Rattle.ch_contract.specs.declared.facts.Facts.{Facts}
use Rattle.ch_estimate.specs.Notes.{Note}

-- how many more arcs there are after the contraction than before it, raised by 2 ^ 26 so as to be never below zero
abbrev pub edge_difference : Facts → ℕ
edge_difference facts = (67108864 + facts.shortcuts) - (facts.ins + facts.outs)

-- that, and one for each neighbour that is gone
abbrev pub with_neighbours : Facts → Note → ℕ
with_neighbours facts note = edge_difference facts + note.gone

-- that, and one for each step of the node's depth
abbrev pub with_depth : Facts → Note → ℕ
with_depth facts note = edge_difference facts + note.depth

-- six thousand for each shortcut, divided by the arcs that there are, rounded down
abbrev pub shortcuts_for_arcs : Facts → ℕ
shortcuts_for_arcs facts = cond (nat_eq (facts.ins + facts.outs) 0) 0 ((6000 * facts.shortcuts) / (facts.ins + facts.outs))

-- that, and a thousand for each step of the node's depth
abbrev pub balanced : Facts → Note → ℕ
balanced facts note = shortcuts_for_arcs facts + 1000 * note.depth
