-- When the accounts of passes agree with what is left in a queue.
use Rattle.std.specs.Prelude.{List, ◌++◌, flat_map, IsPermutation}
use Rattle.ch_multiqueue.specs.declared.item.Item.{Item}
use Rattle.ch_multiqueue.specs.Passes.{Pass}

-- all that was put through these passes
abbrev pub all_put : List Pass → List Item
all_put passes = flat_map (λ (p : Pass). p.put) passes

-- all that was taken through them
abbrev pub all_taken : List Pass → List Item
all_taken passes = flat_map (λ (p : Pass). p.taken) passes

-- each item was put as often as it was taken or is left
abbrev pub AreBalanced : List Pass → List Item → Type 0
AreBalanced passes left = IsPermutation (all_put passes) (all_taken passes ++ left)
