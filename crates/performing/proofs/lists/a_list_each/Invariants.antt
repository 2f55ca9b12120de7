use Rattle.std.proofs.Common.{◌≡◌, All, vec_len, Ok}
use Rattle.ch_estimate.specs.Leases.{CountId}
use Rattle.std.specs.List.{AllZip}
use Rattle.performing.proofs.lists.a_list_each.Given as goal

abbrev pub invariant-lists : goal.invariant-lists
invariant-lists g l = (vec_len l.lists ≡ l.counter) × All (λ list. AllZip (λ order thing. (lease : CountId) × goal.F-post g l.make order lease (Ok thing)) l.orders list.items) l.lists.items
