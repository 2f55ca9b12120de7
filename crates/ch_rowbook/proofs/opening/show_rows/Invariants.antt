use Rattle.std.proofs.Common.{ℕ, ◌≡◌, ◌<◌, ◌≤◌, slice_index}
use Rattle.ch_rowbook.specs.Books.{IsPenSeat, versions_of}
use Rattle.ch_rowbook.proofs.opening.show_rows.Given as goal

-- the words so far are stored, and the others are 0
abbrev pub invariant-loop-node : goal.invariant-loop-node
invariant-loop-node g l =
    IsPenSeat g.B.Book.book l.seat
    × ((x : ℕ) → x < l.node → slice_index l.seat.me.0.versions x ≡ slice_index (versions_of l.current) x)
    × ((x : ℕ) → l.node ≤ x → slice_index l.seat.me.0.versions x ≡ 0)
