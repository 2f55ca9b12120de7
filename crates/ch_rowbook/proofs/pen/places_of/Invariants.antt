use Rattle.std.proofs.Common.{◌≡◌, take}
use Rattle.ch_rowbook.specs.Books.{versions_of}
use Rattle.ch_rowbook.proofs.pen.places_of.Given as goal

-- the places of the first records
abbrev pub invariant-tokens : goal.invariant-tokens
invariant-tokens l = l.places.items ≡ versions_of (take l.at l.tokens)
