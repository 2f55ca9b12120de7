use Rattle.std.proofs.Common.{◌≡◌, length, take}
use Rattle.hierfile.specs.Taken.{AreMarksOf}
use Rattle.hierfile.proofs.taken.marks_of.Given as goal

abbrev pub invariant-ranks : goal.invariant-ranks
invariant-ranks l =
    record {
      count : length l.marks.items ≡ l.nodes;
      marks : AreMarksOf (take l.rank-index l.ranks) l.marks.items;
    }
