-- The codes of faults of a hierarchy file, which the header has too.
use Rattle.std.specs.Prelude.{ℕ}
use Rattle.ch_sums.specs.declared.error.NumbersError.{NumbersError}
use Rattle.ch_sums.specs.declared.error.NumbersError.TheVariants.{OutOfMemory as NoMemory, Count, TooGreat}
use Rattle.hierfile.specs.declared.error.HierError.{HierError}
use Rattle.hierfile.specs.declared.error.HierError.TheVariants.{OutOfMemory, Read, BadMagic, Truncated, TooBig, BoundTooBig, RankRange, RankTwice, LinkEnds, LinkOrder, LinkWeight, MiddleRange, MiddleRank, HalfMissing, HalfSum, Trailing}

abbrev pub fault_code : HierError → ℕ
fault_code OutOfMemory = 5
fault_code Read = 34
fault_code BadMagic = 35
fault_code Truncated = 36
fault_code TooBig = 37
fault_code BoundTooBig = 38
fault_code RankRange = 39
fault_code RankTwice = 40
fault_code LinkEnds = 41
fault_code LinkOrder = 42
fault_code LinkWeight = 43
fault_code MiddleRange = 44
fault_code MiddleRank = 45
fault_code HalfMissing = 46
fault_code HalfSum = 47
fault_code Trailing = 48

abbrev pub numbers_code : NumbersError → ℕ
numbers_code NoMemory = 5
numbers_code Count = 9
numbers_code TooGreat = 10
