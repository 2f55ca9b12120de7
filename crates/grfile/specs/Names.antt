-- How refusals are printed.
use Rattle.std.specs.Prelude.{ℕ, List, ◌++◌, codes, decimal}
use Rattle.grfile.specs.declared.error.GrError.{GrError}
use Rattle.grfile.specs.declared.error.GrErrorKind.{GrErrorKind}
use Rattle.grfile.specs.declared.error.GrErrorKind.TheVariants.{OutOfMemory, Read, UnknownLine, NoProblemLine, SecondProblemLine, FieldCount, NotANumber, NodeRange, WeightTooBig, TooManyNodes, TooManyArcs, ArcCount}

-- the variant's name
abbrev pub kind_name : GrErrorKind → List ℕ
kind_name OutOfMemory = codes "OutOfMemory"
kind_name Read = codes "Read"
kind_name UnknownLine = codes "UnknownLine"
kind_name NoProblemLine = codes "NoProblemLine"
kind_name SecondProblemLine = codes "SecondProblemLine"
kind_name FieldCount = codes "FieldCount"
kind_name NotANumber = codes "NotANumber"
kind_name NodeRange = codes "NodeRange"
kind_name WeightTooBig = codes "WeightTooBig"
kind_name TooManyNodes = codes "TooManyNodes"
kind_name TooManyArcs = codes "TooManyArcs"
kind_name ArcCount = codes "ArcCount"

-- KIND line L
abbrev pub error_text : GrError → List ℕ
error_text e = kind_name e.kind ++ codes " line " ++ decimal e.line
