-- What is printed of a hierarchy file.
use Rattle.std.specs.Prelude.{ℕ, ◌≡◌, List, [], ◌++◌, length, codes, decimal, Option, IfSome, Some, false}
use Rattle.std.specs.Io.KnownBytes.{Keeps}
use Rattle.ch_cost.specs.Cost.{length_of}
use Rattle.ch_graph.specs.Hierarchy.{Hierarchy, IsWellMade, version_number}
use Rattle.hierfile.specs.Spelling.{bytes_of}
use Rattle.hierfile.specs.Fault.{first_fault}
use Rattle.outcomes.specs.Written.{OfResource}
use Rattle.outcomes.specs.declared.cause.Cause.{Cause}
use Rattle.outcomes.specs.declared.cause.Cause.TheVariants.{Hierarchy as HierarchyFault}
use Rattle.outcomes.specs.declared.cause.Input.TheVariants as inputs

-- a line with a name and a number in decimals
abbrev pub fact : List ℕ → List ℕ → List ℕ
fact name number = name ++ codes " " ++ number ++ codes "\n"

-- the version of a hierarchy, how many nodes and links it has, its bound, and how many bytes its file has
abbrev pub info : Hierarchy → List ℕ
info h = fact (codes "version") (decimal (version_number h.version)) ++ fact (codes "nodes") (decimal (length h.ranks)) ++ fact (codes "links") (decimal (length h.links)) ++ fact (codes "bound") (decimal (length_of h.bound)) ++ fact (codes "bytes") (decimal (length (bytes_of h)))

-- the bytes are the file of a hierarchy, and the text is what is printed of it
pub record Informs (bytes text : List ℕ) : Type 0 where
  pub hierarchy : Hierarchy
  pub made : IsWellMade hierarchy
  pub spelled : bytes ≡ bytes_of hierarchy
  pub tells : text ≡ info hierarchy

-- where it isn't printed: a refused file has the first fault of its bytes, and nothing is written
abbrev pub RefusesInfo : Option (List ℕ) → Option (List ℕ) → Option (List ℕ) → Cause → Type 0
RefusesInfo file old new (HierarchyFault e) = IfSome file (λ bytes. first_fault bytes ≡ Some e) × Keeps old new
RefusesInfo file old new cause = OfResource false (λ input. input ≡ inputs.Hierarchy) file (Some []) (λ bytes none. Informs bytes) old new cause
