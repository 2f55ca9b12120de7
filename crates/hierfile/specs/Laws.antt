-- What is true of spellings.
use Rattle.std.specs.Prelude.{ℕ, ◌≡◌, ◌^◌, ◌<◌, List, None, All}
use Rattle.ch_graph.specs.Hierarchy.{Hierarchy, IsWellMade}
use Rattle.hierfile.specs.Spelling.{bytes_of}
use Rattle.hierfile.specs.Fault.{first_fault}

-- Two well made hierarchies are the same where their spellings are. So no file of one version is one of the other.
abbrev pub HierarchiesHaveOneSpelling : Type 0
HierarchiesHaveOneSpelling = (g h : Hierarchy) → IsWellMade g → IsWellMade h → bytes_of g ≡ bytes_of h → g ≡ h

-- the spelling of a well made hierarchy has no fault
abbrev pub SpellingsHaveNoFault : Type 0
SpellingsHaveNoFault = (h : Hierarchy) → IsWellMade h → first_fault (bytes_of h) ≡ None

-- bytes that spell a well made hierarchy, of either version
abbrev pub IsSpelling : List ℕ → Type 0
IsSpelling bytes = (h : Hierarchy) × IsWellMade h × (bytes ≡ bytes_of h)

-- bytes without a fault spell one
abbrev pub FaultlessBytesAreSpellings : Type 0
FaultlessBytesAreSpellings = (bytes : List ℕ) → All (λ b. b < 2 ^ 8) bytes → first_fault bytes ≡ None → IsSpelling bytes
