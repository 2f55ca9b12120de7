-- The files of hierarchies, and those that were prepared from the text of a graph.
use Rattle.std.specs.Prelude.{ℕ, ◌≡◌, List, Ok}
use Rattle.ch_graph.specs.Graph.{Graph}
use Rattle.ch_graph.specs.declared.version.Version.{Version}
use Rattle.ch_graph.specs.declared.version.Version.TheVariants.{One, Two}
use Rattle.ch_graph.specs.Hierarchy.{Hierarchy, IsWellMade, IsRight}
use Rattle.ch_laws.specs.ByWeight.{IsRightByWeight}
use Rattle.grfile.specs.Reading.{graph_of}
use Rattle.hierfile.specs.Spelling.{bytes_of}

-- the bytes are the file of the hierarchy
pub record Spells (bytes : List ℕ) (h : Hierarchy) : Type 0 where
  pub made : IsWellMade h
  pub spelled : bytes ≡ bytes_of h

-- What is right in a version: in version 2 each value is the distance, and in version 1, whose costs count no arcs, it is as
-- long.
abbrev pub IsRightIn : Version → Graph → Hierarchy → Type 0
IsRightIn One g h = IsRightByWeight g h
IsRightIn Two g h = IsRight g h

-- the bytes are the file of a hierarchy of this version that is right for the graph of the text
pub record PreparesIn (v : Version) (graph_text bytes : List ℕ) : Type 0 where
  pub graph : Graph
  pub hierarchy : Hierarchy
  pub graph_reads : graph_of graph_text ≡ Ok graph
  pub version : hierarchy.version ≡ v
  pub right : IsRightIn v graph hierarchy
  pub spells : Spells bytes hierarchy
