-- What a handle answers whose hierarchy was turned when it was opened.
use Rattle.std.specs.Prelude.{ℕ, ◌≡◌, ◌^◌, ◌≤◌, List, [], ◌∷◌, Option, Some, None}
use Rattle.ch_graph.specs.Graph.{Graph, IsLeastLength}
use Rattle.ch_graph.specs.Hierarchy.{Hierarchy, IsWellMade}
use Rattle.ch_query.specs.declared.seed.Seed.{Seed}
use Rattle.ch_query.specs.Ways.{free}
use Rattle.ch_route.specs.Between.{IsLeastLengthBetween, IsLeastLengthWithin}
use Rattle.ch_route.specs.Routes.{or_none as or_no_length}
use Rattle.ch_turned.specs.Turned.{IsTurned, turned_graph}
use Rattle.hierfile.specs.Bytes.{OfBytes}
use Rattle.hierfile.specs.Fault.{first_fault}
use Rattle.hierfile.specs.Spelling.{bytes_of}
use Rattle.hierfile.specs.declared.error.HierError.{HierError}
use Rattle.domethyme_c.specs.Answers.{AnswersOver, IsLength, IsReached}
use Rattle.domethyme_c.specs.Codes.{fault_code}
use Rattle.domethyme_c.specs.declared.code.TheConstants.{OK, NO_LENGTH}

-- the hierarchy is that of the bytes, turned
pub record IsTurnedFile (bytes : List ℕ) (t : Hierarchy) : Type 0 where
  pub hierarchy : Hierarchy
  pub made : IsWellMade hierarchy
  pub spelled : bytes ≡ bytes_of hierarchy
  pub turned : IsTurned hierarchy t

-- the handle has the hierarchy of the bytes, turned, or the bytes have this first fault and the handle is closed
pub data IsOpenedTurned (bytes : List ℕ) (code : ℕ) (held : Option Hierarchy) : Type 0 where
  opened : code ≡ OK → (t : Hierarchy) → held ≡ Some t → IsTurnedFile bytes t → IsOpenedTurned bytes code held
  refused : (e : HierError) → code ≡ fault_code e → OfBytes e (first_fault bytes ≡ Some e) → held ≡ None → IsOpenedTurned bytes code held

-- What each call says by the turned hierarchy of its handle is so in the graph with each arc turned. So in the graph itself
-- what it says of lengths from a node is so of lengths to it, and of lengths from several starts, of those to several ends.
pub record AnswersTowards (g : Graph) (t : Hierarchy) : Type 0 where
  pub turned : AnswersOver (turned_graph g) t
  pub lengths : (to from : ℕ) (n : Option ℕ) → IsLength t to from n → IsLeastLength g from to n
  pub within : (ends : List Seed) (limit node n : ℕ) → limit ≤ 2 ^ 62 → IsReached t ends limit node n → (m : Option ℕ) × IsLeastLengthWithin g (free node ∷ []) ends limit m × (n ≡ or_no_length m)
  pub unlimited : (ends : List Seed) (node n : ℕ) → IsReached t ends NO_LENGTH node n → (m : Option ℕ) × IsLeastLengthBetween g (free node ∷ []) ends m × (n ≡ or_no_length m)
