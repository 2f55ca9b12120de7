-- What a refusal comes of, its line and its status.
use Rattle.std.specs.Prelude.{ℕ, List, ◌++◌, codes}
use Rattle.grfile.specs.Names.{error_text}
use Rattle.grfile.specs.declared.error.GrError.{GrError}
use Rattle.grfile.specs.declared.error.GrErrorKind.{GrErrorKind}
use Rattle.grfile.specs.declared.error.GrErrorKind.TheVariants as kinds
use Rattle.hierfile.specs.Names.{error_name}
use Rattle.hierfile.specs.declared.error.HierError.{HierError}
use Rattle.hierfile.specs.declared.error.HierError.TheVariants as faults
use Rattle.grfile.specs.Outcome.{FromText}
use Rattle.hierfile.specs.Bytes.{OfBytes}
use Rattle.outcomes.specs.declared.cause.Cause.{Cause}
use Rattle.outcomes.specs.declared.cause.Cause.TheVariants.{Graph, Queries, Hierarchy, OldVersion, TooLong, Memory, Read, Write, Flush, Options, Mixed}
use Rattle.outcomes.specs.declared.cause.Input.{Input}
use Rattle.outcomes.specs.declared.cause.Input.TheVariants as inputs
use Rattle.outcomes.specs.declared.cause.Cause.TheVariants as causes

-- What a refusal comes of, how that is shown, and the status that it has.

-- out of memory and a failed read are no faults of the text that they came with
abbrev pub of_text : GrErrorKind → Input → Cause → Cause
of_text kinds.OutOfMemory input own = Memory
of_text kinds.Read input own = Read input
of_text kind input own = own

abbrev pub of_graph : GrError → Cause
of_graph fault = of_text fault.kind inputs.Graph (Graph fault)

abbrev pub of_queries : GrError → Cause
of_queries fault = of_text fault.kind inputs.Queries (Queries fault)

-- nor of the file
abbrev pub of_hierarchy : HierError → Cause
of_hierarchy faults.OutOfMemory = Memory
of_hierarchy faults.Read = Read inputs.Hierarchy
of_hierarchy fault = Hierarchy fault

-- one line, without its end
abbrev pub shown : Cause → List ℕ
shown (Graph fault) = codes "graph: " ++ error_text fault
shown (Queries fault) = codes "queries: " ++ error_text fault
shown (Hierarchy fault) = codes "hierarchy: " ++ error_name fault
shown OldVersion = codes "hierarchy: OldVersion"
shown TooLong = codes "hierarchy: TooLong"
shown Memory = codes "memory"
shown (Read input) = codes "read"
shown (Write fault) = codes "write"
shown Flush = codes "write"
shown Options = codes "options"
shown Mixed = codes "mixed"

abbrev pub status_of : Cause → ℕ
status_of Options = 2
status_of (Graph fault) = 3
status_of (Hierarchy fault) = 4
status_of OldVersion = 4
status_of TooLong = 4
status_of (Queries fault) = 5
status_of Memory = 6
status_of (Read input) = 7
status_of (Write fault) = 7
status_of Flush = 7
status_of Mixed = 8

-- A fault that was met in reading is one of the input's own, or out of memory, or a failed read.

-- of a text
pub text_case : (kind : GrErrorKind) (input : Input) (own : Cause) (P : Cause → Type 0) → P causes.Memory → P (causes.Read input) → (((F : Type 0) → FromText kind F → F) → P own) → P (of_text kind input own)
text_case kinds.OutOfMemory input own P memory read other = memory
text_case kinds.Read input own P memory read other = read
text_case kind input own P memory read other = other (λ F f. f)

-- and of a hierarchy's file
pub file_case : (e : HierError) (P : Cause → Type 0) → P causes.Memory → P (causes.Read inputs.Hierarchy) → (((F : Type 0) → OfBytes e F → F) → P (causes.Hierarchy e)) → P (of_hierarchy e)
file_case faults.OutOfMemory P memory read other = memory
file_case faults.Read P memory read other = read
file_case e P memory read other = other (λ F f. f)
