-- What is known of the bytes of a reader and of a writer on the way.
use Rattle.std.specs.Prelude.{ℕ, ◌≡◌, ◌≢◌, ◌-◌, take, ◌^◌, ◌<◌, ◌≤◌, List, ◌++◌, length, Option, Some, None, IfSome, MatchOption, ◌⊎◌, Result, Ok, Err}
use Rattle.std.specs.Io.KnownBytes.{Appends, prepend_known}
use Rattle.ch_cost.specs.Cost.{length_of, arcs_of}
use Rattle.ch_graph.specs.declared.link.Link.{Link}
use Rattle.ch_graph.specs.declared.version.Version.{Version}
use Rattle.ch_graph.specs.declared.version.Version.TheVariants.{One, Two}
use Rattle.ch_graph.specs.Hierarchy.{Hierarchy}
use Rattle.hierfile.specs.declared.error.HierError.{HierError}
use Rattle.hierfile.specs.declared.error.HierError.TheVariants.{OutOfMemory, Read, Truncated, HalfMissing, HalfSum}

-- the bytes that are still to come: those that wait in the buffer, and then the reader's
abbrev pub coming : List ℕ → Option (List ℕ) → Option (List ℕ)
coming waiting remaining = prepend_known waiting remaining

-- OutOfMemory and Read say nothing of the bytes; each other refusal is a fault of theirs
abbrev pub OfBytes : HierError → Type 0 → Type 0
OfBytes OutOfMemory P = Unit {0}
OfBytes Read P = Unit {0}
OfBytes e P = P

-- a refusal that says nothing of the bytes: OutOfMemory or Read
abbrev pub SaysNothing : HierError → Type 0
SaysNothing e = OfBytes e ⊥

-- a refusal is the fault that the coming bytes have, where they are known
abbrev pub IsFaultOf : (List ℕ → Option HierError) → Option (List ℕ) → HierError → Type 0
IsFaultOf fault_of bytes e = OfBytes e (IfSome bytes (λ known. fault_of known ≡ Some e))

-- these bytes have this fault alone, that they end too early
abbrev pub IsCut : (List ℕ → Option HierError) → List ℕ → Type 0
IsCut fault_of bytes = fault_of bytes ≡ Some Truncated

-- or they have none
abbrev pub HasNoneSoFar : (List ℕ → Option HierError) → List ℕ → Type 0
HasNoneSoFar fault_of bytes = IsCut fault_of bytes ⊎ (fault_of bytes ≡ None)

-- or they have one of the halves of a link, which are tested when all links have come
abbrev pub HasNoneButHalves : (List ℕ → Option HierError) → List ℕ → Type 0
HasNoneButHalves fault_of bytes = HasNoneSoFar fault_of bytes ⊎ (fault_of bytes ≡ Some HalfMissing) ⊎ (fault_of bytes ≡ Some HalfSum)

-- they end too early, or they are this many, which is all that was wanted, and have no fault
abbrev pub IsCutOrWhole : ℕ → (List ℕ → Option HierError) → List ℕ → Type 0
IsCutOrWhole count fault_of bytes = IsCut fault_of bytes ⊎ (length bytes ≡ count) × (fault_of bytes ≡ None)

-- The bytes that came are such: of those that were to come, where they are known, all that the reader has not left.
abbrev pub StopsWhere : (List ℕ → Type 0) → Option (List ℕ) → Option (List ℕ) → Type 0
StopsWhere came had left = IfSome had (λ bytes. MatchOption left ⊥ (λ rest. (front : List ℕ) × (front ++ rest ≡ bytes) × came front))

-- The first of these bytes are such. The others were read ahead, and are no more than the buffer holds.
abbrev pub ButReadAhead : (List ℕ → Type 0) → List ℕ → Type 0
ButReadAhead tested bytes = (front : List ℕ) × (ahead : List ℕ) × (front ++ ahead ≡ bytes) × (length ahead ≤ 2 ^ 16) × tested front

-- a test returns this fault, or none; it reads nothing, so Read is no fault of a test
abbrev pub Tells : {X : Type 0} → Result X HierError → Option HierError → Type 0
Tells (Ok x) fault = fault ≡ None
Tells (Err e) fault = (fault ≡ Some e) × (e ≢ Read)

-- no fault at the places below n
abbrev pub NoneBelow : ℕ → (ℕ → Option HierError) → Type 0
NoneBelow n fault_at = (k : ℕ) → k < n → fault_at k ≡ None

-- this many arcs fit the bytes that they have in a version, where version 1 has none
abbrev pub AreTold : Version → ℕ → Type 0
AreTold One n = n ≡ 0
AreTold Two n = n < 2 ^ 32

-- a link whose numbers fit their bytes
pub record IsWritable (v : Version) (l : Link) : Type 0 where
  pub from : l.from < 2 ^ 32
  pub to : l.to < 2 ^ 32
  pub cost : length_of l.cost < 2 ^ 64
  pub arcs : AreTold v (arcs_of l.cost)
  pub middle : IfSome l.middle (λ m. m < 2 ^ 32 - 1)

-- a hierarchy of a version, of this many nodes and links, with a bound of this length
pub record IsBodyOf (h : Hierarchy) (v : Version) (nodes count longest : ℕ) : Type 0 where
  pub version : h.version ≡ v
  pub ranks : length h.ranks ≡ nodes
  pub links : length h.links ≡ count
  pub bound : length_of h.bound ≡ longest

-- bytes of a reader that wait in a buffer, and how often it may still be called
pub record Buffered : Type 0 where
  pub waiting : List ℕ
  pub left : ℕ

-- no more bytes wait than the buffer holds
abbrev pub Fits : Buffered → Type 0
Fits input = length input.waiting ≤ 2 ^ 16

-- the writer took this many of the bytes, from the first on, but not all
abbrev pub Took : Option (List ℕ) → Option (List ℕ) → ℕ → List ℕ → Type 0
Took old new written bytes = (written < length bytes) × Appends old new (take written bytes)
