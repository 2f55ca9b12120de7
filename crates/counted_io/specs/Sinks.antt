-- A sink, which gathers bytes for a writer, and what a call does that puts bytes into one. `was` and `now` are the sink before
-- and after the call, `old` and `new` the writer. A step is one call of the writer, and `contents` is what it has taken, where
-- that is known.
use Rattle.std.specs.Prelude.{ℕ, ◌≡◌, ◌<◌, Bool, List, [], ◌++◌, length, take, Option, None, Some, is_some, Result, ⊤, IfErr, OnOk}
use Rattle.std.specs.Io.KnownBytes.{Appends}
use Rattle.std.specs.declared.io.Error.{Error}
use Rattle.counted_io.specs.declared.writing.WriteFault.{WriteFault}
use Rattle.counted_io.specs.Handing.{HandsOn}
use Rattle.counted_io.specs.Limits.{IsWritten, IsWrittenWithin, StopsWithin}
pub mod Laws

-- A sink: the bytes that wait for the writer, how many it has taken, how often it may still be called, and how it failed.
pub record Gathered : Type 0 where
  pub waiting : List ℕ
  pub written : ℕ
  pub left : ℕ
  pub fault : Option WriteFault

-- a sink of which nothing waits
abbrev pub none_waits : ℕ → ℕ → Option WriteFault → Gathered
none_waits written left fault = record { waiting = []; written = written; left = left; fault = fault }

-- a sink into which nothing was put yet, whose writer may be called this often
abbrev pub nothing_put : ℕ → Gathered
nothing_put most = none_waits 0 most None

-- the writer has failed, so the sink passes nothing on any more
abbrev pub has_failed : Gathered → Bool
has_failed sink = is_some sink.fault

-- The writer took the first of these bytes, and the rest is what follows them. `made` says which calls took so many.
pub record Passes (old new : Option (List ℕ)) (bytes rest : List ℕ) (before after : ℕ) (made : ℕ → Type 0) : Type 0 where
  pub handed : HandsOn old new bytes rest before after
  pub calls : made (length handed.taken)

module _ {S : Type 0} (step : S → S → Result ℕ Error → Type 0) (contents : S → Option (List ℕ)) where
  -- How a sink goes on that had failed or not, and has failed now or not, where these bytes waited or were put.
  abbrev pub PutsBy : Gathered → Gathered → S → S → List ℕ → Option WriteFault → Option WriteFault → Type 0
  -- the writer took the first of them, and the rest waits
  PutsBy was now old new bytes None None = Passes (contents old) (contents new) bytes now.waiting was.written now.written (λ taken. IsWritten step was.left now.left taken old new)
  -- the writer failed, or no call of it was left, when it had taken the first of them, but not all
  PutsBy was now old new bytes None (Some fault) = (rest : List ℕ) × (0 < length rest) × Passes (contents old) (contents new) bytes rest was.written fault.written (λ taken. StopsWithin step was.left taken old new)
  -- a sink that had failed stays so, with its failure, and the writer isn't called
  PutsBy was now old new bytes (Some first) None = ⊥
  PutsBy was now old new bytes (Some first) (Some fault) = (fault ≡ first) × (new ≡ old)

  -- These bytes were put into the sink, behind those that waited. It keeps a failure of its writer.
  pub record Puts (was now : Gathered) (old new : S) (bytes : List ℕ) : Type 0 where
    pub all : PutsBy was now old new (was.waiting ++ bytes) was.fault now.fault

  -- Such bytes were put into the sink.
  pub record PutsSome (Is : List ℕ → Type 0) (was now : Gathered) (old new : S) : Type 0 where
    pub bytes : List ℕ
    pub is : Is bytes
    pub puts : Puts was now old new bytes

  -- What waited was passed to the writer. The result is how the sink failed, in this call or before it; where it has not
  -- failed, the writer has taken all that was put.
  pub record Finishes (was now : Gathered) (old new : S) (result : Result ⊤ WriteFault) : Type 0 where
    pub puts : Puts was now old new []
    pub ok : OnOk result ((now.fault ≡ None) × (now.waiting ≡ []))
    pub err : IfErr result (λ fault. now.fault ≡ Some fault)

  -- All of these bytes were written by this many calls of the writer at most, or it failed.
  pub record WritesAll (most : ℕ) (old new : S) (bytes : List ℕ) (result : Result ⊤ WriteFault) : Type 0 where
    -- the writer took them, and none of the calls failed
    pub ok : OnOk result (Appends (contents old) (contents new) bytes)
    pub calls : OnOk result (IsWrittenWithin step most (length bytes) old new)
    -- it failed, or no call was left, when it had taken the first of them, but not all
    pub err : IfErr result (λ fault. (fault.written < length bytes) × Appends (contents old) (contents new) (take fault.written bytes))
    pub stopped : IfErr result (λ fault. StopsWithin step most fault.written old new)
