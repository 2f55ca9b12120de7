-- What a call does that writes a file. `old` and `new` are the writer before and after it. A step is one call of the writer,
-- and `contents` is what it has taken, where that is known.
use Rattle.std.specs.Prelude.{ℕ, List, length, Option, Result, ⊤, IfErr, OnOk}
use Rattle.std.specs.Io.KnownBytes.{Appends}
use Rattle.std.specs.declared.io.Error.{Error}
use Rattle.counted_io.specs.declared.writing.WriteFault.{WriteFault}
use Rattle.counted_io.specs.Limits.{IsWrittenWithin, StopsWithin}
use Rattle.hierfile.specs.Bytes.{Took}

-- A whole file of these bytes was written, or the writer failed, by this many calls of it at most.
pub record WritesFile {S : Type 0} (step : S → S → Result ℕ Error → Type 0) (contents : S → Option (List ℕ)) (most : ℕ) (old new : S) (bytes : List ℕ) (result : Result ⊤ WriteFault) : Type 0 where
  -- the writer took them, and none of the calls failed
  pub ok : OnOk result (Appends (contents old) (contents new) bytes)
  pub calls : OnOk result (IsWrittenWithin step most (length bytes) old new)
  -- it failed, or no call was left, when it had taken the first of them, but not all
  pub err : IfErr result (λ fault. Took (contents old) (contents new) fault.written bytes)
  pub stopped : IfErr result (λ fault. StopsWithin step most fault.written old new)
