-- How failures are printed.
use Rattle.std.specs.Prelude.{ℕ, List, ◌++◌, codes, decimal}
use Rattle.counted_io.specs.declared.writing.WriteFault.{WriteFault}

-- the writer failed after N bytes
abbrev pub fault_text : WriteFault → List ℕ
fault_text fault = codes "the writer failed after " ++ decimal fault.written ++ codes " bytes"
