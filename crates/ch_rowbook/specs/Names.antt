-- The names of errors, as they are displayed.
use Rattle.std.specs.Prelude.{ℕ, List, codes}
use Rattle.ch_rowbook.specs.declared.error.BookError.{BookError}
use Rattle.ch_rowbook.specs.declared.error.BookError.TheVariants.{OutOfMemory, Slot}

abbrev pub error_name : BookError → List ℕ
error_name OutOfMemory = codes "OutOfMemory"
error_name Slot = codes "Slot"
