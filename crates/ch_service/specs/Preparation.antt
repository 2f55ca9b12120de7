-- What a call says that prepares a hierarchy.
use Rattle.std.specs.Prelude.{ℕ, ◌≡◌, ◌↔◌, ⊤, List, Option, IfSome, Result, Err, IfErr, OnOk}
use Rattle.std.specs.Io.KnownBytes.{Keeps}
use Rattle.grfile.specs.Outcome.{FromText}
use Rattle.grfile.specs.Reading.{graph_of}
use Rattle.grfile.specs.Taken.{StopsAtReached}
use Rattle.ch_workers.specs.Options.{AreBad, AreGood}
use Rattle.ch_workers.specs.declared.error.BuildError.TheVariants.{BadOptions}
use Rattle.ch_workers.specs.declared.options.Options.{Options}
use Rattle.ch_service.specs.Outcome.{Writes, WritesFirst, IsGraphText}
use Rattle.ch_service.specs.Answer.{Prepares}
use Rattle.ch_service.specs.declared.error.ServiceError.{ServiceError}
use Rattle.ch_service.specs.declared.error.ServiceError.TheVariants.{Graph, Build, Write}

-- By the options and the number of lists; of the graph's text, which the reader had, of what it has left, and of what the writer
-- had before and has now. A fault of the text is its first, and has the line that was reached. The build is refused only where
-- the text is read. Nothing is written then. A write fails only behind the build, and behind the first bytes of such a file.
module _ (o : Options) (lists : ℕ) (graph left old new : Option (List ℕ)) where
  abbrev pub StopsPreparing : ServiceError → Type 0
  StopsPreparing (Graph fault) = IfSome graph (λ text. FromText fault.kind (graph_of text ≡ Err fault)) × StopsAtReached graph left fault × Keeps old new
  StopsPreparing (Build e) = ((e ≡ BadOptions) ↔ AreBad o lists) × IfSome graph IsGraphText × Keeps old new
  StopsPreparing (Write fault) = AreGood o lists × IfSome graph (λ text. WritesFirst (Prepares text) old new fault.written)
  StopsPreparing e = ⊥

-- the same, by its result
pub record IsPreparation (r : Result ⊤ ServiceError) (o : Options) (lists : ℕ) (graph left old new : Option (List ℕ)) : Type 0 where
  pub prepares : OnOk r (IfSome graph (λ text. Writes (Prepares text) old new))
  pub good : OnOk r (AreGood o lists)
  pub refused : IfErr r (StopsPreparing o lists graph left old new)
