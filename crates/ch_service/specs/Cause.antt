-- What a refusal comes of.
use Rattle.outcomes.specs.Causes.{of_graph, of_hierarchy, of_queries}
use Rattle.outcomes.specs.declared.cause.Cause.{Cause}
use Rattle.outcomes.specs.declared.cause.Cause.TheVariants.{TooLong, Memory, Write, Options, Mixed}
use Rattle.ch_unpack.specs.declared.error.UnpackError.TheVariants as unpacking
use Rattle.ch_workers.specs.declared.error.BuildError.TheVariants as building
use Rattle.ch_service.specs.declared.error.ServiceError.{ServiceError}
use Rattle.ch_service.specs.declared.error.ServiceError.TheVariants as refusals

abbrev pub cause_of : ServiceError → Cause
cause_of (refusals.Graph fault) = of_graph fault
cause_of (refusals.Queries fault) = of_queries fault
cause_of (refusals.Hierarchy fault) = of_hierarchy fault
cause_of (refusals.Build building.OutOfMemory) = Memory
cause_of (refusals.Build building.BadOptions) = Options
cause_of (refusals.Build building.Mixed) = Mixed
cause_of (refusals.Unpack unpacking.OutOfMemory) = Memory
cause_of (refusals.Unpack unpacking.TooLong) = TooLong
cause_of (refusals.Write fault) = Write fault
cause_of refusals.OutOfMemory = Memory
