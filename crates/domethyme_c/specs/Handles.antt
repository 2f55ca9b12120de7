-- What a handle owns.
use Rattle.std.specs.Prelude.{Option, Some, None}
use base.Fml.{Fml, feq}
use denote.RawPtr.{Ptr, null_ptr}
use Rattle.std_alloc.specs.Box.Ownership.{box_owns}
use Rattle.std.specs.contracts.impls.GlobalAllocator.TheImpl.{ghosts}
use Rattle.std_heap.specs.declared.Global.{Global}
use Rattle.core.specs.contracts.mem.manually_drop.ManuallyDrop as kept
use Rattle.ch_graph.specs.Hierarchy.{Hierarchy}
use Rattle.domethyme_c.specs.contracts.engine.Engine.{the_row}

-- an engine of the hierarchy on the heap, with the right to free it; or nothing, and the pointer is null
abbrev pub holds : Global → Ptr → Option Hierarchy → Fml
holds alloc p (Some h) = box_owns (ghosts.dealloc_token alloc) (kept.the_row the_row) p (record { value = h })
holds alloc p None = feq Ptr p null_ptr
