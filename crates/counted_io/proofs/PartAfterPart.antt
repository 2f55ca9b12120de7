-- Bytes that a reader gives, one part after the other.
use Rattle.std.proofs.Common.{ℕ, List, [], ◌++◌, Option, ap, sym, ◌≡◌, ◌∙◌}
use Rattle.std.proofs.KnownBytes.{Consumes-nil, Consumes-trans}
use Rattle.std.proofs.lemmas.List.{append_assoc, append-nil}
use Rattle.counted_io.specs.Handing.{Gathers}
use Rattle.counted_io.specs.declared.whole.WholeFault.TheVariants.{OutOfMemory, Read}

pub memory_no_read : OutOfMemory ≡ Read → ⊥
memory_no_read is = cc

pub gathers_none : (had : Option (List ℕ)) (text : List ℕ) → Gathers had had text text
gathers_none had text = record { bytes = []; is = sym (append-nil text); consumed = Consumes-nil had }

pub gathers_then : {had mid left : Option (List ℕ)} {first next last : List ℕ} → Gathers had mid first next → Gathers mid left next last → Gathers had left first last
gathers_then {had} {mid} {left} {first} h k = record {
  bytes = h.bytes ++ k.bytes;
  is = k.is ∙ ap (λ (text : List ℕ). text ++ k.bytes) h.is ∙ append_assoc first h.bytes k.bytes;
  consumed = Consumes-trans had mid left h.bytes k.bytes h.consumed k.consumed;
}
