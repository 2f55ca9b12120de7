use Rattle.std.proofs.Common.{◌≡◌, drop, map}
use Rattle.std.specs.List.{zip}
use Rattle.ch_overlay.specs.Change.{puts}
use Rattle.ch_overlay.proofs.change.put_versions.Given as goal

abbrev pub invariant-loop-i : goal.invariant-loop-i
invariant-loop-i l = puts l.all (zip (map (λ a. a.0) (drop l.i l.changed)) (drop l.i l.versions)) ≡ puts l.initial.all (zip (map (λ a. a.0) l.changed) l.versions)
