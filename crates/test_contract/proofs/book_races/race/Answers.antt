use Rattle.std.specs.Prelude.{map}
use Rattle.std.proofs.Common.{subst, sym}
use Rattle.std.specs.Arc.{arc_value}
use Rattle.ch_cost.specs.declared.cost.Cost.{Cost}
use Rattle.ch_overlay.specs.Records.{AreSoundRows}
use Rattle.test_contract.proofs.book_races.race.Goals as goal

-- the blank's bound is the one that the rows were looked at with
pub open-requires-clause-sound : goal.open-requires-clause-sound
open-requires-clause-sound g c =
    subst (λ (b : Cost). AreSoundRows b (map arc_value c.args.rows.now)) (sym c.requires.limit) (c.are_sound.ensures c.if-not-are_sound.false)
