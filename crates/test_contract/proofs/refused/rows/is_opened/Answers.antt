use Rattle.std.specs.Prelude.{map}
use Rattle.std.proofs.Common.{subst, sym}
use Rattle.std.specs.Arc.{arc_value}
use Rattle.ch_cost.specs.declared.cost.Cost.{Cost}
use Rattle.ch_overlay.specs.Records.{AreSoundRows}
use Rattle.test_contract.proofs.refused.rows.is_opened.Goals as goal

-- the blank's bound is the one that the rows were looked at with
pub is_kept-requires-clause-sound : goal.is_kept-requires-clause-sound
is_kept-requires-clause-sound g c =
    subst (λ (b : Cost). AreSoundRows b (map arc_value c.args.rows.now)) (sym c.in_ok-blank.ensures.1) (c.are_sound.ensures c.if-not-are_sound.false)
