use Rattle.std.proofs.Common.{◌∙◌, length, ap, arith}
use Rattle.std.specs.List.{filter}
use Rattle.text_lines.specs.Fields.{is_field}
use Rattle.text_lines.proofs.PiecesOfPieces.{next_word}
use Rattle.text_lines.proofs.fields.Fields.next_field.Goals as goal

pub loop-part-smaller-in-Some-next : goal.loop-part-smaller-in-Some-next
loop-part-smaller-in-Some-next c =
    let same = next_word _ _ _ _ _ c.in-None.ensures.steps.0 c.in-Some-next.ensures.steps c.split_str.ensures.value in
    omega (arith, ap length same, ap length c.in-Some-next.ensures.steps)

pub loop-part-preserved-in-Some-next : goal.loop-part-preserved-in-Some-next
loop-part-preserved-in-Some-next c =
    ap (filter is_field) (next_word _ _ _ _ _ c.in-None.ensures.steps.0 c.in-Some-next.ensures.steps c.split_str.ensures.value) ∙ c.loop-part.invariant

pub loop-part-smaller : goal.loop-part-smaller
loop-part-smaller c =
    let same = next_word _ _ _ _ _ c.in-None.ensures.steps.0 c.in-Some-next.ensures.steps c.split_str.ensures.value in
    omega (arith, ap length same, ap length c.in-Some-next.ensures.steps)

pub loop-part-preserved : goal.loop-part-preserved
loop-part-preserved c =
    ap (filter is_field) (next_word _ _ _ _ _ c.in-None.ensures.steps.0 c.in-Some-next.ensures.steps c.split_str.ensures.value) ∙ c.loop-part.invariant
