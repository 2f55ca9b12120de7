use Rattle.std.proofs.Common.{◌≡◌, ◌+◌, ◌++◌, length, eqb}
use Rattle.std.specs.List.{slice_split, flat_map, filter}
use Rattle.text_lines.specs.Fields.{is_field}
use Rattle.text_lines.proofs.fields.Fields.next_field.Given as goal

abbrev pub invariant-loop-part : goal.invariant-loop-part
invariant-loop-part l =
    filter is_field (l.self-inside.parts ++ flat_map (slice_split (λ b. eqb b 9)) l.self-inside.words) ≡ l.fn.self

abbrev pub decreases-loop-part : goal.decreases-loop-part
decreases-loop-part l =
    length (l.self-inside.parts ++ flat_map (slice_split (λ b. eqb b 9)) l.self-inside.words) + length l.self-inside.words
