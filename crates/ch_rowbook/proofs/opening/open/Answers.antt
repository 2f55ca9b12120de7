use Rattle.std.specs.Prelude.{map}
use Rattle.std.proofs.Common.{subst, sym, arith}
use Rattle.std.specs.Arc.{arc_value}
use Rattle.std.proofs.lemmas.Grind.{common_steps}
use Rattle.ch_laws.specs.Rows.{row_at}
use Rattle.ch_rowbook.specs.Books.{BookName}
use Rattle.ch_overlay.specs.Records.{IsSoundRow}
use Rattle.ch_rowbook.proofs.opening.open.Goals as goal

-- the book's bound is the blank's
pub lay_rows-requires-clause-sound : goal.lay_rows-requires-clause-sound
lay_rows-requires-clause-sound g c =
    λ x h. subst (λ (b : BookName). IsSoundRow b.bound x (row_at (map arc_value c.args.rows.now) x)) (sym c.requires.named) (c.requires.sound x h)

pub returns-in_err-shelf-clause-front : goal.returns-in_err-shelf-clause-front
returns-in_err-shelf-clause-front c = grind (arith, common_steps) steps 600000

pub returns-in_err-current-clause-rows : goal.returns-in_err-current-clause-rows
returns-in_err-current-clause-rows c = grind (arith, common_steps) steps 200000

pub returns-in_err-current-clause-count : goal.returns-in_err-current-clause-count
returns-in_err-current-clause-count c = grind (arith, common_steps) steps 200000
