use Rattle.std.specs.Prelude.{ℕ, ◌≡◌, ◌≤◌, List, slice_index}
use Rattle.std.proofs.Common.{◌∙◌, ap, arith}
use Rattle.ch_rowbook.specs.Books.{PenView}
use Rattle.ch_rowbook.proofs.Fronts.{caught_up}
use Rattle.ch_rowbook.proofs.pen.Pen.synchronise.Goals as goal

pub returns-clause-front : goal.returns-clause-front
returns-clause-front g c x less =
    let words = c.self.inside.seat.me.0.versions in
    caught_up c.reader.inside.seat.me.0.versions c.part-front.new.seat.me.0.versions c.part-front.result.me.0.versions words c.part_of_pen-current.result.me.0.versions c.meet.new.seat.me.0.versions x c.part-front.ensures.same c.part-front.ensures.front
    (c.part_of_pen-current.ensures.front ∙ c.join_reader.ensures.same) c.meet.ensures.front c.join_reader.ensures.below
    ∙ c.self.invariant.words x less ∙ ap (λ (p : PenView). slice_index p.versions x) c.self.view_is

pub returns-clause-risen : goal.returns-clause-risen
returns-clause-risen g c x =
    let words = c.self.inside.seat.me.0.versions in
    let new = c.meet.new.seat.me.0.versions in
    let told : slice_index new x ≡ slice_index words x =
    caught_up c.reader.inside.seat.me.0.versions c.part-front.new.seat.me.0.versions c.part-front.result.me.0.versions words c.part_of_pen-current.result.me.0.versions new x c.part-front.ensures.same c.part-front.ensures.front
    (c.part_of_pen-current.ensures.front ∙ c.join_reader.ensures.same) c.meet.ensures.front c.join_reader.ensures.below in
    let under : slice_index c.part-front.result.me.0.versions x ≤ slice_index words x = c.join_reader.ensures.below x in
    let mine : slice_index c.part-front.result.me.0.versions x ≡ slice_index c.args.reader.now x = ap (λ (l : List ℕ). slice_index l x) (c.part-front.ensures.front ∙ c.reader.view_is) in
    omega (arith, told, under, mine)
