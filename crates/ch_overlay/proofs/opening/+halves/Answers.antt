use Rattle.std.proofs.Common.{map, arith, sym, ◌∙◌, ap, subst, List}
use Rattle.std.specs.Arc.{arc_value}
use Rattle.std.proofs.lemmas.List.{map-append}
use Rattle.std.proofs.lemmas.Result.{IfOk-at_ok}
use Rattle.ch_laws.specs.Rows.{Row}
use Rattle.ch_overlay.specs.Opening.{AreOpening}
use Rattle.ch_overlay.proofs.OpeningRows.{opens_both}
use Rattle.ch_overlay.proofs.opening.+halves.Goals as goal

pub returns : goal.returns
returns g t c =
    let arcs = c.args.arcs.now in
    let first = IfOk-at_ok (λ all. AreOpening arcs c.args.from _ (map arc_value all.items)) c.in_ok-all.was c.join-first.ensures.first in
    let second = IfOk-at_ok (λ all. AreOpening arcs _ _ (map arc_value all.items)) c.in_ok-more.was c.join-first.ensures.second in
    subst (λ (rows : List Row). AreOpening arcs c.args.from c.args.count rows)
    (sym (ap (map arc_value) c.in_ok-append.ensures.items ∙ map-append arc_value c.in_ok-all.all.items c.in_ok-more.more.items))
    (opens_both arcs c.args.from _ _ _ c.args.count _ _ (omega arith) (omega arith) first second)
