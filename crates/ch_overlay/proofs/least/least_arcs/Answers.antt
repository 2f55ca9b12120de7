use Rattle.std.proofs.Common.{rules, sym, subst}
use Rattle.std.proofs.lemmas.Fn.{dedup_same}
use Rattle.ch_overlay.specs.Opening.{AreLeast, have_same_ends}
use Rattle.ch_overlay.proofs.KeptArcs.{least-dedup}
use Rattle.ch_overlay.proofs.least.least_arcs.Goals as goal

pub returns : goal.returns
returns c =
    let kept = dedup_same _ have_same_ends _ (λ x y b f first second q. search rules) _ _ c.dedup_by.ensures.filtered in
    subst (λ arcs. AreLeast c.args.arcs.now arcs) (sym kept) (least-dedup c.args.arcs.now c.in_ok-least.least.items c.in_ok-least.ensures.all c.in_ok-least.ensures.sorted)
