use Rattle.std.proofs.Common.{ℕ, ◌≡◌, ◌<◌, length, ap, sym, subst, ◌∙◌}
use Rattle.std.specs.List.{range_with_len}
use Rattle.ch_graph.specs.Graph.{Graph}
use Rattle.ch_overlay.specs.Overlay.{Overlay, row_at}
use Rattle.ch_core.specs.World.{World, IsIn}
use Rattle.ch_core.proofs.Opens.{world_opens}
use Rattle.ch_core.proofs.world.World.new.Goals as goal

pub invariant_of-result : goal.invariant_of-result
invariant_of-result c =
    let w : World = record { ledger = c.in_ok-ledger.ledger; book = c.in_ok-book.book.items; views = c.in_ok-views.views.items } in
    let made = c.in_ok-ledger.ensures in
    let nodes_are : w.ledger.graph.nodes ≡ c.args.graph.nodes = ap (λ (g : Graph). g.nodes) made.graph in
    world_opens c.bounds_fit.ensures w c.args.workers c.holds.ensures
    (made.versions ∙ ap (λ n. range_with_len 0 n) (sym nodes_are))
    (made.start.nodes ∙ sym nodes_are)
    (c.in_ok-book.ensures.many ∙ ap (λ (o : Overlay). length o.rows) c.overlay.ensures)
    (subst (λ (o : Overlay). (x : ℕ) → x < length o.rows → IsIn w.book x x (row_at o.rows x)) c.overlay.ensures c.in_ok-book.ensures.rows)
    c.in_ok-views.ensures
    c.ranges.workers.fits
