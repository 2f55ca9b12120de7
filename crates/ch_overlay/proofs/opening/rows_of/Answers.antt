use Rattle.std.proofs.Common.{ℕ, ◌≡◌, ◌+◌, ◌<◌, ◌++◌, length, slice_index_or, take, List, arith, sym, ◌∙◌, ap, subst, refl}
use Rattle.std.proofs.lemmas.List.{take_at}
use Rattle.ch_graph.specs.declared.road.Road.{Road}
use Rattle.ch_laws.specs.Rows.{Row}
use Rattle.ch_overlay.specs.Overlay.{row_at}
use Rattle.ch_overlay.specs.Opening.{AreOpening, with_in, with_out}
use Rattle.ch_overlay.proofs.OpeningRows.{opens_empty, opens_more}
use Rattle.ch_overlay.proofs.opening.rows_of.Goals as goal

pub loop-arc-init : goal.loop-arc-init
loop-arc-init c = opens_empty c.args.from c.args.count _ c.in_ok-rows.rows.items refl c.in_ok-rows.ensures

abbrev nowhere : Road
nowhere = record { from = 0; to = 0; weight = 0 }

-- what was written in place of a whole list
written : (n : ℕ) (ws rest : List Row) → length ws ≡ n → take n (ws ++ rest) ≡ ws
written n ws rest long = take_at ws rest n long

pub loop-arc-preserved : goal.loop-arc-preserved
loop-arc-preserved c =
    let arcs = c.args.arcs.now in
    let from : ℕ = c.args.from in
    let arc = slice_index_or arcs c.loop-arc.arc-index nowhere in
    let mid = c.add_out.new.rows in
    let new = c.add_in.new.rows in
    let first = c.as_mut_slice.ensures in
    let second = c.as_mut_slice-in-loop-arc.ensures in
    let out = c.in_ok-add_out.ensures in
    let inn = c.in_ok-add_in.ensures in
    let long : length mid ≡ c.loop-arc.rows.len = omega (arith, out.count, first.len) in
    let mid_is : c.as_mut_slice-in-loop-arc.result.now ≡ mid = second.value ∙ written c.loop-arc.rows.len mid _ long in
    let long2 : length new ≡ c.loop-arc.rows.len = inn.count ∙ ap length mid_is ∙ long in
    let more = opens_more arcs c.loop-arc.arc-index nowhere from c.args.count c.loop-arc.rows.items mid new c.loop-arc-test.true c.loop-arc.invariant
    (out.count ∙ ap length first.value)
    (λ k h.
    let here : k < length c.as_mut_slice.result.now = omega (arith, h, ap length first.value) in
    out.rows k here ∙ ap (λ (rows : List Row). with_out arc (from + k) (row_at rows k)) first.value)
    (inn.count ∙ ap length mid_is)
    (λ k h.
    let here : k < length c.as_mut_slice-in-loop-arc.result.now = omega (arith, h, ap length mid_is) in
    inn.rows k here ∙ ap (λ (rows : List Row). with_in arc (from + k) (row_at rows k)) mid_is) in
    subst (λ (rows : List Row). AreOpening (take (c.loop-arc.arc-index + 1) arcs) from c.args.count rows) (sym (written c.loop-arc.rows.len new _ long2)) more
