use Rattle.std.proofs.Common.{ℕ, ◌≡◌, ◌+◌, ◌-◌, ◌<◌, ◌∙◌, List, [], get_or, length, set, slice_index, sym, subst, arith}
use Rattle.std.proofs.lemmas.List.{get_or_default}
use Rattle.ch_query.specs.declared.climb.Climbed.{Climbed}
use Rattle.ch_table.specs.Labels.{HaveLanes, far, lane_of}
use Rattle.ch_table.proofs.LaneLabels.{lane-written, lane-apart, lane-elsewhere, lanes-written, raised-lane}
use Rattle.ch_table.proofs.Raising.{AreRaised, raised-more, raised-skips, raised-labels}
use Rattle.ch_table.proofs.table.Table.raise.Goals.{then-place-gt0, else-place-gt0}
use Rattle.ch_table.proofs.table.Table.raise.Goals as goal

pub climbs-preserved : goal.climbs-preserved
climbs-preserved g c =
    let table = c.args.self.now in
    let h = table.hierarchy.now in
    let ranks = table.columns.now.ranks.items in
    let placed = table.columns.now.places.items in
    let climbs = c.args.climbs.now in
    let lane = c.args.lane in
    let labels = c.climbs.labels in
    let n = c.climbs.climbed-index in
    let q : ℕ = c.index-place.result.now - 1 in
    let none : Climbed = record { rank = 0; length = 0 } in
    let own : Climbed = get_or climbs n none in
    let at = λ (d : Climbed). get_or_default climbs n d none c.climbs-test.true in
    let rank_in : (get_or climbs n none).rank < length h.ranks = (c.requires.climbs.each n none c.climbs-test.true).rank_in in
    let place : c.index-place.result.now ≡ slice_index placed (get_or climbs n none).rank =
    c.index-place.ensures ∙ get_or_default placed (get_or climbs n none).rank c.index-place.result.now 0 (omega (arith, rank_in, c.requires.table.selection.placed.count)) in
    let was = c.climbs.invariant in
    elim c.if-place-gt0.branch [
      | then-place-gt0 w ↦
          let some : 0 < slice_index placed (get_or climbs n none).rank = omega (arith, place, w.if-place-gt0) in
          let there = c.requires.table.selection.placed.back (get_or climbs n none).rank some in
          let q_in : c.index-place.result.now - 1 < length c.climbs.labels = omega (arith, place, there.0, was.lanes.count) in
          let one : slice_index placed (get_or climbs n none).rank ≡ (c.index-place.result.now - 1) + 1 = omega (arith, place, w.if-place-gt0) in
          subst (λ (new : List (List ℕ)). record {
            lanes : HaveLanes (length ranks) g.row.N new;
            raised : ((p : ℕ) → p < length ranks → lane_of c.args.labels.now lane p ≡ far table.bound) → AreRaised (far table.bound) ranks climbs (n + 1) (lane_of new lane);
            others : (j p : ℕ) → (j ≡ lane → ⊥) → lane_of new j p ≡ lane_of c.args.labels.now j p;
          }) (sym w.labels-is) (record {
            lanes = lanes-written labels q lane own.length (length ranks) g.row.N q_in was.lanes;
            raised = λ empty. raised-more (far table.bound) (length h.ranks) ranks placed c.requires.table.selection.placed climbs n own c.climbs-test.true at (lane_of labels lane)
                (lane_of (set labels q (set (get_or labels q []) lane own.length)) lane) q one (lane-written labels q lane own.length (length ranks) g.row.N q_in c.requires.lane_in was.lanes)
                (λ p other. lane-elsewhere labels q (set (get_or labels q []) lane own.length) lane p other) (was.raised empty);
            others = λ j p apart. lane-apart labels q lane own.length j p apart ∙ was.others j p apart;
          })
      | else-place-gt0 w ↦ subst (λ (new : List (List ℕ)). record {
        lanes : HaveLanes (length ranks) g.row.N new;
        raised : ((p : ℕ) → p < length ranks → lane_of c.args.labels.now lane p ≡ far table.bound) → AreRaised (far table.bound) ranks climbs (n + 1) (lane_of new lane);
        others : (j p : ℕ) → (j ≡ lane → ⊥) → lane_of new j p ≡ lane_of c.args.labels.now j p;
      }) (sym w.labels-is) (record {
        lanes = was.lanes;
        raised = λ empty. raised-skips (far table.bound) (length h.ranks) ranks placed c.requires.table.selection.placed climbs n own c.climbs-test.true at (lane_of labels lane) (omega (arith, place, w.if-place-gt0)) (was.raised empty);
        others = was.others;
      })
    ]

pub returns-clause-raised : goal.returns-clause-raised
returns-clause-raised g c all is was =
    let table = c.args.self.now in
    let ranks = table.columns.now.ranks.items in
    let empty = λ (p : ℕ) (low : p < length ranks). was.rest c.args.lane p (omega arith) c.requires.lane_in low in
    let labels =
    raised-labels table.hierarchy.now c.args.starts.now table.bound ranks c.args.climbs.now c.requires.climbs c.climbs.climbed-index (lane_of c.climbs.labels c.args.lane)
    (omega (arith, c.climbs-test.false)) (omega (arith, c.climbs.auto.climbed-index-end)) (c.climbs.invariant.raised empty) in
    raised-lane table.hierarchy.now all c.args.starts.now table.bound ranks g.row.N c.args.labels.now c.climbs.labels c.args.lane is c.climbs.invariant.lanes.count labels c.climbs.invariant.others was
