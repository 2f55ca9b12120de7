use Rattle.std.proofs.Common.{ℕ, ◌≡◌, ◌+◌, ◌-◌, ◌*◌, ◌^◌, ◌<◌, ◌≤◌, ◌∙◌, List, [], get_or, length, set, slice_index, ap, sym, subst, inl, inr, arith}
use Rattle.std.proofs.lemmas.Bool.{cases_eq}
use Rattle.std.proofs.lemmas.List.{get_or_default}
use Rattle.ch_query.specs.declared.climb.Climbed.{Climbed}
use Rattle.ch_table.specs.Labels.{HaveLanes, lane_of}
use Rattle.ch_table.specs.Sums.{AreRaisedSums, AreSmallSums}
use Rattle.ch_table.proofs.LaneLabels.{lane-written, lane-apart, lane-elsewhere, lanes-written}
use Rattle.ch_table.proofs.SumLanes.{raised_sums-more, raised_sums-none, raised_sums-skips}
use Rattle.ch_table.proofs.table.Table.raise_sums.Goals.{then-place-gt0, else-place-gt0}
use Rattle.ch_table.proofs.table.Table.raise_sums.Goals as goal

pub climbs-init : goal.climbs-init
climbs-init g c = record {
  lanes = c.requires.lanes;
  small = c.requires.small_sums;
  raised = raised_sums-none c.args.self.now.columns.now.ranks.items c.args.climbs.now c.args.kept.now (lane_of c.args.sums.now c.args.lane);
  others = λ j p apart i. lane_of c.args.sums.now j p;
}

pub climbs-preserved : goal.climbs-preserved
climbs-preserved g c =
    let table = c.args.self.now in
    let h = table.hierarchy.now in
    let ranks = table.columns.now.ranks.items in
    let placed = table.columns.now.places.items in
    let climbs = c.args.climbs.now in
    let kept = c.args.kept.now in
    let lane = c.args.lane in
    let sums = c.climbs.sums in
    let n = c.climbs.climbed-index in
    let q : ℕ = c.index-place.result.now - 1 in
    let none : Climbed = record { rank = 0; length = 0 } in
    let own : Climbed = get_or climbs n none in
    let at = λ (d : Climbed). get_or_default climbs n d none c.climbs-test.true in
    let rank_in : (get_or climbs n none).rank < length h.ranks = c.requires.climbs n none c.climbs-test.true in
    let place : c.index-place.result.now ≡ slice_index placed (get_or climbs n none).rank =
    c.index-place.ensures ∙ get_or_default placed (get_or climbs n none).rank c.index-place.result.now 0 (omega (arith, rank_in, c.requires.table.selection.placed.count)) in
    let was = c.climbs.invariant in
    elim c.if-place-gt0.branch [
      | then-place-gt0 w ↦
          let some : 0 < slice_index placed (get_or climbs n none).rank = omega (arith, place, w.if-place-gt0) in
          let there = c.requires.table.selection.placed.back (get_or climbs n none).rank some in
          let q_in : c.index-place.result.now - 1 < length c.climbs.sums = omega (arith, place, there.0, was.lanes.count) in
          let one : slice_index placed (get_or climbs n none).rank ≡ (c.index-place.result.now - 1) + 1 = omega (arith, place, w.if-place-gt0) in
          let x : ℕ = slice_index kept (get_or climbs n none).rank in
          let new : List (List ℕ) = set sums q (set (get_or sums q []) lane x) in
          let low : slice_index kept (get_or climbs n none).rank ≤ length h.ranks * 2 ^ 36 = c.requires.small n none c.climbs-test.true in
          let here : lane_of (set sums q (set (get_or sums q []) lane x)) lane q ≡ x = lane-written sums q lane x (length ranks) g.row.N q_in c.requires.lane_in was.lanes in
          subst (λ (new : List (List ℕ)). record {
            lanes : HaveLanes (length ranks) g.row.N new;
            small : AreSmallSums (length h.ranks) ranks new;
            raised : AreRaisedSums ranks climbs (n + 1) kept (lane_of new lane);
            others : (j p : ℕ) → (j ≡ lane → ⊥) → lane_of new j p ≡ lane_of c.args.sums.now j p;
          }) (sym w.sums-is) (record {
            lanes = lanes-written sums q lane x (length ranks) g.row.N q_in was.lanes;
            small = λ j p. elim (cases_eq j lane) [
              | inl same ↦ elim (cases_eq p q) [
                | inl there ↦ omega (arith, low, here, ap (λ i. lane_of (set sums q (set (get_or sums q []) lane x)) i p) same, ap (lane_of (set sums q (set (get_or sums q []) lane x)) lane) there)
                | inr other ↦ omega (arith, lane-elsewhere sums q (set (get_or sums q []) lane x) j p other, was.small j p)
              ]
              | inr apart ↦ omega (arith, lane-apart sums q lane x j p apart, was.small j p)
            ];
            raised = raised_sums-more (length h.ranks) ranks placed c.requires.table.selection.placed climbs n own at kept (lane_of sums lane)
                (lane_of (set sums q (set (get_or sums q []) lane x)) lane) q one here
                (λ p other. lane-elsewhere sums q (set (get_or sums q []) lane x) lane p other) was.raised;
            others = λ j p apart. lane-apart sums q lane x j p apart ∙ was.others j p apart;
          })
      | else-place-gt0 w ↦ subst (λ (new : List (List ℕ)). record {
        lanes : HaveLanes (length ranks) g.row.N new;
        small : AreSmallSums (length h.ranks) ranks new;
        raised : AreRaisedSums ranks climbs (n + 1) kept (lane_of new lane);
        others : (j p : ℕ) → (j ≡ lane → ⊥) → lane_of new j p ≡ lane_of c.args.sums.now j p;
      }) (sym w.sums-is) (record {
        lanes = was.lanes;
        small = was.small;
        raised = raised_sums-skips (length h.ranks) ranks placed c.requires.table.selection.placed climbs n own at kept (lane_of sums lane) (omega (arith, place, w.if-place-gt0)) was.raised;
        others = was.others;
      })
    ]
