use Rattle.std.proofs.Common.{ℕ, ◌≡◌, ◌+◌, ◌-◌, ◌<◌, ◌∙◌, List, length, set, slice_index, ap, sym, subst, inl, inr, arith}
use Rattle.std.proofs.lemmas.Bool.{cases_eq}
use Rattle.ch_query.specs.declared.seed.Seed.{Seed}
use Rattle.ch_query.specs.declared.side.Side.TheVariants.{Rise}
use Rattle.ch_query.specs.Ways.{IsClimb, IsWay}
use Rattle.ch_table.specs.Labels.{AreSwept, IsLabel, lane_of}
use Rattle.ch_table.proofs.LaneLabels.{lane-here, lane-elsewhere, lanes-set}
use Rattle.ch_table.proofs.SumLanes.{small-set, sums-set}
use Rattle.ch_table.proofs.Sweeping.{swept-more, swept-all}
use Rattle.ch_table.proofs.table.Table.sweep_sums_over.Goals as goal

pub places-preserved : goal.places-preserved
places-preserved g c =
    let table = c.args.self.now in
    let h = table.hierarchy.now in
    let ranks = table.columns.now.ranks.items in
    let labels = c.places.labels in
    let sums = c.places.sums in
    let count : ℕ = length c.args.labels.now in
    let place : ℕ = length c.args.labels.now - 1 - c.places.done in
    let was = c.places.invariant in
    let found = c.least_sums-least.ensures in
    let row = c.least_sums-least.result.0 in
    let own = c.least_sums-least.result.1 in
    let left : length c.args.labels.now - c.places.done ≡ (length c.args.labels.now - 1 - c.places.done) + 1 = omega (arith, c.places-test.true) in
    let rest : length c.args.labels.now - 1 - c.places.done ≡ length c.args.labels.now - (c.places.done + 1) = omega (arith, c.places-test.true) in
    let place_in : length c.args.labels.now - 1 - c.places.done < length c.places.labels = omega (arith, c.places-test.true, was.lanes.count) in
    let own_in : length c.args.labels.now - 1 - c.places.done < length c.places.sums = omega (arith, c.places-test.true, was.sums.count) in
    record {
      lanes = lanes-set labels place row count g.row.N found.count was.lanes;
      count = was.count;
      small = λ lane p. elim (cases_eq p place) [
        | inl here ↦
            let read : lane_of (set labels place row) lane p ≡ slice_index row lane = ap (lane_of (set labels place row) lane) here ∙ lane-here labels place row lane place_in in
            omega (arith, read, found.small lane)
        | inr other ↦ omega (arith, lane-elsewhere labels place row lane p other, was.small lane p)
      ];
      swept = λ (starts : List Seed) (lane : ℕ) lane_in raised.
          let before : AreSwept (IsWay h starts table.bound) (IsClimb h Rise starts table.bound) table.bound ranks (lane_of labels lane) (place + 1) =
          subst (λ n. AreSwept (IsWay h starts table.bound) (IsClimb h Rise starts table.bound) table.bound ranks (lane_of labels lane) n) left (was.swept starts lane lane_in raised) in
          let label : IsLabel (IsWay h starts table.bound (slice_index ranks place)) table.bound (lane_of (set labels place row) lane place) =
          subst (λ n. IsLabel (IsWay h starts table.bound (slice_index ranks place)) table.bound n) (sym (lane-here labels place row lane place_in)) (found.least starts lane lane_in before) in
          subst (λ n. AreSwept (IsWay h starts table.bound) (IsClimb h Rise starts table.bound) table.bound ranks (lane_of (set labels place row) lane) n) rest
          (swept-more (lane_of labels lane) (lane_of (set labels place row) lane) place label (λ p other. lane-elsewhere labels place row lane p other) before);
      sums = lanes-set sums place own count g.row.N found.sum_count was.sums;
      small_sums = small-set labels sums place row own (length h.ranks) ranks own_in found.small_sums was.small_sums;
      summed = λ (all : List ℕ) (starts : ℕ → List Seed) are have.
          let before = was.summed all starts are have in
          sums-set labels sums place row own h all starts table.bound ranks g.row.N place_in own_in (found.summed all starts are before) before;
    }

pub returns-clause-swept : goal.returns-clause-swept
returns-clause-swept g c starts lane lane_in raised =
    let none : length c.args.labels.now - c.places.done ≡ 0 = omega (arith, c.places-test.false) in
    swept-all (lane_of c.places.labels lane) (subst (λ n. AreSwept (IsWay c.args.self.now.hierarchy.now starts c.args.self.now.bound) (IsClimb c.args.self.now.hierarchy.now Rise starts c.args.self.now.bound) c.args.self.now.bound c.args.self.now.columns.now.ranks.items (lane_of c.places.labels lane) n) none
    (c.places.invariant.swept starts lane lane_in raised))
