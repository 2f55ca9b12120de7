use Rattle.std.proofs.Common.{ℕ, ◌≡◌, ◌+◌, ◌<◌, ◌∙◌, [], ◌∷◌, length, slice_index, ap, sym, subst, arith}
use Rattle.ch_graph.specs.Hierarchy.{Hierarchy}
use Rattle.ch_query.specs.declared.seed.Seed.{Seed}
use Rattle.ch_query.specs.Seeds.{AreSeeds}
use Rattle.ch_query.specs.Sums.{HaveNumbers}
use Rattle.ch_query.specs.Ways.{free}
use Rattle.ch_table.specs.Labels.{AreRaisedTo}
use Rattle.ch_table.specs.Selection.{IsSelection, lists_of}
use Rattle.ch_table.specs.Sums.{AreSmallSums, HaveSums}
use Rattle.ch_table.proofs.Bounds.{free-start}
use Rattle.ch_table.proofs.LaneLabels.{all-lanes, raised-far}
use Rattle.ch_table.proofs.SumLanes.{small-none, sums-none}
use Rattle.ch_table.proofs.sum_lanes.SumLanes.climb_each.Goals as goal

pub lanes-init : goal.lanes-init
lanes-init g c =
    let ranks = c.args.columns.now.ranks.items in
    let labels = c.begin.new.self.lanes.labels.items in
    let sums = c.begin.new.self.sums.items in
    let count : length c.begin.new.self.lanes.labels.items ≡ length ranks = omega (arith, c.in_ok-begin.ensures.count, c.len.ensures, c.args.columns.now.ranks.ok) in
    let sum_count : length c.begin.new.self.sums.items ≡ length ranks = omega (arith, c.in_ok-begin.ensures.sum_count, c.len.ensures, c.args.columns.now.ranks.ok) in
    record {
      search = λ i. c.args.search.now;
      kept = c.requires.kept;
      lanes = all-lanes labels g.row.N _ c.in_ok-begin.ensures.far (length ranks) count;
      sums = all-lanes sums g.row.N _ c.in_ok-begin.ensures.none (length ranks) sum_count;
      small_sums = small-none (length c.args.search.now.ranks) ranks g.row.N sums c.in_ok-begin.ensures.none;
      raised = raised-far c.args.search.now (λ j. free (slice_index c.args.sources.now j) ∷ []) c.args.bound ranks g.row.N labels count c.in_ok-begin.ensures.far;
      summed = sums-none c.args.search.now c.args.numbers.now (λ j. free (slice_index c.args.sources.now j) ∷ []) c.args.bound ranks g.row.N labels sums count c.in_ok-begin.ensures.far;
    }

pub climb-requires : goal.climb-requires
climb-requires g c =
    let lane_in : c.lanes.lane < length c.args.sources.now = c.lanes-test.true in
    let back = sym c.lanes.invariant.search in
    let selection = subst (λ (h : Hierarchy). IsSelection h (lists_of c.args.columns.now)) back c.requires.selection in
    let numbers = subst (λ (h : Hierarchy). HaveNumbers h c.args.numbers.now) back c.requires.numbers in
    let kept = subst (λ (h : Hierarchy). length c.lanes.kept ≡ length h.ranks) back c.lanes.invariant.kept in
    let starts = subst (λ (h : Hierarchy). AreSeeds h (c.free.result ∷ [])) back (free-start c.args.search.now (slice_index c.args.sources.now c.lanes.lane) c.free.result c.free.ensures (c.requires.sources c.lanes.lane 0 lane_in)) in
    let lane : c.lanes.lane < g.row.N = omega (arith, lane_in, c.requires.room) in
    let small = subst (λ (h : Hierarchy). AreSmallSums (length h.ranks) c.args.columns.now.ranks.items c.lanes.self.sums.items) back c.lanes.invariant.small_sums in
    (omega arith, (selection, (numbers, (kept, (starts, (c.requires.bound, (c.requires.limit, (c.requires.few, (lane, (c.lanes.invariant.lanes, (c.lanes.invariant.sums, small)))))))))))

pub lanes-preserved : goal.lanes-preserved
lanes-preserved g c =
    let all = λ (j : ℕ). free (slice_index c.args.sources.now j) ∷ [] in
    let ranks = c.args.columns.now.ranks.items in
    let same = c.lanes.invariant.search in
    let own : free (slice_index c.args.sources.now c.lanes.lane) ∷ [] ≡ c.free.result ∷ [] = ap (λ (s : Seed). s ∷ []) (sym c.free.ensures) in
    let before : AreRaisedTo c.lanes.search all c.args.bound ranks g.row.N c.lanes.self.lanes.labels.items c.lanes.lane =
    subst (λ (h : Hierarchy). AreRaisedTo h all c.args.bound ranks g.row.N c.lanes.self.lanes.labels.items c.lanes.lane) (sym same) c.lanes.invariant.raised in
    let summed : HaveSums c.lanes.search c.args.numbers.now all c.args.bound ranks g.row.N c.lanes.self.lanes.labels.items c.lanes.self.sums.items =
    subst (λ (h : Hierarchy). HaveSums h c.args.numbers.now all c.args.bound ranks g.row.N c.lanes.self.lanes.labels.items c.lanes.self.sums.items) (sym same) c.lanes.invariant.summed in
    record {
      search = c.in_ok-climb.ensures.same ∙ same;
      kept = c.in_ok-climb.ensures.kept ∙ c.lanes.invariant.kept;
      lanes = c.in_ok-climb.ensures.lanes;
      sums = c.in_ok-climb.ensures.sums;
      small_sums = subst (λ (h : Hierarchy). AreSmallSums (length h.ranks) ranks c.climb.new.self.sums.items) same c.in_ok-climb.ensures.small_sums;
      raised = subst (λ (h : Hierarchy). AreRaisedTo h all c.args.bound ranks g.row.N c.climb.new.self.lanes.labels.items (c.lanes.lane + 1)) same (c.in_ok-climb.ensures.raised all own before);
      summed = subst (λ (h : Hierarchy). HaveSums h c.args.numbers.now all c.args.bound ranks g.row.N c.climb.new.self.lanes.labels.items c.climb.new.self.sums.items) same (c.in_ok-climb.ensures.summed all own before summed);
    }
