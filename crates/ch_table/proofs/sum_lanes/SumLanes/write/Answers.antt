use Rattle.std.proofs.Common.{ℕ, ◌≡◌, ◌+◌, ◌*◌, ◌<◌, ◌≤◌, ◌∙◌, List, [], ◌∷◌, length, slice_index, ap, refl, sym, subst, arith}
use Rattle.std.proofs.Math.Nat.{add-mul, mul-le-mul_right}
use Rattle.ch_graph.specs.Hierarchy.{Hierarchy, IsWellMade}
use Rattle.ch_query.specs.declared.seed.Seed.{Seed}
use Rattle.ch_query.specs.declared.side.Side.TheVariants.{Rise}
use Rattle.ch_query.specs.Sums.{HaveNumbers}
use Rattle.ch_query.specs.Ways.{IsClimb, IsWay, free}
use Rattle.ch_table.specs.Labels.{AreLabels, AreSmall, HaveLanes, lane_of}
use Rattle.ch_table.specs.Lengths.{IsLengthFromAny, IsRow}
use Rattle.ch_table.specs.Selection.{IsSelection, IsTable, lists_of}
use Rattle.ch_table.specs.Sums.{AreSmallSums, AreStepNumbers, HaveSums, IsSumFromAny}
use Rattle.ch_table.proofs.SumRows.{sum_row-from}
use Rattle.ch_table.proofs.Bounds.{own-bound, free-start}
use Rattle.ch_table.proofs.Rows.{row-from, rows-one}
use Rattle.ch_table.proofs.sum_lanes.SumLanes.write.Goals as goal

pub climb_each-requires : goal.climb_each-requires
climb_each-requires g c =
    let bound = own-bound c.hierarchy-2.result.now (subst IsWellMade (c.hierarchy.ensures ∙ sym c.hierarchy-2.ensures) c.nodes-well_made.ensures.made) c.bound-bound.result c.bound-bound.ensures in
    (omega arith, (c.requires.selection, (c.requires.numbers, (c.requires.kept, (c.requires.sources, (c.requires.few, (c.requires.block, (bound.0, bound.1))))))))

pub sweep_sums-requires : goal.sweep_sums-requires
sweep_sums-requires g c =
    let same : c.hierarchy-3.result.now ≡ c.args.search.now = c.hierarchy-3.ensures ∙ c.in_ok-climb_each.ensures.same in
    let bound = own-bound c.hierarchy-2.result.now (subst IsWellMade (c.hierarchy.ensures ∙ sym c.hierarchy-2.ensures) c.nodes-well_made.ensures.made) c.bound-bound.result c.bound-bound.ensures in
    let table : IsTable (record { columns = c.args.columns; hierarchy = c.hierarchy-3.result; bound = c.bound-bound.result }) = record {
      made = subst IsWellMade (c.hierarchy.ensures ∙ sym same) c.nodes-well_made.ensures.made;
      selection = subst (λ (h : Hierarchy). IsSelection h (lists_of c.args.columns.now)) (sym same) c.requires.selection;
      bound = bound.1;
    } in
    let labels = sym c.as_mut_slice-labels.ensures.value in
    let lanes = subst (λ (labels : List (List ℕ)). HaveLanes (length c.args.columns.now.ranks.items) g.row.N labels) labels c.in_ok-climb_each.ensures.lanes in
    let small = subst (λ (labels : List (List ℕ)). AreSmall c.bound-bound.result labels) labels c.in_ok-climb_each.ensures.raised.small in
    let own = sym c.as_mut_slice-own.ensures.value in
    let numbers : (all : List ℕ) × HaveNumbers c.hierarchy-3.result.now all × AreStepNumbers c.hierarchy-3.result.now all (lists_of c.args.columns.now) c.args.steps.now =
    (c.args.numbers.now, subst (λ (h : Hierarchy). HaveNumbers h c.args.numbers.now) (sym same) c.requires.numbers, subst (λ (h : Hierarchy). AreStepNumbers h c.args.numbers.now (lists_of c.args.columns.now) c.args.steps.now) (sym same) c.requires.steps) in
    let sums = subst (λ (sums : List (List ℕ)). HaveLanes (length c.args.columns.now.ranks.items) g.row.N sums) own c.in_ok-climb_each.ensures.sums in
    let small_sums = subst (λ (h : Hierarchy). AreSmallSums (length h.ranks) c.args.columns.now.ranks.items c.as_mut_slice-own.result.now) (sym same)
    (subst (λ (sums : List (List ℕ)). AreSmallSums (length c.args.search.now.ranks) c.args.columns.now.ranks.items sums) own c.in_ok-climb_each.ensures.small_sums) in
    (omega (arith, c.requires.few), (table, (numbers, (lanes, (small, (sums, small_sums))))))

pub put-requires : goal.put-requires
put-requires g c =
    let same : c.hierarchy-3.result.now ≡ c.args.search.now = c.hierarchy-3.ensures ∙ c.in_ok-climb_each.ensures.same in
    let bound = own-bound c.hierarchy-2.result.now (subst IsWellMade (c.hierarchy.ensures ∙ sym c.hierarchy-2.ensures) c.nodes-well_made.ensures.made) c.bound-bound.result c.bound-bound.ensures in
    let targets = c.args.columns.now.targets.items in
    let table : IsTable (record { columns = c.args.columns; hierarchy = c.hierarchy-3.result; bound = c.bound-bound.result }) = record {
      made = subst IsWellMade (c.hierarchy.ensures ∙ sym same) c.nodes-well_made.ensures.made;
      selection = subst (λ (h : Hierarchy). IsSelection h (lists_of c.args.columns.now)) (sym same) c.requires.selection;
      bound = bound.1;
    } in
    let width : c.rows.lane * c.len-width.result ≡ c.rows.lane * length targets = ap (λ x. c.rows.lane * x) (omega (arith, c.len-width.ensures, c.args.columns.now.targets.ok)) in
    let up : (c.rows.lane + 1) * length targets ≤ length c.args.sources.now * length targets = mul-le-mul_right (length targets) (omega (arith, c.rows-test.true)) in
    let row : (c.rows.lane + 1) * length targets ≡ c.rows.lane * length targets + length targets = omega (arith, add-mul c.rows.lane 1 (length targets)) in
    let lane_in : c.rows.lane < g.row.N = omega (arith, c.rows-test.true, c.requires.block) in
    let room : (c.args.from + c.rows.lane * c.len-width.result) + length targets ≤ length c.rows.rows = omega (arith, width, up, row, c.requires.room, c.rows.invariant.rows.room) in
    (omega (arith, c.requires.few), (table, (c.sweep_sums.ensures.lanes, (lane_in, (room, c.ways_are_walks.ensures.walks)))))

pub put_sums-requires : goal.put_sums-requires
put_sums-requires g c =
    let same : c.hierarchy-3.result.now ≡ c.args.search.now = c.hierarchy-3.ensures ∙ c.in_ok-climb_each.ensures.same in
    let bound = own-bound c.hierarchy-2.result.now (subst IsWellMade (c.hierarchy.ensures ∙ sym c.hierarchy-2.ensures) c.nodes-well_made.ensures.made) c.bound-bound.result c.bound-bound.ensures in
    let targets = c.args.columns.now.targets.items in
    let table : IsTable (record { columns = c.args.columns; hierarchy = c.hierarchy-3.result; bound = c.bound-bound.result }) = record {
      made = subst IsWellMade (c.hierarchy.ensures ∙ sym same) c.nodes-well_made.ensures.made;
      selection = subst (λ (h : Hierarchy). IsSelection h (lists_of c.args.columns.now)) (sym same) c.requires.selection;
      bound = bound.1;
    } in
    let width : c.rows.lane * c.len-width.result ≡ c.rows.lane * length targets = ap (λ x. c.rows.lane * x) (omega (arith, c.len-width.ensures, c.args.columns.now.targets.ok)) in
    let up : (c.rows.lane + 1) * length targets ≤ length c.args.sources.now * length targets = mul-le-mul_right (length targets) (omega (arith, c.rows-test.true)) in
    let row : (c.rows.lane + 1) * length targets ≡ c.rows.lane * length targets + length targets = omega (arith, add-mul c.rows.lane 1 (length targets)) in
    let lane_in : c.rows.lane < g.row.N = omega (arith, c.rows-test.true, c.requires.block) in
    let room : (c.args.from + c.rows.lane * c.len-width.result) + length targets ≤ length c.rows.sums = omega (arith, width, up, row, c.requires.sum_room, c.rows.invariant.sums.room) in
    (omega (arith, c.requires.few), (table, (c.sweep_sums.ensures.lanes, (c.sweep_sums.ensures.sums, (c.sweep_sums.ensures.small_sums, (lane_in, (room, c.ways_are_walks.ensures.walks)))))))

pub rows-preserved : goal.rows-preserved
rows-preserved g c =
    let h = c.args.search.now in
    let bound = c.bound-bound.result in
    let targets = c.args.columns.now.targets.items in
    let ranks = c.args.columns.now.ranks.items in
    let lane = c.rows.lane in
    let source : ℕ = slice_index c.args.sources.now c.rows.lane in
    let same : c.hierarchy-3.result.now ≡ c.args.search.now = c.hierarchy-3.ensures ∙ c.in_ok-climb_each.ensures.same in
    let starts : List Seed = free source ∷ [] in
    let source_in : slice_index c.args.sources.now c.rows.lane < length c.args.search.now.ranks = c.requires.sources c.rows.lane 0 c.rows-test.true in
    let lane_in : c.rows.lane < g.row.N = omega (arith, c.rows-test.true, c.requires.block) in
    let width : c.len-width.result ≡ length targets = omega (arith, c.len-width.ensures, c.args.columns.now.targets.ok) in
    let climbs : AreLabels (IsClimb c.hierarchy-3.result.now Rise starts bound) bound ranks (lane_of c.as_mut_slice-labels.result.now lane) =
    subst (λ (k : Hierarchy). AreLabels (IsClimb k Rise starts bound) bound ranks (lane_of c.as_mut_slice-labels.result.now lane)) (sym same)
    (subst (λ (labels : List (List ℕ)). AreLabels (IsClimb h Rise starts bound) bound ranks (lane_of labels lane)) (sym c.as_mut_slice-labels.ensures.value) (c.in_ok-climb_each.ensures.raised.climbs lane c.rows-test.true)) in
    let begins = free-start c.hierarchy-3.result.now source (free source) refl (subst (λ (k : Hierarchy). slice_index c.args.sources.now c.rows.lane < length k.ranks) (sym same) source_in) in
    let any : IsRow (IsLengthFromAny h starts bound) targets (c.args.from + lane * length targets) c.rows.rows c.put.new.row =
    subst (λ w. IsRow (IsLengthFromAny h starts bound) targets (c.args.from + lane * w) c.rows.rows c.put.new.row) width
    (subst (λ (k : Hierarchy). IsRow (IsLengthFromAny k starts bound) targets (c.args.from + lane * c.len-width.result) c.rows.rows c.put.new.row) same
    (c.put.ensures.row starts begins (c.sweep_sums.ensures.swept starts lane lane_in climbs))) in
    let is_bound : c.bound-bound.result ≡ c.args.search.now.bound = c.bound-bound.ensures ∙ ap (λ (k : Hierarchy). k.bound) c.hierarchy-2.ensures in
    let row = row-from c.ways_are_walks.ensures.value h source bound is_bound targets (c.args.from + lane * length targets) c.rows.rows c.put.new.row c.requires.selection.ends.targets_in any in
    let all = λ (j : ℕ). free (slice_index c.args.sources.now j) ∷ [] in
    let labels : AreLabels (IsWay c.hierarchy-3.result.now starts bound) bound ranks (lane_of c.sweep_sums.new.labels lane) = c.sweep_sums.ensures.swept starts lane lane_in climbs in
    let steps = subst (λ (k : Hierarchy). AreStepNumbers k c.args.numbers.now (lists_of c.args.columns.now) c.args.steps.now) (sym same) c.requires.steps in
    let before : HaveSums c.hierarchy-3.result.now c.args.numbers.now all bound ranks g.row.N c.as_mut_slice-labels.result.now c.as_mut_slice-own.result.now =
    subst (λ (k : Hierarchy). HaveSums k c.args.numbers.now all bound ranks g.row.N c.as_mut_slice-labels.result.now c.as_mut_slice-own.result.now) (sym same)
    (subst (λ (sums : List (List ℕ)). HaveSums h c.args.numbers.now all bound ranks g.row.N c.as_mut_slice-labels.result.now sums) (sym c.as_mut_slice-own.ensures.value)
    (subst (λ (labels : List (List ℕ)). HaveSums h c.args.numbers.now all bound ranks g.row.N labels c.climb_each.new.self.sums.items) (sym c.as_mut_slice-labels.ensures.value) c.in_ok-climb_each.ensures.summed)) in
    let have = c.sweep_sums.ensures.summed c.args.numbers.now all steps before in
    let any_sum : IsRow (IsSumFromAny h c.args.numbers.now starts bound) targets (c.args.from + lane * length targets) c.rows.sums c.put_sums.new.row =
    subst (λ w. IsRow (IsSumFromAny h c.args.numbers.now starts bound) targets (c.args.from + lane * w) c.rows.sums c.put_sums.new.row) width
    (subst (λ (k : Hierarchy). IsRow (IsSumFromAny k c.args.numbers.now starts bound) targets (c.args.from + lane * c.len-width.result) c.rows.sums c.put_sums.new.row) same
    (c.put_sums.ensures.row c.args.numbers.now all begins labels have)) in
    let sum_row = sum_row-from c.ways_are_walks.ensures.value h c.args.numbers.now source bound is_bound targets (c.args.from + lane * length targets) c.rows.sums c.put_sums.new.row c.requires.selection.ends.targets_in any_sum in
    record {
      rows = rows-one c.rows.lane c.args.rows.now c.rows.rows c.put.new.row row c.rows.invariant.rows;
      sums = rows-one c.rows.lane c.args.sums.now c.rows.sums c.put_sums.new.row sum_row c.rows.invariant.sums;
    }
