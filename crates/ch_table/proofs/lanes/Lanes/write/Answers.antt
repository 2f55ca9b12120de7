use Rattle.std.proofs.Common.{ℕ, ◌≡◌, ◌+◌, ◌*◌, ◌<◌, ◌≤◌, ◌∙◌, List, [], ◌∷◌, length, slice_index, ap, refl, sym, subst, arith}
use Rattle.std.proofs.Math.Nat.{add-mul, mul-le-mul_right}
use Rattle.ch_graph.specs.Hierarchy.{Hierarchy, IsWellMade}
use Rattle.ch_query.specs.declared.seed.Seed.{Seed}
use Rattle.ch_query.specs.declared.side.Side.TheVariants.{Rise}
use Rattle.ch_query.specs.Ways.{IsClimb, free}
use Rattle.ch_table.specs.Labels.{AreLabels, AreSmall, HaveLanes, lane_of}
use Rattle.ch_table.specs.Lengths.{IsLengthFromAny, IsRow}
use Rattle.ch_table.specs.Selection.{IsSelection, IsTable, lists_of}
use Rattle.ch_table.proofs.Bounds.{own-bound, free-start}
use Rattle.ch_table.proofs.Rows.{row-from, rows-one}
use Rattle.ch_table.proofs.lanes.Lanes.write.Goals as goal

pub climb_each-requires : goal.climb_each-requires
climb_each-requires g c =
    let bound = own-bound c.hierarchy-2.result.now (subst IsWellMade (c.hierarchy.ensures ∙ sym c.hierarchy-2.ensures) c.nodes-well_made.ensures.made) c.bound-bound.result c.bound-bound.ensures in
    (omega arith, (c.requires.selection, (c.requires.sources, (c.requires.few, (c.requires.block, (bound.0, bound.1))))))

pub sweep-requires : goal.sweep-requires
sweep-requires g c =
    let same : c.hierarchy-3.result.now ≡ c.args.search.now = c.hierarchy-3.ensures ∙ c.in_ok-climb_each.ensures.kept in
    let bound = own-bound c.hierarchy-2.result.now (subst IsWellMade (c.hierarchy.ensures ∙ sym c.hierarchy-2.ensures) c.nodes-well_made.ensures.made) c.bound-bound.result c.bound-bound.ensures in
    let table : IsTable (record { columns = c.args.columns; hierarchy = c.hierarchy-3.result; bound = c.bound-bound.result }) = record {
      made = subst IsWellMade (c.hierarchy.ensures ∙ sym same) c.nodes-well_made.ensures.made;
      selection = subst (λ (h : Hierarchy). IsSelection h (lists_of c.args.columns.now)) (sym same) c.requires.selection;
      bound = bound.1;
    } in
    let labels = sym c.as_mut_slice-labels.ensures.value in
    let lanes = subst (λ (labels : List (List ℕ)). HaveLanes (length c.args.columns.now.ranks.items) g.row.N labels) labels c.in_ok-climb_each.ensures.lanes in
    let small = subst (λ (labels : List (List ℕ)). AreSmall c.bound-bound.result labels) labels c.in_ok-climb_each.ensures.raised.small in
    (omega (arith, c.requires.few), (table, (lanes, small)))

pub put-requires : goal.put-requires
put-requires g c =
    let same : c.hierarchy-3.result.now ≡ c.args.search.now = c.hierarchy-3.ensures ∙ c.in_ok-climb_each.ensures.kept in
    let bound = own-bound c.hierarchy-2.result.now (subst IsWellMade (c.hierarchy.ensures ∙ sym c.hierarchy-2.ensures) c.nodes-well_made.ensures.made) c.bound-bound.result c.bound-bound.ensures in
    let targets = c.args.columns.now.targets.items in
    let table : IsTable (record { columns = c.args.columns; hierarchy = c.hierarchy-3.result; bound = c.bound-bound.result }) = record {
      made = subst IsWellMade (c.hierarchy.ensures ∙ sym same) c.nodes-well_made.ensures.made;
      selection = subst (λ (h : Hierarchy). IsSelection h (lists_of c.args.columns.now)) (sym same) c.requires.selection;
      bound = bound.1;
    } in
    let width : c.rows.lane * c.len-width.result ≡ c.rows.lane * length targets = ap (λ x. c.rows.lane * x) (omega (arith, c.len-width.ensures, c.args.columns.now.targets.ok)) in
    let up : (c.rows.lane + 1) * length targets ≤ length c.args.sources.now * length targets = mul-le-mul_right (length targets) (omega (arith, c.rows-test.true)) in
    let row : (c.rows.lane + 1) * length targets ≡ c.rows.lane * length targets + length targets = omega (arith, add-mul c.rows.lane 1 (length targets)) in
    let lane_in : c.rows.lane < g.row.N = omega (arith, c.rows-test.true, c.requires.block) in
    let room : (c.args.from + c.rows.lane * c.len-width.result) + length targets ≤ length c.rows.rows = omega (arith, width, up, row, c.requires.room, c.rows.invariant.room) in
    (omega (arith, c.requires.few), (table, (c.sweep.ensures.lanes, (lane_in, (room, c.ways_are_walks.ensures.walks)))))

pub rows-preserved : goal.rows-preserved
rows-preserved g c =
    let h = c.args.search.now in
    let bound = c.bound-bound.result in
    let targets = c.args.columns.now.targets.items in
    let ranks = c.args.columns.now.ranks.items in
    let lane = c.rows.lane in
    let source : ℕ = slice_index c.args.sources.now c.rows.lane in
    let same : c.hierarchy-3.result.now ≡ c.args.search.now = c.hierarchy-3.ensures ∙ c.in_ok-climb_each.ensures.kept in
    let starts : List Seed = free source ∷ [] in
    let source_in : slice_index c.args.sources.now c.rows.lane < length c.args.search.now.ranks = c.requires.sources c.rows.lane 0 c.rows-test.true in
    let lane_in : c.rows.lane < g.row.N = omega (arith, c.rows-test.true, c.requires.block) in
    let width : c.len-width.result ≡ length targets = omega (arith, c.len-width.ensures, c.args.columns.now.targets.ok) in
    let climbs : AreLabels (IsClimb c.hierarchy-3.result.now Rise starts bound) bound ranks (lane_of c.as_mut_slice-labels.result.now lane) =
    subst (λ (k : Hierarchy). AreLabels (IsClimb k Rise starts bound) bound ranks (lane_of c.as_mut_slice-labels.result.now lane)) (sym same)
    (subst (λ (labels : List (List ℕ)). AreLabels (IsClimb h Rise starts bound) bound ranks (lane_of labels lane)) (sym c.as_mut_slice-labels.ensures.value) (c.in_ok-climb_each.ensures.raised.climbs lane c.rows-test.true)) in
    let begins = free-start c.hierarchy-3.result.now source (free source) refl (subst (λ (k : Hierarchy). slice_index c.args.sources.now c.rows.lane < length k.ranks) (sym same) source_in) in
    let any : IsRow (IsLengthFromAny h starts bound) targets (c.args.from + lane * length targets) c.rows.rows c.put.new.row =
    subst (λ w. IsRow (IsLengthFromAny h starts bound) targets (c.args.from + lane * w) c.rows.rows c.put.new.row) width
    (subst (λ (k : Hierarchy). IsRow (IsLengthFromAny k starts bound) targets (c.args.from + lane * c.len-width.result) c.rows.rows c.put.new.row) same
    (c.put.ensures.row starts begins (c.sweep.ensures.swept starts lane lane_in climbs))) in
    let is_bound : c.bound-bound.result ≡ c.args.search.now.bound = c.bound-bound.ensures ∙ ap (λ (k : Hierarchy). k.bound) c.hierarchy-2.ensures in
    let row = row-from c.ways_are_walks.ensures.value h source bound is_bound targets (c.args.from + lane * length targets) c.rows.rows c.put.new.row c.requires.selection.ends.targets_in any in
    rows-one c.rows.lane c.args.rows.now c.rows.rows c.put.new.row row c.rows.invariant
