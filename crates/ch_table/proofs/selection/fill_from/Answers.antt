use Rattle.std.proofs.Common.{ℕ, ◌≡◌, ◌+◌, ◌<◌, ◌∙◌, List, length, refl, sym, subst, arith}
use Rattle.ch_graph.specs.Hierarchy.{Hierarchy, IsWellMade}
use Rattle.ch_query.specs.declared.side.Side.TheVariants.{Rise}
use Rattle.ch_query.specs.Seeds.{AreSeeds}
use Rattle.ch_query.specs.Ways.{IsClimb}
use Rattle.ch_table.specs.Labels.{AreLabels, AreRaisedTo, AreSmall, HaveLanes, lane_of}
use Rattle.ch_table.specs.Lengths.{IsLengthFromAny, IsRow}
use Rattle.ch_table.specs.Selection.{IsSelection, IsTable, lists_of}
use Rattle.ch_table.proofs.LaneLabels.{raised-far}
use Rattle.ch_table.proofs.selection.fill_from.Goals as goal

pub sweep-requires : goal.sweep-requires
sweep-requires g c =
    let same : c.hierarchy-hierarchy.result.now ≡ c.args.search.now = c.hierarchy-hierarchy.ensures ∙ c.in_ok-climb.ensures.kept in
    let ranks = c.args.columns.now.ranks.items in
    let table : IsTable (record { columns = c.args.columns; hierarchy = c.hierarchy-hierarchy.result; bound = c.args.bound }) = record {
      made = subst IsWellMade (c.hierarchy-hierarchy.ensures ∙ sym c.hierarchy-hierarchy.ensures) c.nodes-well_made.ensures.made;
      selection = subst (λ (h : Hierarchy). IsSelection h (lists_of c.args.columns.now)) (sym same) c.requires.selection;
      bound = c.requires.limit;
    } in
    let all = λ (j : ℕ). c.args.starts.now in
    let count : length c.begin.new.self.labels.items ≡ length ranks = omega (arith, c.in_ok-begin.ensures.count, c.len.ensures, c.args.columns.now.ranks.ok) in
    let raised : AreRaisedTo c.args.search.now all c.args.bound ranks 1 c.climb.new.self.labels.items (0 + 1) =
    c.in_ok-climb.ensures.raised all refl (raised-far c.args.search.now all c.args.bound ranks 1 c.begin.new.self.labels.items count c.in_ok-begin.ensures.far) in
    let labels = sym c.as_mut_slice-labels.ensures.value in
    let lanes = subst (λ (labels : List (List ℕ)). HaveLanes (length ranks) 1 labels) labels c.in_ok-climb.ensures.lanes in
    let small = subst (λ (labels : List (List ℕ)). AreSmall c.args.bound labels) labels raised.small in
    (omega arith, (table, (lanes, small)))

pub returns-clause-row : goal.returns-clause-row
returns-clause-row g c =
    let same : c.hierarchy-hierarchy.result.now ≡ c.args.search.now = c.hierarchy-hierarchy.ensures ∙ c.in_ok-climb.ensures.kept in
    let ranks = c.args.columns.now.ranks.items in
    let starts = c.args.starts.now in
    let bound = c.args.bound in
    let all = λ (j : ℕ). c.args.starts.now in
    let count : length c.begin.new.self.labels.items ≡ length ranks = omega (arith, c.in_ok-begin.ensures.count, c.len.ensures, c.args.columns.now.ranks.ok) in
    let raised : AreRaisedTo c.args.search.now all c.args.bound ranks 1 c.climb.new.self.labels.items (0 + 1) =
    c.in_ok-climb.ensures.raised all refl (raised-far c.args.search.now all c.args.bound ranks 1 c.begin.new.self.labels.items count c.in_ok-begin.ensures.far) in
    let low : 0 < 0 + 1 = omega arith in
    let climbs : AreLabels (IsClimb c.hierarchy-hierarchy.result.now Rise starts bound) bound ranks (lane_of c.as_mut_slice-labels.result.now 0) =
    subst (λ (k : Hierarchy). AreLabels (IsClimb k Rise starts bound) bound ranks (lane_of c.as_mut_slice-labels.result.now 0)) (sym same)
    (subst (λ (labels : List (List ℕ)). AreLabels (IsClimb c.args.search.now Rise starts bound) bound ranks (lane_of labels 0)) (sym c.as_mut_slice-labels.ensures.value) (raised.climbs 0 low)) in
    let begins = subst (λ (k : Hierarchy). AreSeeds k c.args.starts.now) (sym same) c.requires.starts in
    subst (λ (k : Hierarchy). IsRow (IsLengthFromAny k starts bound) c.args.columns.now.targets.items c.args.from c.args.row.now c.put.new.row) same
    (c.put.ensures.row starts begins (c.sweep.ensures.swept starts 0 (omega arith) climbs))
