use Rattle.std.proofs.Common.{ℕ, ◌≡◌, ◌+◌, ◌<◌, ◌≤◌, ◌∙◌, List, ◌++◌, drop, length, slice_index, take, ap, sym, subst, arith}
use Rattle.ch_cost.specs.Cost.{length_of}
use Rattle.ch_graph.specs.Hierarchy.{Hierarchy, IsWellMade}
use Rattle.ch_query.specs.declared.climb.Climbed.{Climbed}
use Rattle.ch_query.specs.declared.seed.Seed.{Seed}
use Rattle.ch_query.specs.declared.side.Side.TheVariants.{Rise}
use Rattle.ch_query.specs.Sums.{IsSummedWay}
use Rattle.ch_query.specs.Ways.{AreLeastClimbs, IsClimb}
use Rattle.ch_table.specs.Labels.{AreLabels, AreRaisedTo, HaveLanes, lane_of}
use Rattle.ch_table.specs.Selection.{IsSelection, IsTable, lists_of}
use Rattle.ch_table.specs.Sums.{AreRaisedSums, HaveSums}
use Rattle.ch_table.proofs.LaneLabels.{written-back}
use Rattle.ch_table.proofs.SumLanes.{raised-sum, sums-lane}
use Rattle.ch_table.proofs.sum_lanes.SumLanes.climb.Goals as goal

pub raise-requires : goal.raise-requires
raise-requires g c =
    let same : c.hierarchy-hierarchy.result.now ≡ c.args.search.now = c.hierarchy-hierarchy.ensures ∙ c.in_ok-climb_summed.ensures.kept in
    let table : IsTable (record { columns = c.args.columns; hierarchy = c.hierarchy-hierarchy.result; bound = c.args.bound }) = record {
      made = subst IsWellMade (c.hierarchy-hierarchy.ensures ∙ sym c.hierarchy-hierarchy.ensures) c.nodes-well_made.ensures.made;
      selection = subst (λ (h : Hierarchy). IsSelection h (lists_of c.args.columns.now)) (sym same) c.requires.selection;
      bound = c.requires.limit;
    } in
    let climbs = subst (λ (h : Hierarchy). AreLeastClimbs h Rise c.args.starts.now c.args.bound c.as_slice-climbs.result.now) (sym same)
    (subst (λ (climbs : List Climbed). AreLeastClimbs c.args.search.now Rise c.args.starts.now c.args.bound climbs) (sym c.as_slice-climbs.ensures.value) c.in_ok-climb_summed.ensures.climbs) in
    let lanes = subst (λ (labels : List (List ℕ)). HaveLanes (length c.args.columns.now.ranks.items) g.row.N labels) (sym c.as_mut_slice.ensures.value) c.requires.lanes in
    (omega (arith, c.requires.few), (table, (climbs, (c.requires.lane_in, lanes))))

pub returns-clause-raised : goal.returns-clause-raised
returns-clause-raised g c all is was =
    let same : c.hierarchy-hierarchy.result.now ≡ c.args.search.now = c.hierarchy-hierarchy.ensures ∙ c.in_ok-climb_summed.ensures.kept in
    let ranks = c.args.columns.now.ranks.items in
    let before : AreRaisedTo c.hierarchy-hierarchy.result.now all c.args.bound ranks g.row.N c.as_mut_slice.result.now c.args.lane =
    subst (λ (h : Hierarchy). AreRaisedTo h all c.args.bound ranks g.row.N c.as_mut_slice.result.now c.args.lane) (sym same)
    (subst (λ (labels : List (List ℕ)). AreRaisedTo c.args.search.now all c.args.bound ranks g.row.N labels c.args.lane) (sym c.as_mut_slice.ensures.value) was) in
    let after : AreRaisedTo c.args.search.now all c.args.bound ranks g.row.N c.raise.new.labels (c.args.lane + 1) =
    subst (λ (h : Hierarchy). AreRaisedTo h all c.args.bound ranks g.row.N c.raise.new.labels (c.args.lane + 1)) same (c.raise.ensures.raised all is before) in
    subst (λ (labels : List (List ℕ)). AreRaisedTo c.args.search.now all c.args.bound ranks g.row.N labels (c.args.lane + 1))
    (sym (written-back c.args.self.now.lanes.labels.len c.raise.new.labels (drop (length c.raise.new.labels) c.args.self.now.lanes.labels.items) (omega (arith, c.raise.ensures.lanes.count, c.requires.lanes.count, c.args.self.now.lanes.labels.ok)))) after

pub returns-clause-summed : goal.returns-clause-summed
returns-clause-summed g c all is was have =
    let h = c.args.search.now in
    let same : c.hierarchy-hierarchy.result.now ≡ c.args.search.now = c.hierarchy-hierarchy.ensures ∙ c.in_ok-climb_summed.ensures.kept in
    let ranks = c.args.columns.now.ranks.items in
    let numbers = c.args.numbers.now in
    let starts = c.args.starts.now in
    let lane = c.args.lane in
    let before : AreRaisedTo c.hierarchy-hierarchy.result.now all c.args.bound ranks g.row.N c.as_mut_slice.result.now c.args.lane =
    subst (λ (h : Hierarchy). AreRaisedTo h all c.args.bound ranks g.row.N c.as_mut_slice.result.now c.args.lane) (sym same)
    (subst (λ (labels : List (List ℕ)). AreRaisedTo c.args.search.now all c.args.bound ranks g.row.N labels c.args.lane) (sym c.as_mut_slice.ensures.value) was) in
    let after : AreRaisedTo c.args.search.now all c.args.bound ranks g.row.N c.raise.new.labels (c.args.lane + 1) =
    subst (λ (h : Hierarchy). AreRaisedTo h all c.args.bound ranks g.row.N c.raise.new.labels (c.args.lane + 1)) same (c.raise.ensures.raised all is before) in
    let labels : AreLabels (IsClimb h Rise starts c.args.bound) c.args.bound ranks (lane_of c.raise.new.labels lane) =
    subst (λ (ss : List Seed). AreLabels (IsClimb h Rise ss c.args.bound) c.args.bound ranks (lane_of c.raise.new.labels lane)) is (after.climbs lane (omega arith)) in
    let climbs = c.climb_summed.new.climbs.items in
    let raised : AreRaisedSums ranks climbs (length climbs) c.climb_summed.new.sums (lane_of c.raise_sums.new.sums lane) =
    subst (λ (cs : List Climbed). AreRaisedSums ranks cs (length cs) c.climb_summed.new.sums (lane_of c.raise_sums.new.sums lane)) c.as_slice-climbs.ensures.value c.raise_sums.ensures.raised in
    let own = λ (p : ℕ) (p_in : p < length ranks) (near : lane_of c.raise.new.labels lane p ≤ length_of c.args.bound).
    subst (λ (ss : List Seed). IsSummedWay h numbers ss (slice_index ranks p) (lane_of c.raise.new.labels lane p) (lane_of c.raise_sums.new.sums lane p)) (sym is)
    (raised-sum h numbers starts c.args.bound ranks climbs c.climb_summed.new.sums c.in_ok-climb_summed.ensures.climbs c.in_ok-climb_summed.ensures.sums (lane_of c.raise.new.labels lane) (lane_of c.raise_sums.new.sums lane) labels raised p p_in near) in
    let others = λ (j p : ℕ) (apart : j ≡ lane → ⊥). c.raise.ensures.others j p apart ∙ ap (λ (ls : List (List ℕ)). lane_of ls j p) c.as_mut_slice.ensures.value in
    let sum_others = λ (j p : ℕ) (apart : j ≡ lane → ⊥). c.raise_sums.ensures.others j p apart ∙ ap (λ (ls : List (List ℕ)). lane_of ls j p) c.as_mut_slice-2.ensures.value in
    let whole : HaveSums h numbers all c.args.bound ranks g.row.N c.raise.new.labels c.raise_sums.new.sums =
    sums-lane h numbers all c.args.bound ranks g.row.N lane c.args.self.now.lanes.labels.items c.raise.new.labels c.args.self.now.sums.items c.raise_sums.new.sums own others sum_others have in
    subst (λ (sums : List (List ℕ)). HaveSums h numbers all c.args.bound ranks g.row.N (take c.args.self.now.lanes.labels.len (c.raise.new.labels ++ drop (length c.raise.new.labels) c.args.self.now.lanes.labels.items)) sums)
    (sym (written-back c.args.self.now.sums.len c.raise_sums.new.sums (drop (length c.raise_sums.new.sums) c.args.self.now.sums.items) (omega (arith, c.raise_sums.ensures.lanes.count, c.requires.sums.count, c.args.self.now.sums.ok))))
    (subst (λ (labels : List (List ℕ)). HaveSums h numbers all c.args.bound ranks g.row.N labels c.raise_sums.new.sums)
    (sym (written-back c.args.self.now.lanes.labels.len c.raise.new.labels (drop (length c.raise.new.labels) c.args.self.now.lanes.labels.items) (omega (arith, c.raise.ensures.lanes.count, c.requires.lanes.count, c.args.self.now.lanes.labels.ok)))) whole)
