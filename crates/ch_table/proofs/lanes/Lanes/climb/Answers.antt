use Rattle.std.proofs.Common.{ℕ, ◌≡◌, ◌+◌, ◌∙◌, List, drop, length, sym, subst, arith}
use Rattle.ch_graph.specs.Hierarchy.{Hierarchy, IsWellMade}
use Rattle.ch_query.specs.declared.climb.Climbed.{Climbed}
use Rattle.ch_query.specs.declared.side.Side.TheVariants.{Rise}
use Rattle.ch_query.specs.Ways.{AreLeastClimbs}
use Rattle.ch_table.specs.Labels.{AreRaisedTo, HaveLanes}
use Rattle.ch_table.specs.Selection.{IsSelection, IsTable, lists_of}
use Rattle.ch_table.proofs.LaneLabels.{written-back}
use Rattle.ch_table.proofs.lanes.Lanes.climb.Goals as goal

pub raise-requires : goal.raise-requires
raise-requires g c =
    let same : c.hierarchy-hierarchy.result.now ≡ c.args.search.now = c.hierarchy-hierarchy.ensures ∙ c.in_ok-climb.ensures.kept in
    let table : IsTable (record { columns = c.args.columns; hierarchy = c.hierarchy-hierarchy.result; bound = c.args.bound }) = record {
      made = subst IsWellMade (c.hierarchy-hierarchy.ensures ∙ sym c.hierarchy-hierarchy.ensures) c.nodes-well_made.ensures.made;
      selection = subst (λ (h : Hierarchy). IsSelection h (lists_of c.args.columns.now)) (sym same) c.requires.selection;
      bound = c.requires.limit;
    } in
    let climbs = subst (λ (h : Hierarchy). AreLeastClimbs h Rise c.args.starts.now c.args.bound c.deref.result.now) (sym same)
    (subst (λ (climbs : List Climbed). AreLeastClimbs c.args.search.now Rise c.args.starts.now c.args.bound climbs) (sym c.deref.ensures.value) c.in_ok-climb.ensures.climbs) in
    let lanes = subst (λ (labels : List (List ℕ)). HaveLanes (length c.args.columns.now.ranks.items) g.row.N labels) (sym c.deref_mut.ensures.value) c.requires.lanes in
    (omega (arith, c.requires.few), (table, (climbs, (c.requires.lane_in, lanes))))

pub returns-clause-raised : goal.returns-clause-raised
returns-clause-raised g c all is was =
    let same : c.hierarchy-hierarchy.result.now ≡ c.args.search.now = c.hierarchy-hierarchy.ensures ∙ c.in_ok-climb.ensures.kept in
    let ranks = c.args.columns.now.ranks.items in
    let before : AreRaisedTo c.hierarchy-hierarchy.result.now all c.args.bound ranks g.row.N c.deref_mut.result.now c.args.lane =
    subst (λ (h : Hierarchy). AreRaisedTo h all c.args.bound ranks g.row.N c.deref_mut.result.now c.args.lane) (sym same)
    (subst (λ (labels : List (List ℕ)). AreRaisedTo c.args.search.now all c.args.bound ranks g.row.N labels c.args.lane) (sym c.deref_mut.ensures.value) was) in
    let after : AreRaisedTo c.args.search.now all c.args.bound ranks g.row.N c.raise.new.labels (c.args.lane + 1) =
    subst (λ (h : Hierarchy). AreRaisedTo h all c.args.bound ranks g.row.N c.raise.new.labels (c.args.lane + 1)) same (c.raise.ensures.raised all is before) in
    subst (λ (labels : List (List ℕ)). AreRaisedTo c.args.search.now all c.args.bound ranks g.row.N labels (c.args.lane + 1))
    (sym (written-back c.args.self.now.labels.len c.raise.new.labels (drop (length c.raise.new.labels) c.args.self.now.labels.items) (omega (arith, c.raise.ensures.lanes.count, c.requires.lanes.count, c.args.self.now.labels.ok)))) after
