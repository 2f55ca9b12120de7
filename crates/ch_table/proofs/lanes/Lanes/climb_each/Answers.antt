use Rattle.std.proofs.Common.{ℕ, ◌≡◌, ◌+◌, ◌<◌, ◌∙◌, [], ◌∷◌, length, slice_index, ap, sym, subst, arith}
use Rattle.ch_graph.specs.Hierarchy.{Hierarchy}
use Rattle.ch_query.specs.declared.seed.Seed.{Seed}
use Rattle.ch_query.specs.Seeds.{AreSeeds}
use Rattle.ch_query.specs.Ways.{free}
use Rattle.ch_table.specs.Labels.{AreRaisedTo}
use Rattle.ch_table.specs.Selection.{IsSelection, lists_of}
use Rattle.ch_table.proofs.Bounds.{free-start}
use Rattle.ch_table.proofs.LaneLabels.{all-lanes, raised-far}
use Rattle.ch_table.proofs.lanes.Lanes.climb_each.Goals as goal

pub lanes-init : goal.lanes-init
lanes-init g c =
    let ranks = c.args.columns.now.ranks.items in
    let labels = c.begin.new.self.labels.items in
    let count : length c.begin.new.self.labels.items ≡ length ranks = omega (arith, c.in_ok-begin.ensures.count, c.len.ensures, c.args.columns.now.ranks.ok) in
    record {
      search = λ i. c.args.search.now;
      lanes = all-lanes labels g.row.N _ c.in_ok-begin.ensures.far (length ranks) count;
      raised = raised-far c.args.search.now (λ j. free (slice_index c.args.sources.now j) ∷ []) c.args.bound ranks g.row.N labels count c.in_ok-begin.ensures.far;
    }

pub climb-requires : goal.climb-requires
climb-requires g c =
    let lane_in : c.lanes.lane < length c.args.sources.now = c.lanes-test.true in
    let back = sym c.lanes.invariant.search in
    let selection = subst (λ (h : Hierarchy). IsSelection h (lists_of c.args.columns.now)) back c.requires.selection in
    let starts = subst (λ (h : Hierarchy). AreSeeds h (c.free.result ∷ [])) back (free-start c.args.search.now (slice_index c.args.sources.now c.lanes.lane) c.free.result c.free.ensures (c.requires.sources c.lanes.lane 0 lane_in)) in
    let lane : c.lanes.lane < g.row.N = omega (arith, lane_in, c.requires.room) in
    (omega arith, (selection, (starts, (c.requires.bound, (c.requires.limit, (c.requires.few, (lane, c.lanes.invariant.lanes)))))))

pub lanes-preserved : goal.lanes-preserved
lanes-preserved g c =
    let all = λ (j : ℕ). free (slice_index c.args.sources.now j) ∷ [] in
    let ranks = c.args.columns.now.ranks.items in
    let own : free (slice_index c.args.sources.now c.lanes.lane) ∷ [] ≡ c.free.result ∷ [] = ap (λ (s : Seed). s ∷ []) (sym c.free.ensures) in
    let before : AreRaisedTo c.lanes.search all c.args.bound ranks g.row.N c.lanes.self.labels.items c.lanes.lane =
    subst (λ (h : Hierarchy). AreRaisedTo h all c.args.bound ranks g.row.N c.lanes.self.labels.items c.lanes.lane) (sym c.lanes.invariant.search) c.lanes.invariant.raised in
    record {
      search = c.in_ok-climb.ensures.kept ∙ c.lanes.invariant.search;
      lanes = c.in_ok-climb.ensures.lanes;
      raised = subst (λ (h : Hierarchy). AreRaisedTo h all c.args.bound ranks g.row.N c.climb.new.self.labels.items (c.lanes.lane + 1)) c.lanes.invariant.search (c.in_ok-climb.ensures.raised all own before);
    }
