use Rattle.std.proofs.Common.{ℕ, ◌≡◌, ◌+◌, ◌<◌, ◌∙◌, List, length, slice_index, ap, sym, subst, arith}
use Rattle.std.proofs.lemmas.List.{get_or_default, length-set}
use Rattle.ch_cost.specs.Cost.{length_of}
use Rattle.ch_graph.specs.Hierarchy.{rank_of}
use Rattle.ch_query.specs.declared.seed.Seed.{Seed}
use Rattle.ch_query.specs.Sums.{IsSummedWay}
use Rattle.ch_query.specs.Ways.{IsWay}
use Rattle.ch_table.specs.Labels.{IsLabel, lane_of}
use Rattle.ch_table.specs.Sums.{IsSumFromAny}
use Rattle.ch_table.proofs.Rows.{row-more}
use Rattle.ch_table.proofs.SumRows.{sum-none, sum-some}
use Rattle.ch_table.proofs.table.Table.put_sums.Goals.{then-label-bound, else-label-bound}
use Rattle.ch_table.proofs.table.Table.put_sums.Goals as goal

pub targets-preserved : goal.targets-preserved
targets-preserved g c =
    let table = c.args.self.now in
    let h = table.hierarchy.now in
    let ends = table.columns.now.ends.items in
    let ranks = table.columns.now.ranks.items in
    let targets = table.columns.now.targets.items in
    let labels = c.args.labels.now in
    let sums = c.args.sums.now in
    let n = c.targets.place in
    let own = c.requires.table.selection.ends in
    let n_ends : c.targets.place < length ends = omega (arith, c.targets-test.true, c.len-place-end.ensures, table.columns.now.ends.ok) in
    let n_in : c.targets.place < length targets = omega (arith, n_ends, own.count) in
    let t_in : slice_index targets n < length h.ranks = own.targets_in n 0 n_in in
    let end : c.index.result.now ≡ slice_index ends n = c.index.ensures ∙ get_or_default ends n c.index.result.now 0 n_ends in
    let at = own.each n n_in in
    let rank : slice_index ranks c.index.result.now ≡ rank_of h (slice_index targets n) = ap (slice_index ranks) end ∙ at.1 in
    let bound : c.length-bound.result ≡ length_of table.bound = c.length-bound.ensures in
    record {
      room = length-set c.targets.row (c.args.from + n) c.if-label-bound.row ∙ c.targets.invariant.room;
      row = λ (all : List ℕ) (starts : ℕ → List Seed) begins labelled have.
          let label : IsLabel (IsWay h (starts c.args.lane) table.bound (rank_of h (slice_index targets n))) table.bound (lane_of labels c.args.lane c.index.result.now) =
          subst (λ r. IsLabel (IsWay h (starts c.args.lane) table.bound r) table.bound (lane_of labels c.args.lane c.index.result.now)) rank (labelled c.index.result.now (omega (arith, end, at.0))) in
          let is : IsSumFromAny h all (starts c.args.lane) table.bound (slice_index targets n) c.if-label-bound.row = elim c.if-label-bound.branch [
            | then-label-bound w ↦ subst (IsSumFromAny h all (starts c.args.lane) table.bound (slice_index targets n)) (sym w.row-is)
                (sum-none c.requires.walks h c.requires.table.made all (starts c.args.lane) begins table.bound (slice_index targets n) t_in (lane_of labels c.args.lane c.index.result.now) label (omega (arith, w.if-label-bound, bound)))
            | else-label-bound w ↦
                let way : IsSummedWay h all (starts c.args.lane) (rank_of h (slice_index targets n)) (lane_of labels c.args.lane c.index.result.now) (lane_of sums c.args.lane c.index.result.now) =
                subst (λ r. IsSummedWay h all (starts c.args.lane) r (lane_of labels c.args.lane c.index.result.now) (lane_of sums c.args.lane c.index.result.now)) rank (have.each c.args.lane c.index.result.now c.requires.lane_in (omega (arith, end, at.0)) (omega (arith, w.if-label-bound, bound))) in
                subst (IsSumFromAny h all (starts c.args.lane) table.bound (slice_index targets n)) (sym w.row-is)
                (sum-some c.requires.walks h c.requires.table.made all (starts c.args.lane) begins table.bound (slice_index targets n) t_in (lane_of labels c.args.lane c.index.result.now) label
                (lane_of sums c.args.lane c.index.result.now) (omega (arith, w.if-label-bound, bound)) way (omega (arith, c.requires.small_sums c.args.lane c.index.result.now, c.requires.table.made.few_nodes)))
          ] in
          row-more c.args.row.now c.targets.row n c.if-label-bound.row (omega (arith, n_in, c.requires.room, c.targets.invariant.room)) is (c.targets.invariant.row all starts begins labelled have);
    }
