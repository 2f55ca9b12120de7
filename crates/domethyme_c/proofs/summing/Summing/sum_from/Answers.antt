use Rattle.std.proofs.Common.{ℕ, ◌≡◌, ◌∙◌, List, drop, length, slice_index, ap, subst, arith}
use Rattle.std.proofs.lemmas.Option.{get_or_from_slice_get}
use Rattle.ch_cost.specs.Cost.{length_of}
use Rattle.ch_graph.specs.Hierarchy.{IsWellMade}
use Rattle.ch_query.specs.Seeds.{IsSeed}
use Rattle.domethyme_c.specs.Starting.{AreSumsOfStarts, AreTaken}
use Rattle.domethyme_c.proofs.Bands.{one-cells, written-count}
use Rattle.domethyme_c.proofs.Starts.{starts-more}
use Rattle.domethyme_c.proofs.summing.Summing.sum_from.Goals as goal

pub take_sums-requires-clause-small : goal.take_sums-requires-clause-small
take_sums-requires-clause-small c p low some =
    let start = c.start_at-start.result in
    let seed : IsSeed c.args.self.now.search c.start_at-start.result = subst (IsSeed c.args.self.now.search) (get_or_from_slice_get c.args.starts.now c.starts.at start start c.start_at-start.ensures) (c.requires.starts c.starts.at start c.starts-test.true) in
    (one-cells c.summed_ways_are_along.ensures c.routes_are_least.ensures.lengths c.routes_are_least.ensures.lengths_by_weight c.args.self.now.search (subst IsWellMade c.hierarchy.ensures c.nodes-well_made.ensures.made) c.args.set.now
    start.node c.args.selection.now.targets seed.node_in c.requires.selection.ends.targets_in c.starts.row c.sums.new.rows c.starts.others c.sums.new.sums c.starts.self.search c.numbers_of-numbers.result.now
    c.starts.invariant.summing.of c.numbers_of-numbers.ensures c.in_ok-sums.ensures.rows c.in_ok-sums.ensures.sums p (omega (arith, low, c.requires.lengths))).small some

pub starts-preserved : goal.starts-preserved
starts-preserved c =
    let h = c.args.self.now.search in
    let set = c.args.set.now in
    let targets = c.args.selection.now.targets in
    let start = c.start_at-start.result in
    let seed : IsSeed c.args.self.now.search c.start_at-start.result = subst (IsSeed c.args.self.now.search) (get_or_from_slice_get c.args.starts.now c.starts.at start start c.start_at-start.ensures) (c.requires.starts c.starts.at start c.starts-test.true) in
    let same : c.starts.self.search ≡ c.args.self.now.search = c.starts.invariant.summing.of in
    let made = subst IsWellMade c.hierarchy.ensures c.nodes-well_made.ensures.made in
    let cells = one-cells c.summed_ways_are_along.ensures c.routes_are_least.ensures.lengths c.routes_are_least.ensures.lengths_by_weight h made set start.node targets seed.node_in c.requires.selection.ends.targets_in
    c.starts.row c.sums.new.rows c.starts.others c.sums.new.sums c.starts.self.search c.numbers_of-numbers.result.now same c.numbers_of-numbers.ensures c.in_ok-sums.ensures.rows c.in_ok-sums.ensures.sums in
    let taken : AreTaken c.args.lengths.now c.sums.new.rows c.sums.new.sums (length_of start.cost) (slice_index c.args.added.now c.starts.at) (length c.args.lengths.now) c.starts.sums c.take_sums.new.sums =
    subst (λ n. AreTaken c.args.lengths.now c.sums.new.rows c.sums.new.sums n (slice_index c.args.added.now c.starts.at) (length c.args.lengths.now) c.starts.sums c.take_sums.new.sums) c.length.ensures c.take_sums.ensures in
    let kept : length c.sums.new.kept ≡ c.starts.self.kept.len = omega (arith, c.in_ok-sums.ensures.kept, ap (λ (xs : List ℕ). length xs) c.as_mut_slice.ensures.value, c.starts.self.kept.ok) in
    let room : c.starts.self.kept.len ≡ length c.args.self.now.search.ranks = omega (arith, c.starts.invariant.summing.room, c.starts.self.kept.ok) in
    record {
      summing = record {
        of = c.in_ok-sums.ensures.same ∙ same;
        digest = c.starts.invariant.summing.digest;
        chosen = c.starts.invariant.summing.chosen;
        room = written-count c.starts.self.kept.len c.sums.new.kept (drop (length c.sums.new.kept) c.starts.self.kept.items) kept ∙ room;
      };
      within = omega (arith, c.starts-test.true);
      row = c.in_ok-sums.ensures.rows.room ∙ c.starts.invariant.row;
      others = c.in_ok-sums.ensures.sums.room ∙ c.starts.invariant.others;
      sums = starts-more h set c.args.starts.now c.args.added.now c.starts.at targets c.args.lengths.now c.sums.new.rows c.sums.new.sums c.starts.sums c.take_sums.new.sums start c.requires.lengths c.start_at-start.ensures cells taken c.starts.invariant.sums;
    }

pub returns-clause-sums : goal.returns-clause-sums
returns-clause-sums c =
    let end : c.starts.at ≡ length c.args.starts.now = omega (arith, c.starts.invariant.within, c.starts-test.false) in
    subst (λ n. AreSumsOfStarts c.args.self.now.search c.args.set.now c.args.starts.now c.args.added.now n c.args.selection.now.targets c.args.lengths.now c.starts.sums) end c.starts.invariant.sums
