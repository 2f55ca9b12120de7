use Rattle.std.proofs.Common.{ℕ, ◌≡◌, ◌+◌, ◌-◌, ◌*◌, ◌≤◌, ◌∙◌, List, drop, length, take, ap, subst, sym, arith}
use Rattle.std.proofs.Math.Nat.{add-mul, mul-le-mul_right}
use Rattle.ch_graph.specs.Hierarchy.{Hierarchy, IsWellMade}
use Rattle.ch_table.specs.Lengths.{AreRows, IsLengthFrom}
use Rattle.ch_table.specs.Sums.{IsSumFrom}
use Rattle.domethyme_c.specs.Summing.{ArePut}
use Rattle.domethyme_c.proofs.Bands.{block-at, block-count, cells-band, written-count}
use Rattle.domethyme_c.proofs.summing.Summing.fill_bands.Goals as goal

pub put_cells-requires-clause-room : goal.put_cells-requires-clause-room
put_cells-requires-clause-room c =
    let targets = c.args.selection.now.targets in
    let within : c.bands.done + c.min-count.result ≤ length c.args.sources.now = omega (arith, c.min-count.ensures, c.bands-test.true) in
    let up : (c.bands.done + c.min-count.result) * length targets ≤ length c.args.sources.now * length targets = mul-le-mul_right (length targets) within in
    let parts : (c.bands.done + c.min-count.result) * length targets ≡ c.bands.done * length targets + c.min-count.result * length targets = add-mul c.bands.done c.min-count.result (length targets) in
    let fits : c.bands.done * length targets + c.min-count.result * length targets ≤ length c.bands.cells = omega (arith, up, parts, c.requires.room, c.bands.invariant.cells.room) in
    subst (λ (ts : List ℕ). c.bands.done * length ts + c.min-count.result * length ts ≤ length c.bands.cells) (sym c.targets-width.ensures) fits

pub bands-preserved : goal.bands-preserved
bands-preserved c =
    let h = c.args.self.now.search in
    let set = c.args.set.now in
    let numbers = drop 1 c.args.set.now in
    let sources = c.args.sources.now in
    let targets = c.args.selection.now.targets in
    let done = c.bands.done in
    let count = c.min-count.result in
    let within : c.bands.done + c.min-count.result ≤ length c.args.sources.now = omega (arith, c.min-count.ensures, c.bands-test.true) in
    let many = block-count sources done count within in
    let block = take ((done + count) - done) (drop done sources) in
    let same : c.bands.self.search ≡ c.args.self.now.search = c.bands.invariant.summing.of in
    let made = subst IsWellMade c.hierarchy.ensures c.nodes-well_made.ensures.made in
    let are = c.numbers_of-numbers.ensures in
    let rows : AreRows (IsLengthFrom h) block targets 0 count c.bands.lengths c.sums.new.rows =
    subst (λ n. AreRows (IsLengthFrom h) block targets 0 n c.bands.lengths c.sums.new.rows) many
    (subst (λ (k : Hierarchy). AreRows (IsLengthFrom k) block targets 0 (length block) c.bands.lengths c.sums.new.rows) same c.in_ok-sums.ensures.rows) in
    let sum_rows : AreRows (IsSumFrom h numbers) block targets 0 count c.bands.sums c.sums.new.sums =
    subst (λ n. AreRows (IsSumFrom h numbers) block targets 0 n c.bands.sums c.sums.new.sums) many
    (subst (λ (ns : List ℕ). AreRows (IsSumFrom h ns) block targets 0 (length block) c.bands.sums c.sums.new.sums) are
    (subst (λ (k : Hierarchy). AreRows (IsSumFrom k c.numbers_of-numbers.result.now) block targets 0 (length block) c.bands.sums c.sums.new.sums) same c.in_ok-sums.ensures.sums)) in
    let put : ArePut c.sums.new.rows c.sums.new.sums (count * length targets) (done * length targets) c.bands.cells c.put_cells.new.cells =
    subst (λ (ts : List ℕ). ArePut c.sums.new.rows c.sums.new.sums (count * length ts) (done * length ts) c.bands.cells c.put_cells.new.cells) c.targets-width.ensures c.put_cells.ensures in
    let kept : length c.sums.new.kept ≡ c.bands.self.kept.len = omega (arith, c.in_ok-sums.ensures.kept, ap (λ (xs : List ℕ). length xs) c.as_mut_slice.ensures.value, c.bands.self.kept.ok) in
    let room : c.bands.self.kept.len ≡ length c.args.self.now.search.ranks = omega (arith, c.bands.invariant.summing.room, c.bands.self.kept.ok) in
    record {
      summing = record {
        of = c.in_ok-sums.ensures.same ∙ same;
        digest = c.bands.invariant.summing.digest;
        chosen = c.bands.invariant.summing.chosen;
        room = written-count c.bands.self.kept.len c.sums.new.kept (drop (length c.sums.new.kept) c.bands.self.kept.items) kept ∙ room;
      };
      within = within;
      lengths = rows.room ∙ c.bands.invariant.lengths;
      sums = sum_rows.room ∙ c.bands.invariant.sums;
      cells = cells-band c.summed_ways_are_along.ensures c.routes_are_least.ensures.lengths c.routes_are_least.ensures.lengths_by_weight h made set
          sources targets block c.requires.sources c.requires.selection.ends.targets_in done count within (λ i low. block-at sources done count within i 0 low)
          c.bands.lengths c.sums.new.rows c.bands.sums c.sums.new.sums c.args.cells.now c.bands.cells c.put_cells.new.cells rows sum_rows put c.bands.invariant.cells;
    }
