use Rattle.std.proofs.Common.{◌≡◌, ◌+◌, ◌-◌, ◌*◌, ◌<◌, ◌≤◌, ◌∙◌, All, drop, length, take, ap, sym, subst, arith}
use Rattle.std.proofs.Math.Nat.{add-mul, mul-le-mul_right}
use Rattle.ch_graph.specs.Hierarchy.{Hierarchy}
use Rattle.ch_table.specs.Lengths.{AreRows, IsLengthFrom}
use Rattle.ch_table.specs.Selection.{IsSelection, lists_of}
use Rattle.ch_query.specs.Sums.{HaveNumbers}
use Rattle.ch_table.specs.Sums.{AreStepNumbers, IsSumFrom}
use Rattle.ch_table.proofs.Rows.{block-at, block-count, rows-more}
use Rattle.ch_table.proofs.selection.fill_sums.Goals as goal

pub write-requires : goal.write-requires
write-requires g c =
    let sources = c.args.sources.now in
    let targets = c.args.columns.now.targets.items in
    let done = c.blocks-2.done in
    let count = c.min-count.result in
    let within : c.blocks-2.done + c.min-count.result ≤ length c.args.sources.now = omega (arith, c.min-count.ensures, c.blocks-2-test.true) in
    let back = sym c.blocks-2.invariant.search in
    let selection = subst (λ (h : Hierarchy). IsSelection h (lists_of c.args.columns.now)) back c.requires.selection in
    let many = block-count sources done count within in
    let all : All (λ s. s < length c.args.search.now.ranks) (take ((done + count) - done) (drop done sources)) = λ k d low.
    subst (λ s. s < length c.args.search.now.ranks) (sym (block-at sources done count within k d (omega (arith, low, many)))) (c.requires.sources (done + k) d (omega (arith, low, many, within))) in
    let nodes = subst (λ (h : Hierarchy). All (λ s. s < length h.ranks) (take ((done + count) - done) (drop done sources))) back all in
    let block : length (take ((done + count) - done) (drop done sources)) ≤ g.row.N = omega (arith, many, c.min-count.ensures) in
    let width : c.blocks-2.done * c.len-width.result ≡ c.blocks-2.done * length targets = ap (λ x. c.blocks-2.done * x) (omega (arith, c.len-width.ensures, c.args.columns.now.targets.ok)) in
    let up : (c.blocks-2.done + c.min-count.result) * length targets ≤ length c.args.sources.now * length targets = mul-le-mul_right (length targets) within in
    let parts : (c.blocks-2.done + c.min-count.result) * length targets ≡ c.blocks-2.done * length targets + c.min-count.result * length targets = add-mul c.blocks-2.done c.min-count.result (length targets) in
    let own : length (take ((done + count) - done) (drop done sources)) * length targets ≡ c.min-count.result * length targets = ap (λ x. x * length targets) many in
    let room : c.blocks-2.done * c.len-width.result + length (take ((done + count) - done) (drop done sources)) * length targets ≤ length c.blocks-2.rows =
    omega (arith, width, up, parts, own, c.requires.room, c.blocks-2.invariant.rows.room) in
    let sum_room : c.blocks-2.done * c.len-width.result + length (take ((done + count) - done) (drop done sources)) * length targets ≤ length c.blocks-2.sums =
    omega (arith, width, up, parts, own, c.requires.sum_room, c.blocks-2.invariant.sums.room) in
    let numbers = subst (λ (h : Hierarchy). HaveNumbers h c.args.numbers.now) back c.requires.numbers in
    let steps = subst (λ (h : Hierarchy). AreStepNumbers h c.args.numbers.now (lists_of c.args.columns.now) c.args.steps.now) back c.requires.steps in
    let kept = subst (λ (h : Hierarchy). length c.blocks-2.kept ≡ length h.ranks) back c.blocks-2.invariant.kept in
    (omega arith, (selection, (numbers, (steps, (kept, (nodes, (c.requires.few, (block, (room, sum_room)))))))))

pub blocks-2-preserved : goal.blocks-2-preserved
blocks-2-preserved g c =
    let h = c.args.search.now in
    let sources = c.args.sources.now in
    let targets = c.args.columns.now.targets.items in
    let done = c.blocks-2.done in
    let count = c.min-count.result in
    let within : c.blocks-2.done + c.min-count.result ≤ length c.args.sources.now = omega (arith, c.min-count.ensures, c.blocks-2-test.true) in
    let many = block-count sources done count within in
    let width : c.len-width.result ≡ length targets = omega (arith, c.len-width.ensures, c.args.columns.now.targets.ok) in
    let block = take ((done + count) - done) (drop done sources) in
    let zero : done * length targets ≡ 0 + done * length targets = omega arith in
    let own : AreRows (IsLengthFrom h) block targets (0 + done * length targets) count c.blocks-2.rows c.write.new.rows =
    subst (λ x. AreRows (IsLengthFrom h) block targets x count c.blocks-2.rows c.write.new.rows) zero
    (subst (λ n. AreRows (IsLengthFrom h) block targets (done * length targets) n c.blocks-2.rows c.write.new.rows) many
    (subst (λ w. AreRows (IsLengthFrom h) block targets (done * w) (length block) c.blocks-2.rows c.write.new.rows) width
    (subst (λ (k : Hierarchy). AreRows (IsLengthFrom k) block targets (done * c.len-width.result) (length block) c.blocks-2.rows c.write.new.rows) c.blocks-2.invariant.search c.in_ok-write.ensures.rows))) in
    let own_sums : AreRows (IsSumFrom h c.args.numbers.now) block targets (0 + done * length targets) count c.blocks-2.sums c.write.new.sums =
    subst (λ x. AreRows (IsSumFrom h c.args.numbers.now) block targets x count c.blocks-2.sums c.write.new.sums) zero
    (subst (λ n. AreRows (IsSumFrom h c.args.numbers.now) block targets (done * length targets) n c.blocks-2.sums c.write.new.sums) many
    (subst (λ w. AreRows (IsSumFrom h c.args.numbers.now) block targets (done * w) (length block) c.blocks-2.sums c.write.new.sums) width
    (subst (λ (k : Hierarchy). AreRows (IsSumFrom k c.args.numbers.now) block targets (done * c.len-width.result) (length block) c.blocks-2.sums c.write.new.sums) c.blocks-2.invariant.search c.in_ok-write.ensures.sums))) in
    record {
      search = c.in_ok-write.ensures.same ∙ c.blocks-2.invariant.search;
      kept = c.in_ok-write.ensures.kept ∙ c.blocks-2.invariant.kept;
      within = within;
      rows = rows-more block done count c.args.rows.now c.blocks-2.rows c.write.new.rows (λ i low. block-at sources done count within i 0 low) own c.blocks-2.invariant.rows;
      sums = rows-more block done count c.args.sums.now c.blocks-2.sums c.write.new.sums (λ i low. block-at sources done count within i 0 low) own_sums c.blocks-2.invariant.sums;
    }
