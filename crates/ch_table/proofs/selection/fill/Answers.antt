use Rattle.std.proofs.Common.{◌≡◌, ◌+◌, ◌-◌, ◌*◌, ◌<◌, ◌≤◌, ◌∙◌, All, drop, length, take, ap, sym, subst, arith}
use Rattle.std.proofs.Math.Nat.{add-mul, mul-le-mul_right}
use Rattle.ch_graph.specs.Hierarchy.{Hierarchy}
use Rattle.ch_table.specs.Lengths.{AreRows, IsLengthFrom}
use Rattle.ch_table.specs.Selection.{IsSelection, lists_of}
use Rattle.ch_table.proofs.Rows.{block-at, block-count, rows-more}
use Rattle.ch_table.proofs.selection.fill.Goals as goal

pub write-requires : goal.write-requires
write-requires g c =
    let sources = c.args.sources.now in
    let targets = c.args.columns.now.targets.items in
    let done = c.blocks-2.done in
    let count = c.min-count.result in
    let within : c.blocks-2.done + c.min-count.result ≤ length c.args.sources.now = omega (arith, c.min-count.ensures, c.blocks-2-test.true) in
    let back = sym c.blocks-2.invariant.search in
    let selection = subst (λ (h : Hierarchy). IsSelection h (lists_of c.args.columns.now)) back c.requires.selection in
    let many = block-count sources done count within in
    let all : All (λ s. s < length c.args.search.now.ranks) (take ((done + count) - done) (drop done sources)) = λ k d low.
    subst (λ s. s < length c.args.search.now.ranks) (sym (block-at sources done count within k d (omega (arith, low, many)))) (c.requires.sources (done + k) d (omega (arith, low, many, within))) in
    let nodes = subst (λ (h : Hierarchy). All (λ s. s < length h.ranks) (take ((done + count) - done) (drop done sources))) back all in
    let block : length (take ((done + count) - done) (drop done sources)) ≤ g.row.N = omega (arith, many, c.min-count.ensures) in
    let width : c.blocks-2.done * c.len-width.result ≡ c.blocks-2.done * length targets = ap (λ x. c.blocks-2.done * x) (omega (arith, c.len-width.ensures, c.args.columns.now.targets.ok)) in
    let up : (c.blocks-2.done + c.min-count.result) * length targets ≤ length c.args.sources.now * length targets = mul-le-mul_right (length targets) within in
    let parts : (c.blocks-2.done + c.min-count.result) * length targets ≡ c.blocks-2.done * length targets + c.min-count.result * length targets = add-mul c.blocks-2.done c.min-count.result (length targets) in
    let own : length (take ((done + count) - done) (drop done sources)) * length targets ≡ c.min-count.result * length targets = ap (λ x. x * length targets) many in
    let room : (c.args.from + c.blocks-2.done * c.len-width.result) + length (take ((done + count) - done) (drop done sources)) * length targets ≤ length c.blocks-2.rows =
    omega (arith, width, up, parts, own, c.requires.room, c.blocks-2.invariant.rows.room) in
    (omega arith, (selection, (nodes, (c.requires.few, (block, room)))))

pub blocks-2-preserved : goal.blocks-2-preserved
blocks-2-preserved g c =
    let h = c.args.search.now in
    let sources = c.args.sources.now in
    let targets = c.args.columns.now.targets.items in
    let done = c.blocks-2.done in
    let count = c.min-count.result in
    let within : c.blocks-2.done + c.min-count.result ≤ length c.args.sources.now = omega (arith, c.min-count.ensures, c.blocks-2-test.true) in
    let many = block-count sources done count within in
    let width : c.len-width.result ≡ length targets = omega (arith, c.len-width.ensures, c.args.columns.now.targets.ok) in
    let block = take ((done + count) - done) (drop done sources) in
    let own : AreRows (IsLengthFrom h) block targets (c.args.from + done * length targets) count c.blocks-2.rows c.write.new.rows =
    subst (λ n. AreRows (IsLengthFrom h) block targets (c.args.from + done * length targets) n c.blocks-2.rows c.write.new.rows) many
    (subst (λ w. AreRows (IsLengthFrom h) block targets (c.args.from + done * w) (length block) c.blocks-2.rows c.write.new.rows) width
    (subst (λ (k : Hierarchy). AreRows (IsLengthFrom k) block targets (c.args.from + done * c.len-width.result) (length block) c.blocks-2.rows c.write.new.rows) c.blocks-2.invariant.search c.in_ok-write.ensures.rows)) in
    record {
      search = c.in_ok-write.ensures.kept ∙ c.blocks-2.invariant.search;
      within = within;
      rows = rows-more block done count c.args.rows.now c.blocks-2.rows c.write.new.rows (λ i low. block-at sources done count within i 0 low) own c.blocks-2.invariant.rows;
    }
