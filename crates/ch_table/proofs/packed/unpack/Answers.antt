use Rattle.std.proofs.Common.{ℕ, ◌≡◌, ◌+◌, ◌-◌, ◌*◌, ◌/◌, ◌%◌, ◌<◌, ◌≤◌, ◌∙◌, List, length, set, slice_index, ap, sym, inl, inr, arith}
use Rattle.std.proofs.Math.Nat.{mul-le-mul_right}
use Rattle.std.proofs.lemmas.Bool.{cases_eq}
use Rattle.std.proofs.lemmas.List.{get_or-set_same, get_or-set_other, length-set}
use Rattle.ch_table.specs.Packed.{sum_over}
use Rattle.ch_table.proofs.packed.unpack.Goals.{then-link-gt0, else-link-gt0}
use Rattle.ch_table.proofs.packed.unpack.Goals as goal

pub overflow_add-begin : goal.overflow_add-begin
overflow_add-begin g c =
    let at : ℕ = (c.begin-begin.result + slice_index c.args.packed.now c.lanes.lane % 1024) - 1 in
    let over = c.requires.over c.lanes.lane at c.lanes-test.true (omega (arith, c.begin-begin.ensures, c.if-link-gt0.true)) (omega (arith, c.begin-begin.ensures, c.if-link-gt0.true)) in
    omega (arith, over.step_in, c.args.steps.now.tails.ok)

pub sum_at-requires : goal.sum_at-requires
sum_at-requires g c =
    let over = c.requires.over c.lanes.lane ((c.begin-begin.result + slice_index c.args.packed.now c.lanes.lane % 1024) - 1) c.lanes-test.true (omega (arith, c.begin-begin.ensures, c.if-link-gt0.true)) (omega (arith, c.begin-begin.ensures, c.if-link-gt0.true)) in
    let one : 1 * (g.row.N * 8) ≤ length c.args.sums.now * (g.row.N * 8) = mul-le-mul_right (g.row.N * 8) (omega (arith, c.requires.place_in)) in
    (omega (arith, one, c.well_formed), (c.lanes-test.true, (c.requires.wide, over)))

pub lanes-preserved : goal.lanes-preserved
lanes-preserved g c =
    let n : ℕ = c.lanes.lane in
    let packed = c.args.packed.now in
    let tails = c.args.steps.now.tails.items in
    let numbers = c.args.numbers.now in
    let sums = c.args.sums.now in
    let was = c.lanes.invariant in
    let x : ℕ = slice_index c.args.packed.now c.lanes.lane / 1024 in
    let label_in : c.lanes.lane < length c.lanes.labels = omega (arith, c.lanes-test.true, was.count) in
    let own_in : c.lanes.lane < length c.lanes.own = omega (arith, c.lanes-test.true, was.sum_count) in
    let done = λ (j : ℕ) (low : j < c.lanes.lane + 1). elim (cases_eq j c.lanes.lane) as (λ e. slice_index (set c.lanes.labels c.lanes.lane (slice_index c.args.packed.now c.lanes.lane / 1024)) j ≡ slice_index c.args.packed.now j / 1024) [
      | inl here ↦ ap (slice_index (set c.lanes.labels n x)) here ∙ (get_or-set_same c.lanes.labels n x 0 label_in ∙ ap (λ i. slice_index packed i / 1024) (sym here))
      | inr other ↦ get_or-set_other c.lanes.labels n j x 0 other ∙ was.done j (omega (arith, low, other))
    ] in
    let left = λ (j : ℕ) (low : c.lanes.lane + 1 ≤ j). get_or-set_other c.lanes.labels n j x 0 (λ here. absurd (omega (arith, low, here))) ∙ was.left j (omega (arith, low)) in
    elim c.if-link-gt0.branch [
      | then-link-gt0 w ↦
          let v : ℕ = w.sum_at.result in
          let new = λ (j : ℕ). ap (λ (row : List ℕ). slice_index row j) w.own-is in
          record {
            count = length-set c.lanes.labels n x ∙ was.count;
            sum_count = ap (λ (row : List ℕ). length row) w.own-is ∙ (length-set c.lanes.own n v ∙ was.sum_count);
            done = done;
            left = left;
            none = λ j low zero. elim (cases_eq j c.lanes.lane) [
              | inl here ↦ absurd (omega (arith, zero, ap (slice_index packed) here, w.if-link-gt0))
              | inr other ↦ new j ∙ (get_or-set_other c.lanes.own n j v 0 other ∙ was.none j (omega (arith, low, other)) zero)
            ];
            some = λ j i low is from. elim (cases_eq j c.lanes.lane) [
              | inl here ↦
                  let same : (c.begin-begin.result + slice_index packed n % 1024) - 1 ≡ i = omega (arith, is, ap (slice_index packed) here, w.if-link-gt0) in
                  new j ∙ (ap (slice_index (set c.lanes.own n v)) here ∙ (get_or-set_same c.lanes.own n v 0 own_in
                  ∙ (w.sum_at.ensures ∙ ap (sum_over tails numbers sums n) same ∙ ap (λ k. sum_over tails numbers sums k i) (sym here))))
              | inr other ↦ new j ∙ (get_or-set_other c.lanes.own n j v 0 other ∙ was.some j i (omega (arith, low, other)) is from)
            ];
            rest = λ j low. new j ∙ (get_or-set_other c.lanes.own n j v 0 (λ here. absurd (omega (arith, low, here))) ∙ was.rest j (omega (arith, low)));
          }
      | else-link-gt0 w ↦
          let new = λ (j : ℕ). ap (λ (row : List ℕ). slice_index row j) w.own-is in
          record {
            count = length-set c.lanes.labels n x ∙ was.count;
            sum_count = ap (λ (row : List ℕ). length row) w.own-is ∙ was.sum_count;
            done = done;
            left = left;
            none = λ j low zero. elim (cases_eq j c.lanes.lane) [
              | inl here ↦ new j ∙ was.rest j (omega (arith, here))
              | inr other ↦ new j ∙ was.none j (omega (arith, low, other)) zero
            ];
            some = λ j i low is from. elim (cases_eq j c.lanes.lane) [
              | inl here ↦ absurd (omega (arith, is, from, ap (slice_index packed) here, w.if-link-gt0))
              | inr other ↦ new j ∙ was.some j i (omega (arith, low, other)) is from
            ];
            rest = λ j low. new j ∙ was.rest j (omega (arith, low));
          }
    ]
