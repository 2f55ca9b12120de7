use Rattle.std.proofs.Common.{ℕ, ◌≡◌, ◌+◌, ◌-◌, ◌*◌, ◌%◌, ◌^◌, ◌<◌, ◌≤◌, ◌∙◌, List, [], get_or, length, slice_index, ap, sym, subst, inl, inr, arith}
use Rattle.std.proofs.Math.Nat.{mul-le-mul_right}
use Rattle.std.proofs.lemmas.Bool.{cases_lt}
use Rattle.std.proofs.lemmas.List.{get_or_default, get_or_past, length-map}
use Rattle.ch_query.specs.declared.seed.Seed.{Seed}
use Rattle.ch_cost.specs.Cost.{length_of}
use Rattle.ch_table.specs.Labels.{IsLabel, IsLeastOver, far, lane_of}
use Rattle.ch_table.specs.Selection.{IsLaidDown, IsSelection, IsTable, Selection, lists_of}
use Rattle.ch_table.specs.declared.table.Table.{Table}
use Rattle.ch_table.proofs.LeastWays.{Comes}
use Rattle.ch_query.specs.Sums.{HaveNumbers, IsSummedWay}
use Rattle.ch_graph.specs.Hierarchy.{Hierarchy}
use Rattle.ch_table.specs.Packed.{HasSumOver}
use Rattle.ch_table.specs.Sums.{AreStepNumbers, IsSumOver}
use Rattle.ch_table.proofs.StepLinks.{link-of}
use Rattle.ch_table.proofs.SumLanes.{small-over, summed-over}
use Rattle.ch_table.proofs.Sweeping.{IsStepAt, step-at, least-none, least-over, least-all}
use Rattle.ch_table.proofs.Packing.{over-links, won-small, won-summed}
use Rattle.ch_table.proofs.table.Table.least_sums.Goals as goal

-- the step that a turn looks at
step : (table : Table) → IsTable table → (place at end : ℕ) → place < length table.columns.now.ranks.items → slice_index (lists_of table.columns.now).first place ≤ at → at < end → end ≡ slice_index (lists_of table.columns.now).first (place + 1) → IsStepAt (lists_of table.columns.now) at
step table is place at end place_in from before whole = step-at table.hierarchy.now (lists_of table.columns.now) place at is.selection place_in from (omega (arith, before, whole))

-- the number of a link
number-small : (h : Hierarchy) (s : Selection) → IsSelection h s → (all numbers : List ℕ) → HaveNumbers h all → AreStepNumbers h all s numbers → (p at : ℕ) → p < length s.ranks → slice_index s.first p ≤ at → at < slice_index s.first (p + 1) → slice_index numbers at ≤ 2 ^ 36
number-small h s selection all numbers have are p at p_in from before =
    let is = link-of h s p at selection p_in from before in
    omega (arith, are.each p at is.link p_in from before is.leads, have.small is.link 0 (omega (arith, is.leads.climbs.within, have.count)))

pub steps-init : goal.steps-init
steps-init g c =
    let table = c.args.self.now in
    let h = table.hierarchy.now in
    let first = (lists_of table.columns.now).first in
    let ranks = table.columns.now.ranks.items in
    let place_in : c.args.place < length ranks = omega (arith, c.requires.place_in, c.requires.lanes.count) in
    let begin : c.begin-begin.result ≡ slice_index first c.args.place = c.begin-begin.ensures ∙ ap (λ (fs : List ℕ). slice_index fs c.args.place) c.requires.steps.first in
    let end : c.begin-end.result ≡ slice_index first (c.args.place + 1) = c.begin-end.ensures ∙ ap (λ (fs : List ℕ). slice_index fs (c.args.place + 1)) c.requires.steps.first in
    let none : 0 ≡ c.begin-begin.result - slice_index first c.args.place = omega (arith, begin) in
    let read : c.index-labels-place.result ≡ get_or c.args.labels.now c.args.place [] = c.index-labels-place.is ∙ get_or_default c.args.labels.now c.args.place c.index-labels-place.result [] c.requires.place_in in
    let own_in : c.args.place < length c.args.sums.now = omega (arith, place_in, c.requires.sums.count) in
    let own_read : c.index-sums-place.result ≡ get_or c.args.sums.now c.args.place [] = c.index-sums-place.is ∙ get_or_default c.args.sums.now c.args.place c.index-sums-place.result [] own_in in
    let own = c.requires.table.selection.laid c.args.place place_in in
    record {
      from = omega (arith, begin);
      within = omega (arith, begin, end, own.next);
      end = end;
      count = ap (λ (row : List ℕ). length row) read ∙ c.requires.lanes.wide c.args.place [] c.requires.place_in;
      small = λ lane. subst (λ (row : List ℕ). slice_index row lane ≤ far table.bound) (sym read) (c.requires.small lane c.args.place);
      least = λ (starts : List Seed) (lane : ℕ) lane_in swept (laid : IsLaidDown h ranks first (lists_of table.columns.now).tails (lists_of table.columns.now).lengths c.args.place).
          subst (λ (row : List ℕ). IsLabel (Comes h starts table.bound (slice_index ranks c.args.place) laid.are.links (c.begin-begin.result - slice_index first c.args.place)) table.bound (slice_index row lane)) (sym read)
          (subst (λ n. IsLabel (Comes h starts table.bound (slice_index ranks c.args.place) laid.are.links n) table.bound (lane_of c.args.labels.now lane c.args.place)) none
          (least-none h starts table.bound ranks first (lists_of table.columns.now).tails (lists_of table.columns.now).lengths (lane_of c.args.labels.now lane) c.args.place place_in swept laid));
      sum_count = ap (λ (row : List ℕ). length row) own_read ∙ c.requires.sums.wide c.args.place [] own_in;
      small_sums = λ lane. subst (λ (row : List ℕ). slice_index row lane ≤ (length h.ranks + (length h.ranks - slice_index ranks c.args.place)) * 2 ^ 36) (sym own_read) (c.requires.small_sums lane c.args.place);
      summed = λ (all : List ℕ) (starts : ℕ → List Seed) are have. record {
        each = λ lane lane_in near.
            let label : slice_index c.index-labels-place.result lane ≡ lane_of c.args.labels.now lane c.args.place = ap (λ (row : List ℕ). slice_index row lane) read in
            let sum : slice_index c.index-sums-place.result lane ≡ lane_of c.args.sums.now lane c.args.place = ap (λ (row : List ℕ). slice_index row lane) own_read in
            subst (λ m. IsSummedWay h all (starts lane) (slice_index ranks c.args.place) (slice_index c.index-labels-place.result lane) m) (sym sum)
            (subst (λ n. IsSummedWay h all (starts lane) (slice_index ranks c.args.place) n (lane_of c.args.sums.now lane c.args.place)) (sym label) (have.each lane c.args.place lane_in place_in (omega (arith, near, label))));
      };
    }

pub index-requires : goal.index-requires
index-requires g c =
    let at = step c.args.self.now c.requires.table c.args.place c.steps.at c.begin-end.result (omega (arith, c.requires.place_in, c.requires.lanes.count)) c.steps.invariant.from c.steps-test.true c.steps.invariant.end in
    omega (arith, at.tails, ap (λ (ts : List ℕ). length ts) c.requires.steps.tails, c.args.steps.now.tails.ok)

pub bounds-labels-tail : goal.bounds-labels-tail
bounds-labels-tail g c =
    let tails = (lists_of c.args.self.now.columns.now).tails in
    let at = step c.args.self.now c.requires.table c.args.place c.steps.at c.begin-end.result (omega (arith, c.requires.place_in, c.requires.lanes.count)) c.steps.invariant.from c.steps-test.true c.steps.invariant.end in
    let tail : c.index.result.now ≡ slice_index tails c.steps.at = c.index.ensures ∙ (get_or_default c.args.steps.now.tails.items c.steps.at c.index.result.now 0 (omega (arith, at.tails, ap (λ (ts : List ℕ). length ts) c.requires.steps.tails)) ∙ ap (λ (ts : List ℕ). slice_index ts c.steps.at) c.requires.steps.tails) in
    omega (arith, tail, at.tail_in, c.requires.lanes.count)

pub offset_bounds-labels-tail : goal.offset_bounds-labels-tail
offset_bounds-labels-tail g c =
    let tails = (lists_of c.args.self.now.columns.now).tails in
    let at = step c.args.self.now c.requires.table c.args.place c.steps.at c.begin-end.result (omega (arith, c.requires.place_in, c.requires.lanes.count)) c.steps.invariant.from c.steps-test.true c.steps.invariant.end in
    let tail : c.index.result.now ≡ slice_index tails c.steps.at = c.index.ensures ∙ (get_or_default c.args.steps.now.tails.items c.steps.at c.index.result.now 0 (omega (arith, at.tails, ap (λ (ts : List ℕ). length ts) c.requires.steps.tails)) ∙ ap (λ (ts : List ℕ). slice_index ts c.steps.at) c.requires.steps.tails) in
    omega (arith, tail, at.tail_in, c.requires.lanes.count)

pub bounds-sums-tail : goal.bounds-sums-tail
bounds-sums-tail g c =
    let tails = (lists_of c.args.self.now.columns.now).tails in
    let at = step c.args.self.now c.requires.table c.args.place c.steps.at c.begin-end.result (omega (arith, c.requires.place_in, c.requires.lanes.count)) c.steps.invariant.from c.steps-test.true c.steps.invariant.end in
    let tail : c.index.result.now ≡ slice_index tails c.steps.at = c.index.ensures ∙ (get_or_default c.args.steps.now.tails.items c.steps.at c.index.result.now 0 (omega (arith, at.tails, ap (λ (ts : List ℕ). length ts) c.requires.steps.tails)) ∙ ap (λ (ts : List ℕ). slice_index ts c.steps.at) c.requires.steps.tails) in
    omega (arith, tail, at.tail_in, c.requires.sums.count)

pub offset_bounds-sums-tail : goal.offset_bounds-sums-tail
offset_bounds-sums-tail g c =
    let tails = (lists_of c.args.self.now.columns.now).tails in
    let at = step c.args.self.now c.requires.table c.args.place c.steps.at c.begin-end.result (omega (arith, c.requires.place_in, c.requires.lanes.count)) c.steps.invariant.from c.steps-test.true c.steps.invariant.end in
    let tail : c.index.result.now ≡ slice_index tails c.steps.at = c.index.ensures ∙ (get_or_default c.args.steps.now.tails.items c.steps.at c.index.result.now 0 (omega (arith, at.tails, ap (λ (ts : List ℕ). length ts) c.requires.steps.tails)) ∙ ap (λ (ts : List ℕ). slice_index ts c.steps.at) c.requires.steps.tails) in
    omega (arith, tail, at.tail_in, c.requires.sums.count)

pub bounds-numbers-at : goal.bounds-numbers-at
bounds-numbers-at g c =
    let at = step c.args.self.now c.requires.table c.args.place c.steps.at c.begin-end.result (omega (arith, c.requires.place_in, c.requires.lanes.count)) c.steps.invariant.from c.steps-test.true c.steps.invariant.end in
    omega (arith, at.tails, c.requires.numbers.2.count)

pub offset_bounds-numbers-at : goal.offset_bounds-numbers-at
offset_bounds-numbers-at g c =
    let at = step c.args.self.now c.requires.table c.args.place c.steps.at c.begin-end.result (omega (arith, c.requires.place_in, c.requires.lanes.count)) c.steps.invariant.from c.steps-test.true c.steps.invariant.end in
    omega (arith, at.tails, c.requires.numbers.2.count, c.type_inv.numbers)

pub length-requires : goal.length-requires
length-requires g c =
    let at = step c.args.self.now c.requires.table c.args.place c.steps.at c.begin-end.result (omega (arith, c.requires.place_in, c.requires.lanes.count)) c.steps.invariant.from c.steps-test.true c.steps.invariant.end in
    omega (arith, at.lengths, ap (λ (ls : List ℕ). length ls) c.requires.steps.lengths, length-map c.args.steps.now.lengths.items g.W.Number.number)

pub pass_over_sums-requires : goal.pass_over_sums-requires
pass_over_sums-requires g c =
    let table = c.args.self.now in
    let labels = c.args.labels.now in
    let at = step table c.requires.table c.args.place c.steps.at c.begin-end.result (omega (arith, c.requires.place_in, c.requires.lanes.count)) c.steps.invariant.from c.steps-test.true c.steps.invariant.end in
    let long : c.length.result ≡ slice_index (lists_of table.columns.now).lengths c.steps.at = c.length.ensures ∙ ap (λ (ls : List ℕ). slice_index ls c.steps.at) c.requires.steps.lengths in
    let tails = (lists_of table.columns.now).tails in
    let tail : c.index.result.now ≡ slice_index tails c.steps.at = c.index.ensures ∙ (get_or_default c.args.steps.now.tails.items c.steps.at c.index.result.now 0 (omega (arith, at.tails, ap (λ (ts : List ℕ). length ts) c.requires.steps.tails)) ∙ ap (λ (ts : List ℕ). slice_index ts c.steps.at) c.requires.steps.tails) in
    let tail_in : c.index.result.now < length labels = omega (arith, tail, at.tail_in, c.requires.lanes.count) in
    let read : c.index-labels-tail.result ≡ get_or labels c.index.result.now [] = c.index-labels-tail.is ∙ get_or_default labels c.index.result.now c.index-labels-tail.result [] tail_in in
    let own_read : c.index-sums-tail.result ≡ get_or c.args.sums.now c.index.result.now [] = c.index-sums-tail.is ∙ get_or_default c.args.sums.now c.index.result.now c.index-sums-tail.result [] (omega (arith, tail, at.tail_in, c.requires.sums.count)) in
    let some : 1 ≤ length labels = omega (arith, c.requires.place_in) in
    let one : 1 * (g.row.N * 8) ≤ length labels * (g.row.N * 8) = mul-le-mul_right (g.row.N * 8) some in (
      omega (arith, one, c.well_formed),
      (
        λ lane. subst (λ (row : List ℕ). slice_index row lane ≤ 4611686018427387905) (sym read) (small lane),
        (
          omega (arith, long, at.short),
          (
            λ lane. subst (λ (row : List ℕ). slice_index row lane ≤ 4611686018427387904) (sym own_read) (small_sum lane),
            number,
          ),
        ),
      ),
    )
  where
    small : (lane : ℕ) → lane_of c.args.labels.now lane c.index.result.now ≤ 4611686018427387905
    small lane = omega (arith, c.requires.small lane c.index.result.now, c.requires.table.bound)

    small_sum : (lane : ℕ) → lane_of c.args.sums.now lane c.index.result.now ≤ 4611686018427387904
    small_sum lane = omega (arith, c.requires.small_sums lane c.index.result.now, c.requires.table.made.few_nodes)

    number : slice_index c.args.numbers.now c.steps.at ≤ 68719476736
    number = number-small c.args.self.now.hierarchy.now (lists_of c.args.self.now.columns.now) c.requires.table.selection c.requires.numbers.0 c.args.numbers.now c.requires.numbers.1 c.requires.numbers.2 c.args.place c.steps.at
        (omega (arith, c.requires.place_in, c.requires.lanes.count)) c.steps.invariant.from (omega (arith, c.steps-test.true, c.steps.invariant.end))

pub steps-preserved : goal.steps-preserved
steps-preserved g c =
    let table = c.args.self.now in
    let h = table.hierarchy.now in
    let first = (lists_of table.columns.now).first in
    let tails = (lists_of table.columns.now).tails in
    let lengths = (lists_of table.columns.now).lengths in
    let ranks = table.columns.now.ranks.items in
    let labels = c.args.labels.now in
    let place_in : c.args.place < length ranks = omega (arith, c.requires.place_in, c.requires.lanes.count) in
    let before : c.steps.at < slice_index first (c.args.place + 1) = omega (arith, c.steps-test.true, c.steps.invariant.end) in
    let at = step table c.requires.table c.args.place c.steps.at c.begin-end.result place_in c.steps.invariant.from c.steps-test.true c.steps.invariant.end in
    let tail : c.index.result.now ≡ slice_index tails c.steps.at = c.index.ensures ∙ (get_or_default c.args.steps.now.tails.items c.steps.at c.index.result.now 0 (omega (arith, at.tails, ap (λ (ts : List ℕ). length ts) c.requires.steps.tails)) ∙ ap (λ (ts : List ℕ). slice_index ts c.steps.at) c.requires.steps.tails) in
    let long : c.length.result ≡ slice_index lengths c.steps.at = c.length.ensures ∙ ap (λ (ls : List ℕ). slice_index ls c.steps.at) c.requires.steps.lengths in
    let read : c.index-labels-tail.result ≡ get_or labels (slice_index tails c.steps.at) [] = c.index-labels-tail.is ∙ get_or_default labels c.index.result.now c.index-labels-tail.result [] (omega (arith, tail, at.tail_in, c.requires.lanes.count)) ∙ ap (λ i. get_or labels i []) tail in
    let over = λ (lane : ℕ) (lane_in : lane < g.row.N).
    subst (λ (row : List ℕ). IsLeastOver (slice_index c.steps.least lane) (slice_index row lane + c.length.result) (slice_index c.pass_over_sums.new.least lane)) read (c.pass_over_sums.ensures.least lane lane_in) in
    let is = link-of h (lists_of table.columns.now) c.args.place c.steps.at c.requires.table.selection place_in c.steps.invariant.from before in
    let low : slice_index c.args.numbers.now c.steps.at ≤ 2 ^ 36 = number-small h (lists_of table.columns.now) c.requires.table.selection c.requires.numbers.0 c.args.numbers.now c.requires.numbers.1 c.requires.numbers.2 c.args.place c.steps.at place_in c.steps.invariant.from before in
    let own_read : c.index-sums-tail.result ≡ get_or c.args.sums.now (slice_index tails c.steps.at) [] = c.index-sums-tail.is ∙ get_or_default c.args.sums.now c.index.result.now c.index-sums-tail.result [] (omega (arith, tail, at.tail_in, c.requires.sums.count)) ∙ ap (λ i. get_or c.args.sums.now i []) tail in
    let sum-over = λ (lane : ℕ) (lane_in : lane < g.row.N).
    subst (λ (row : List ℕ). IsSumOver (slice_index c.steps.least lane) (lane_of labels lane (slice_index tails c.steps.at) + c.length.result) (slice_index c.steps.own lane) (slice_index row lane + slice_index c.args.numbers.now c.steps.at) (slice_index c.pass_over_sums.new.sums lane)) own_read
    (subst (λ (row : List ℕ). IsSumOver (slice_index c.steps.least lane) (slice_index row lane + c.length.result) (slice_index c.steps.own lane) (slice_index c.index-sums-tail.result lane + (slice_index c.args.numbers.now c.steps.at)) (slice_index c.pass_over_sums.new.sums lane)) read (c.pass_over_sums.ensures.sums lane lane_in)) in
    record {
      from = omega (arith, c.steps.invariant.from);
      within = omega (arith, c.steps-test.true);
      end = c.steps.invariant.end;
      count = c.pass_over_sums.ensures.count;
      small = λ lane. elim (cases_lt lane g.row.N) [
        | inl lane_in ↦ no-more (slice_index c.steps.least lane) (lane_of labels lane (slice_index tails c.steps.at) + c.length.result) (slice_index c.pass_over_sums.new.least lane) (far table.bound) (over lane lane_in) (c.steps.invariant.small lane)
        | inr past ↦
            let none : slice_index c.pass_over_sums.new.least lane ≡ 0 = get_or_past c.pass_over_sums.new.least lane 0 (omega (arith, past, c.pass_over_sums.ensures.count)) in
            omega (arith, none)
      ];
      least = λ (starts : List Seed) (lane : ℕ) lane_in swept (laid : IsLaidDown h ranks first tails lengths c.args.place).
          least-over h starts table.bound ranks first tails lengths (lane_of labels lane) c.args.place place_in swept laid c.steps.at c.steps.invariant.from before
          (slice_index c.steps.least lane) (slice_index c.pass_over_sums.new.least lane) c.length.result long (over lane lane_in) (c.steps.invariant.least starts lane lane_in swept laid);
      sum_count = c.pass_over_sums.ensures.sum_count;
      small_sums = λ lane. elim (cases_lt lane g.row.N) [
        | inl lane_in ↦
            small-over h c.requires.numbers.0 (lists_of table.columns.now) c.args.place c.steps.at is (length h.ranks) (slice_index c.steps.least lane) (lane_of labels lane (slice_index tails c.steps.at) + c.length.result) (slice_index c.steps.own lane) 0
            (slice_index c.pass_over_sums.new.sums lane) (slice_index c.args.numbers.now c.steps.at) (lane_of c.args.sums.now lane (slice_index tails c.steps.at)) (sum-over lane lane_in) (c.requires.table.selection.ranks_in (slice_index tails c.steps.at) 0 is.tail_in) low
            (c.steps.invariant.small_sums lane) (c.requires.small_sums lane (slice_index tails c.steps.at))
        | inr past ↦
            let none : slice_index c.pass_over_sums.new.sums lane ≡ 0 = get_or_past c.pass_over_sums.new.sums lane 0 (omega (arith, past, c.pass_over_sums.ensures.sum_count)) in
            omega (arith, none)
      ];
      summed = λ (all : List ℕ) (starts : ℕ → List Seed) are have. record {
        each = λ lane lane_in near.
            summed-over h all (lists_of table.columns.now) c.args.place c.steps.at is long (are.each c.args.place c.steps.at is.link place_in c.steps.invariant.from before is.leads) (length_of table.bound)
            (slice_index c.steps.least lane) (slice_index c.pass_over_sums.new.least lane) (lane_of labels lane (slice_index tails c.steps.at)) (slice_index c.steps.own lane) (lane_of c.args.sums.now lane (slice_index tails c.steps.at))
            (slice_index c.pass_over_sums.new.sums lane) (over lane lane_in) (sum-over lane lane_in) (λ low. (c.steps.invariant.summed all starts are have).each lane lane_in low)
            (λ low. have.each lane (slice_index tails c.steps.at) lane_in is.tail_in low) near;
      };
    }
  where
    no-more : (old sum new most : ℕ) → IsLeastOver old sum new → old ≤ most → new ≤ most
    no-more old sum new most is low = elim (cases_lt sum old) [ inl less ↦ omega (arith, is.less less, less, low) | inr more ↦ omega (arith, is.stays more, low) ]

pub returns-clause-least : goal.returns-clause-least
returns-clause-least g c starts lane lane_in swept =
    let table = c.args.self.now in
    let h = table.hierarchy.now in
    let first = (lists_of table.columns.now).first in
    let ranks = table.columns.now.ranks.items in
    let place_in : c.args.place < length ranks = omega (arith, c.requires.place_in, c.requires.lanes.count) in
    let laid = c.requires.table.selection.laid c.args.place place_in in
    least-all h starts table.bound ranks first (lists_of table.columns.now).tails (lists_of table.columns.now).lengths (lane_of c.args.labels.now lane) c.args.place place_in swept laid c.steps.at (slice_index c.steps.least lane)
    (omega (arith, c.steps.invariant.within, c.steps.invariant.end)) (omega (arith, c.steps-test.false, c.steps.invariant.end)) (c.steps.invariant.least starts lane lane_in swept laid)

-- By packed labels

pub unpack-requires : goal.unpack-requires
unpack-requires g c =
    let table = c.args.self.now in
    let steps = c.requires.steps in
    let one : 1 * (g.row.N * 8) ≤ length c.args.labels.now * (g.row.N * 8) = mul-le-mul_right (g.row.N * 8) (omega (arith, c.requires.place_in)) in (
      omega (arith, one, c.well_formed),
      (
        omega (arith, place_in, c.requires.sums.count),
        (
          c.requires.sums.wide,
          (
            omega (arith, place_in, c.requires.table.selection.count, ap (λ (fs : List ℕ). length fs) steps.first, length-map c.args.steps.now.first.items g.W.Number.number),
            λ lane at lane_in here from. subst (λ (ts : List ℕ). HasSumOver ts c.args.numbers.now c.args.sums.now lane at) (sym steps.tails)
                (over lane at (subst (λ (fs : List ℕ). slice_index fs c.args.place ≤ at) steps.first from)
                ((c.least_packed-packed.ensures.won lane lane_in).over at (subst (λ (fs : List ℕ). at + 1 ≡ slice_index fs c.args.place + slice_index c.least_packed-packed.result lane % 1024) steps.first here) (subst (λ (fs : List ℕ). slice_index fs c.args.place ≤ at) steps.first from)).0),
          ),
        ),
      ),
    )
  where
    place_in : c.args.place < length c.args.self.now.columns.now.ranks.items
    place_in = omega (arith, c.requires.place_in, c.requires.lanes.count)

    over : (lane at : ℕ) → slice_index (lists_of c.args.self.now.columns.now).first c.args.place ≤ at → at < slice_index (lists_of c.args.self.now.columns.now).first (c.args.place + 1) → HasSumOver (lists_of c.args.self.now.columns.now).tails c.args.numbers.now c.args.sums.now lane at
    over lane at from before =
        let h = c.args.self.now.hierarchy.now in
        let s = lists_of c.args.self.now.columns.now in
        let is = link-of h s c.args.place at c.requires.table.selection place_in from before in
        let number = number-small h s c.requires.table.selection c.requires.numbers.0 c.args.numbers.now c.requires.numbers.1 c.requires.numbers.2 c.args.place at place_in from before in
        record {
          step_in = is.within;
          number_in = omega (arith, is.within, c.requires.numbers.2.count);
          tail_in = omega (arith, is.tail_in, c.requires.sums.count);
          small = omega (arith, number, c.requires.small_sums lane (slice_index s.tails at), c.requires.table.made.few_nodes);
        }

pub returns-then-are_packed-clause-small_sums : goal.returns-then-are_packed-clause-small_sums
returns-then-are_packed-clause-small_sums g c lane = elim (cases_lt lane g.row.N) [
  | inl lane_in ↦
      let table = c.args.self.now in
      let h = table.hierarchy.now in
      let s = lists_of table.columns.now in
      let p_in : c.args.place < length table.columns.now.ranks.items = omega (arith, c.requires.place_in, c.requires.lanes.count) in
      won-small h s c.requires.table.selection c.args.place p_in (lane_of c.args.labels.now lane) (lane_of c.args.sums.now lane) (slice_index c.least_packed-packed.result lane) (slice_index c.unpack.result.1 lane) c.args.numbers.now (c.least_packed-packed.ensures.won lane lane_in)
      (c.unpack.ensures.own lane lane_in) (over-links _ _ s c.requires.steps.first c.requires.steps.tails c.args.place (slice_index c.least_packed-packed.result lane) c.args.numbers.now c.args.sums.now lane (slice_index c.unpack.result.1 lane) (λ at. c.unpack.ensures.over lane at lane_in))
      (length h.ranks) (λ at from before. number-small h s c.requires.table.selection c.requires.numbers.0 c.args.numbers.now c.requires.numbers.1 c.requires.numbers.2 c.args.place at p_in from before)
      (λ q q_in. c.requires.table.selection.ranks_in q 0 q_in) (λ q. c.requires.small_sums lane q)
  | inr past ↦
      let none : slice_index c.unpack.result.1 lane ≡ 0 = get_or_past c.unpack.result.1 lane 0 (omega (arith, past, c.unpack.ensures.sum_count)) in
      omega (arith, none)
]

pub returns-then-are_packed-clause-summed : goal.returns-then-are_packed-clause-summed
returns-then-are_packed-clause-summed g c all starts are have = record {
  each = λ lane lane_in near.
      let table = c.args.self.now in
      let h = table.hierarchy.now in
      let s = lists_of table.columns.now in
      let p_in : c.args.place < length table.columns.now.ranks.items = omega (arith, c.requires.place_in, c.requires.lanes.count) in
      let done = c.unpack.ensures.labels lane in
      subst (λ n. IsSummedWay h all (starts lane) (slice_index s.ranks c.args.place) n (slice_index c.unpack.result.1 lane)) (sym done)
      (won-summed h s c.requires.table.selection c.args.place p_in (lane_of c.args.labels.now lane) (lane_of c.args.sums.now lane) (slice_index c.least_packed-packed.result lane) (slice_index c.unpack.result.1 lane) c.args.numbers.now (c.least_packed-packed.ensures.won lane lane_in)
      (c.unpack.ensures.own lane lane_in) (over-links _ _ s c.requires.steps.first c.requires.steps.tails c.args.place (slice_index c.least_packed-packed.result lane) c.args.numbers.now c.args.sums.now lane (slice_index c.unpack.result.1 lane) (λ at. c.unpack.ensures.over lane at lane_in))
      all (starts lane) (length_of table.bound) are (λ q q_in low_q. have.each lane q lane_in q_in low_q) (omega (arith, near, done)));
}
