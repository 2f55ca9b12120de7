use Rattle.std.proofs.Common.{ℕ, ◌≡◌, ◌+◌, ◌-◌, ◌*◌, ◌/◌, ◌%◌, ◌<◌, ◌≤◌, ◌∙◌, List, [], get_or, length, slice_index, ap, sym, subst, inl, inr, arith}
use Rattle.std.proofs.Math.Nat.{mul-le-mul_right}
use Rattle.std.proofs.lemmas.Bool.{cases_lt}
use Rattle.std.proofs.lemmas.List.{get_or_default, get_or_past, length-map}
use Rattle.ch_query.specs.declared.seed.Seed.{Seed}
use Rattle.ch_table.specs.Labels.{IsLabel, IsLeastOver, far, lane_of}
use Rattle.ch_table.specs.Selection.{IsLaidDown, IsTable, lists_of}
use Rattle.ch_table.specs.declared.table.Table.{Table}
use Rattle.ch_table.proofs.LeastWays.{Comes}
use Rattle.ch_cost.specs.Cost.{length_of}
use Rattle.ch_table.specs.Packed.{IsWon}
use Rattle.ch_table.proofs.StepLinks.{link-of}
use Rattle.ch_table.proofs.Packing.{packed-low, packed-over, step-short, won-over}
use Rattle.ch_table.proofs.Sweeping.{IsStepAt, step-at, least-none, least-over, least-all}
use Rattle.ch_table.proofs.table.Table.least_packed.Goals as goal

-- the step that a turn looks at
step : (table : Table) → IsTable table → (place at end : ℕ) → place < length table.columns.now.ranks.items → slice_index (lists_of table.columns.now).first place ≤ at → at < end → end ≡ slice_index (lists_of table.columns.now).first (place + 1) → IsStepAt (lists_of table.columns.now) at
step table is place at end place_in from before whole = step-at table.hierarchy.now (lists_of table.columns.now) place at is.selection place_in from (omega (arith, before, whole))

pub pack-packed-requires : goal.pack-packed-requires
pack-packed-requires g c =
    let read : c.index-labels-place.result ≡ get_or c.args.labels.now c.args.place [] = c.index-labels-place.is ∙ get_or_default c.args.labels.now c.args.place c.index-labels-place.result [] c.requires.place_in in
    let some : 1 ≤ length c.args.labels.now = omega (arith, c.requires.place_in) in
    let one : 1 * (g.row.N * 8) ≤ length c.args.labels.now * (g.row.N * 8) = mul-le-mul_right (g.row.N * 8) some in
    (omega (arith, one, c.well_formed), λ lane. subst (λ (row : List ℕ). slice_index row lane ≤ 1125899906842624) (sym read) (near lane))
  where
    near : (lane : ℕ) → lane_of c.args.labels.now lane c.args.place ≤ 1125899906842624
    near lane = omega (arith, c.requires.small lane c.args.place, c.requires.packed.near)

pub steps-init : goal.steps-init
steps-init g c =
    let table = c.args.self.now in
    let h = table.hierarchy.now in
    let first = (lists_of table.columns.now).first in
    let ranks = table.columns.now.ranks.items in
    let labels = c.args.labels.now in
    let packed = c.pack-packed.result in
    let place_in : c.args.place < length ranks = omega (arith, c.requires.place_in, c.requires.lanes.count) in
    let begin : c.begin-begin.result ≡ slice_index first c.args.place = c.begin-begin.ensures ∙ ap (λ (fs : List ℕ). slice_index fs c.args.place) c.requires.steps.first in
    let end : c.begin-end.result ≡ slice_index first (c.args.place + 1) = c.begin-end.ensures ∙ ap (λ (fs : List ℕ). slice_index fs (c.args.place + 1)) c.requires.steps.first in
    let none : 0 ≡ c.begin-begin.result - slice_index first c.args.place = omega (arith, begin) in
    let read : c.index-labels-place.result ≡ get_or c.args.labels.now c.args.place [] = c.index-labels-place.is ∙ get_or_default c.args.labels.now c.args.place c.index-labels-place.result [] c.requires.place_in in
    let own = c.requires.table.selection.laid c.args.place place_in in
    let scaled = λ (lane : ℕ). subst (λ (row : List ℕ). slice_index c.pack-packed.result lane ≡ slice_index row lane * 1024) read (c.pack-packed.ensures.labels lane) in
    let label = λ (lane : ℕ). unscaled (slice_index c.pack-packed.result lane) (lane_of c.args.labels.now lane c.args.place) (scaled lane) in
    record {
      begin = begin;
      from = omega (arith, begin);
      within = omega (arith, begin, end, own.next);
      end = end;
      count = c.pack-packed.ensures.count;
      small = λ lane. omega (arith, (label lane).0, c.requires.small lane c.args.place);
      low = λ lane. omega (arith, (label lane).1, begin);
      won = λ lane lane_in. record {
        own = λ none. (label lane).0;
        over = λ i i_is from. absurd (omega (arith, i_is, from, (label lane).1));
      };
      least = λ (starts : List Seed) (lane : ℕ) lane_in swept (laid : IsLaidDown h ranks first (lists_of table.columns.now).tails (lists_of table.columns.now).lengths c.args.place).
          subst (λ x. IsLabel (Comes h starts table.bound (slice_index ranks c.args.place) laid.are.links (c.begin-begin.result - slice_index first c.args.place)) table.bound x) (sym (label lane).0)
          (subst (λ n. IsLabel (Comes h starts table.bound (slice_index ranks c.args.place) laid.are.links n) table.bound (lane_of c.args.labels.now lane c.args.place)) none
          (least-none h starts table.bound ranks first (lists_of table.columns.now).tails (lists_of table.columns.now).lengths (lane_of c.args.labels.now lane) c.args.place place_in swept laid));
    }
  where
    unscaled : (packed label : ℕ) → packed ≡ label * 1024 → (packed / 1024 ≡ label) × (packed % 1024 ≡ 0)
    unscaled packed label is = (omega (arith, is), omega (arith, is))

pub index-requires : goal.index-requires
index-requires g c =
    let at = step c.args.self.now c.requires.table c.args.place c.steps.at c.begin-end.result (omega (arith, c.requires.place_in, c.requires.lanes.count)) c.steps.invariant.from c.steps-test.true c.steps.invariant.end in
    omega (arith, at.tails, ap (λ (ts : List ℕ). length ts) c.requires.steps.tails, c.args.steps.now.tails.ok)

pub bounds-labels-tail : goal.bounds-labels-tail
bounds-labels-tail g c =
    let tails = (lists_of c.args.self.now.columns.now).tails in
    let at = step c.args.self.now c.requires.table c.args.place c.steps.at c.begin-end.result (omega (arith, c.requires.place_in, c.requires.lanes.count)) c.steps.invariant.from c.steps-test.true c.steps.invariant.end in
    let tail : c.index.result.now ≡ slice_index tails c.steps.at = c.index.ensures ∙ (get_or_default c.args.steps.now.tails.items c.steps.at c.index.result.now 0 (omega (arith, at.tails, ap (λ (ts : List ℕ). length ts) c.requires.steps.tails)) ∙ ap (λ (ts : List ℕ). slice_index ts c.steps.at) c.requires.steps.tails) in
    omega (arith, tail, at.tail_in, c.requires.lanes.count)

pub offset_bounds-labels-tail : goal.offset_bounds-labels-tail
offset_bounds-labels-tail g c =
    let tails = (lists_of c.args.self.now.columns.now).tails in
    let at = step c.args.self.now c.requires.table c.args.place c.steps.at c.begin-end.result (omega (arith, c.requires.place_in, c.requires.lanes.count)) c.steps.invariant.from c.steps-test.true c.steps.invariant.end in
    let tail : c.index.result.now ≡ slice_index tails c.steps.at = c.index.ensures ∙ (get_or_default c.args.steps.now.tails.items c.steps.at c.index.result.now 0 (omega (arith, at.tails, ap (λ (ts : List ℕ). length ts) c.requires.steps.tails)) ∙ ap (λ (ts : List ℕ). slice_index ts c.steps.at) c.requires.steps.tails) in
    omega (arith, tail, at.tail_in, c.requires.lanes.count)

pub length-requires : goal.length-requires
length-requires g c =
    let at = step c.args.self.now c.requires.table c.args.place c.steps.at c.begin-end.result (omega (arith, c.requires.place_in, c.requires.lanes.count)) c.steps.invariant.from c.steps-test.true c.steps.invariant.end in
    omega (arith, at.lengths, ap (λ (ls : List ℕ). length ls) c.requires.steps.lengths, length-map c.args.steps.now.lengths.items g.W.Number.number)

pub pass_over_packed-requires : goal.pass_over_packed-requires
pass_over_packed-requires g c =
    let table = c.args.self.now in
    let labels = c.args.labels.now in
    let at = step table c.requires.table c.args.place c.steps.at c.begin-end.result (omega (arith, c.requires.place_in, c.requires.lanes.count)) c.steps.invariant.from c.steps-test.true c.steps.invariant.end in
    let long : c.length.result ≡ slice_index (lists_of table.columns.now).lengths c.steps.at = c.length.ensures ∙ ap (λ (ls : List ℕ). slice_index ls c.steps.at) c.requires.steps.lengths in
    let tails = (lists_of table.columns.now).tails in
    let tail : c.index.result.now ≡ slice_index tails c.steps.at = c.index.ensures ∙ (get_or_default c.args.steps.now.tails.items c.steps.at c.index.result.now 0 (omega (arith, at.tails, ap (λ (ts : List ℕ). length ts) c.requires.steps.tails)) ∙ ap (λ (ts : List ℕ). slice_index ts c.steps.at) c.requires.steps.tails) in
    let tail_in : c.index.result.now < length labels = omega (arith, tail, at.tail_in, c.requires.lanes.count) in
    let read : c.index-labels-tail.result ≡ get_or labels c.index.result.now [] = c.index-labels-tail.is ∙ get_or_default labels c.index.result.now c.index-labels-tail.result [] tail_in in
    let some : 1 ≤ length labels = omega (arith, c.requires.place_in) in
    let one : 1 * (g.row.N * 8) ≤ length labels * (g.row.N * 8) = mul-le-mul_right (g.row.N * 8) some in (
      omega (arith, one, c.well_formed),
      (
        λ lane. subst (λ (row : List ℕ). slice_index row lane ≤ 1125899906842624) (sym read) (small lane),
        (
          omega (arith, long, short, c.requires.packed.short),
          omega (arith, c.requires.packed.few, c.steps.invariant.from, c.steps-test.true, c.steps.invariant.end, c.steps.invariant.begin),
        ),
      ),
    )
  where
    small : (lane : ℕ) → lane_of c.args.labels.now lane c.index.result.now ≤ 1125899906842624
    small lane = omega (arith, c.requires.small lane c.index.result.now, c.requires.packed.near)

    short : slice_index (lists_of c.args.self.now.columns.now).lengths c.steps.at ≤ length_of c.args.self.now.hierarchy.now.bound
    short =
        let place_in : c.args.place < length c.args.self.now.columns.now.ranks.items = omega (arith, c.requires.place_in, c.requires.lanes.count) in
        step-short c.args.self.now.hierarchy.now (lists_of c.args.self.now.columns.now) c.args.place c.steps.at c.requires.table.made
        (link-of c.args.self.now.hierarchy.now (lists_of c.args.self.now.columns.now) c.args.place c.steps.at c.requires.table.selection place_in c.steps.invariant.from (omega (arith, c.steps-test.true, c.steps.invariant.end)))

pub steps-preserved : goal.steps-preserved
steps-preserved g c =
    let table = c.args.self.now in
    let h = table.hierarchy.now in
    let first = (lists_of table.columns.now).first in
    let tails = (lists_of table.columns.now).tails in
    let lengths = (lists_of table.columns.now).lengths in
    let ranks = table.columns.now.ranks.items in
    let labels = c.args.labels.now in
    let place_in : c.args.place < length ranks = omega (arith, c.requires.place_in, c.requires.lanes.count) in
    let before : c.steps.at < slice_index first (c.args.place + 1) = omega (arith, c.steps-test.true, c.steps.invariant.end) in
    let at = step table c.requires.table c.args.place c.steps.at c.begin-end.result place_in c.steps.invariant.from c.steps-test.true c.steps.invariant.end in
    let tail : c.index.result.now ≡ slice_index tails c.steps.at = c.index.ensures ∙ (get_or_default c.args.steps.now.tails.items c.steps.at c.index.result.now 0 (omega (arith, at.tails, ap (λ (ts : List ℕ). length ts) c.requires.steps.tails)) ∙ ap (λ (ts : List ℕ). slice_index ts c.steps.at) c.requires.steps.tails) in
    let long : c.length.result ≡ slice_index lengths c.steps.at = c.length.ensures ∙ ap (λ (ls : List ℕ). slice_index ls c.steps.at) c.requires.steps.lengths in
    let read : c.index-labels-tail.result ≡ get_or labels (slice_index tails c.steps.at) [] = c.index-labels-tail.is ∙ get_or_default labels c.index.result.now c.index-labels-tail.result [] (omega (arith, tail, at.tail_in, c.requires.lanes.count)) ∙ ap (λ i. get_or labels i []) tail in
    let link : ℕ = (c.steps.at - c.begin-begin.result) + 1 in
    let few : (c.steps.at - c.begin-begin.result) + 1 < 1024 = omega (arith, c.requires.packed.few, c.steps.invariant.from, before, c.steps.invariant.begin) in
    let here : c.steps.at + 1 ≡ slice_index first c.args.place + ((c.steps.at - c.begin-begin.result) + 1) = omega (arith, c.steps.invariant.from, c.steps.invariant.begin) in
    let goes = λ (lane : ℕ). lane_of labels lane (slice_index tails c.steps.at) + c.length.result in
    let raw = λ (lane : ℕ) (lane_in : lane < g.row.N).
    subst (λ (row : List ℕ). IsLeastOver (slice_index c.steps.packed lane) ((slice_index row lane + c.length.result) * 1024 + ((c.steps.at - c.begin-begin.result) + 1)) (slice_index c.pass_over_packed.new.packed lane)) read (c.pass_over_packed.ensures.least lane lane_in) in
    let later = λ (lane : ℕ). later_than (slice_index c.steps.packed lane) (slice_index first c.args.place) c.steps.at c.begin-begin.result (c.steps.invariant.low lane) c.steps.invariant.begin in
    let over = λ (lane : ℕ) (lane_in : lane < g.row.N).
    packed-over (slice_index c.steps.packed lane) (lane_of labels lane (slice_index tails c.steps.at) + c.length.result) ((c.steps.at - c.begin-begin.result) + 1) (slice_index c.pass_over_packed.new.packed lane) (raw lane lane_in) (later lane) few in
    record {
      begin = c.steps.invariant.begin;
      from = omega (arith, c.steps.invariant.from);
      within = omega (arith, c.steps-test.true);
      end = c.steps.invariant.end;
      count = c.pass_over_packed.ensures.count;
      small = λ lane. elim (cases_lt lane g.row.N) [
        | inl lane_in ↦ no-more (slice_index c.steps.packed lane / 1024) (lane_of labels lane (slice_index tails c.steps.at) + c.length.result) (slice_index c.pass_over_packed.new.packed lane / 1024) (far table.bound) (over lane lane_in) (c.steps.invariant.small lane)
        | inr past ↦
            let none : slice_index c.pass_over_packed.new.packed lane ≡ 0 = get_or_past c.pass_over_packed.new.packed lane 0 (omega (arith, past, c.pass_over_packed.ensures.count)) in
            omega (arith, none)
      ];
      low = λ lane. elim (cases_lt lane g.row.N) [
        | inl lane_in ↦
            let link_low = packed-low (slice_index c.steps.packed lane) (lane_of labels lane (slice_index tails c.steps.at) + c.length.result) ((c.steps.at - c.begin-begin.result) + 1) (slice_index c.pass_over_packed.new.packed lane) (raw lane lane_in) (later lane) few in
            omega (arith, link_low, here)
        | inr past ↦
            let none : slice_index c.pass_over_packed.new.packed lane ≡ 0 = get_or_past c.pass_over_packed.new.packed lane 0 (omega (arith, past, c.pass_over_packed.ensures.count)) in
            omega (arith, none, c.steps.invariant.from)
      ];
      won = λ lane lane_in.
          won-over (slice_index c.steps.packed lane) (lane_of labels lane (slice_index tails c.steps.at) + c.length.result) ((c.steps.at - c.begin-begin.result) + 1) (slice_index c.pass_over_packed.new.packed lane) (raw lane lane_in) (later lane) few
          (lists_of table.columns.now) (lane_of labels lane) c.args.place c.steps.at here (ap (λ x. lane_of labels lane (slice_index tails c.steps.at) + x) long) (c.steps.invariant.won lane lane_in);
      least = λ (starts : List Seed) (lane : ℕ) lane_in swept (laid : IsLaidDown h ranks first tails lengths c.args.place).
          least-over h starts table.bound ranks first tails lengths (lane_of labels lane) c.args.place place_in swept laid c.steps.at c.steps.invariant.from before
          (slice_index c.steps.packed lane / 1024) (slice_index c.pass_over_packed.new.packed lane / 1024) c.length.result long (over lane lane_in) (c.steps.invariant.least starts lane lane_in swept laid);
    }
  where
    later_than : (packed first at begin : ℕ) → packed % 1024 + first ≤ at → begin ≡ first → packed % 1024 < (at - begin) + 1
    later_than packed first at begin low is = omega (arith, low, is)

    no-more : (old sum new most : ℕ) → IsLeastOver old sum new → old ≤ most → new ≤ most
    no-more old sum new most is low = elim (cases_lt sum old) [ inl less ↦ omega (arith, is.less less, less, low) | inr more ↦ omega (arith, is.stays more, low) ]

pub returns-clause-least : goal.returns-clause-least
returns-clause-least g c starts lane lane_in swept =
    let table = c.args.self.now in
    let h = table.hierarchy.now in
    let first = (lists_of table.columns.now).first in
    let ranks = table.columns.now.ranks.items in
    let place_in : c.args.place < length ranks = omega (arith, c.requires.place_in, c.requires.lanes.count) in
    let laid = c.requires.table.selection.laid c.args.place place_in in
    least-all h starts table.bound ranks first (lists_of table.columns.now).tails (lists_of table.columns.now).lengths (lane_of c.args.labels.now lane) c.args.place place_in swept laid c.steps.at (slice_index c.steps.packed lane / 1024)
    (omega (arith, c.steps.invariant.within, c.steps.invariant.end)) (omega (arith, c.steps-test.false, c.steps.invariant.end)) (c.steps.invariant.least starts lane lane_in swept laid)

pub returns-clause-won : goal.returns-clause-won
returns-clause-won g c lane lane_in =
    let end : c.steps.at ≡ slice_index (lists_of c.args.self.now.columns.now).first (c.args.place + 1) = omega (arith, c.steps.invariant.within, c.steps.invariant.end, c.steps-test.false) in
    subst (λ n. IsWon (lists_of c.args.self.now.columns.now) (lane_of c.args.labels.now lane) c.args.place n (slice_index c.steps.packed lane)) end (c.steps.invariant.won lane lane_in)
