use Rattle.std.proofs.Common.{ℕ, ◌≡◌, ◌+◌, ◌<◌, ◌∙◌, List, length, slice_index, ap, subst, sym, arith}
use Rattle.std.proofs.lemmas.List.{get_or_default}
use Rattle.ch_query.specs.declared.side.Side.TheVariants.{Fall as falling}
use Rattle.ch_query.specs.Climb.{LeadsUp}
use Rattle.ch_table.specs.Selection.{lists_of}
use Rattle.ch_table.specs.Sums.{AreStepNumbersTo}
use Rattle.ch_table.proofs.StepLinks.{link-of, listed-more}
use Rattle.ch_table.proofs.columns.Columns.list_numbers_of.Goals as goal

pub steps-init : goal.steps-init
steps-init g c =
    let s = lists_of c.args.self.now in
    let begin : c.begin-begin.result ≡ slice_index s.first c.args.place = c.begin-begin.ensures ∙ ap (λ (fs : List ℕ). slice_index fs c.args.place) c.requires.steps.first in
    let end : c.begin-end.result ≡ slice_index s.first (c.args.place + 1) = c.begin-end.ensures ∙ ap (λ (fs : List ℕ). slice_index fs (c.args.place + 1)) c.requires.steps.first in
    let own = c.requires.selection.laid c.args.place c.requires.place_in in
    record {
      from = omega (arith, begin);
      within = omega (arith, begin, end, own.next);
      end = end;
      to = subst (λ n. AreStepNumbersTo c.args.search.now c.args.numbers.now s n c.args.listed.now) (sym begin) c.requires.before;
    }

pub index-requires : goal.index-requires
index-requires g c =
    let before : c.steps.at < slice_index (lists_of c.args.self.now).first (c.args.place + 1) = omega (arith, c.steps-test.true, c.steps.invariant.end) in
    let is = link-of c.args.search.now (lists_of c.args.self.now) c.args.place c.steps.at c.requires.selection c.requires.place_in c.steps.invariant.from before in
    omega (arith, is.within, ap (λ (ts : List ℕ). length ts) c.requires.steps.tails, c.args.steps.now.tails.ok)

pub index-head-requires : goal.index-head-requires
index-head-requires g c =
    let s = lists_of c.args.self.now in
    let before : c.steps.at < slice_index (lists_of c.args.self.now).first (c.args.place + 1) = omega (arith, c.steps-test.true, c.steps.invariant.end) in
    let is = link-of c.args.search.now (lists_of c.args.self.now) c.args.place c.steps.at c.requires.selection c.requires.place_in c.steps.invariant.from before in
    let tail : c.index.result.now ≡ slice_index s.tails c.steps.at = c.index.ensures ∙ (get_or_default c.args.steps.now.tails.items c.steps.at c.index.result.now 0 (omega (arith, is.within, ap (λ (ts : List ℕ). length ts) c.requires.steps.tails)) ∙ ap (λ (ts : List ℕ). slice_index ts c.steps.at) c.requires.steps.tails) in
    omega (arith, tail, is.tail_in, c.args.self.now.ranks.ok)

pub link_down-link-requires : goal.link_down-link-requires
link_down-link-requires g c =
    let s = lists_of c.args.self.now in
    let ranks = c.args.self.now.ranks.items in
    let before : c.steps.at < slice_index (lists_of c.args.self.now).first (c.args.place + 1) = omega (arith, c.steps-test.true, c.steps.invariant.end) in
    let is = link-of c.args.search.now (lists_of c.args.self.now) c.args.place c.steps.at c.requires.selection c.requires.place_in c.steps.invariant.from before in
    let tail : c.index.result.now ≡ slice_index s.tails c.steps.at = c.index.ensures ∙ (get_or_default c.args.steps.now.tails.items c.steps.at c.index.result.now 0 (omega (arith, is.within, ap (λ (ts : List ℕ). length ts) c.requires.steps.tails)) ∙ ap (λ (ts : List ℕ). slice_index ts c.steps.at) c.requires.steps.tails) in
    let tail_in : c.index.result.now < length c.args.self.now.ranks.items = omega (arith, tail, is.tail_in) in
    let foot : c.index-foot.result.now ≡ slice_index ranks c.args.place = c.index-foot.ensures ∙ get_or_default ranks c.args.place c.index-foot.result.now 0 c.requires.place_in in
    let head : c.index-head.result.now ≡ slice_index ranks (slice_index s.tails c.steps.at) = c.index-head.ensures ∙ (get_or_default ranks c.index.result.now c.index-head.result.now 0 tail_in ∙ ap (slice_index ranks) tail) in
    (is.link, subst (λ r. LeadsUp c.args.search.now falling c.index-foot.result.now r is.link) (sym head) (subst (λ q. LeadsUp c.args.search.now falling q (slice_index ranks (slice_index s.tails c.steps.at)) is.link) (sym foot) is.leads))

pub bounds-numbers-link : goal.bounds-numbers-link
bounds-numbers-link g c =
    let s = lists_of c.args.self.now in
    let ranks = c.args.self.now.ranks.items in
    let before : c.steps.at < slice_index (lists_of c.args.self.now).first (c.args.place + 1) = omega (arith, c.steps-test.true, c.steps.invariant.end) in
    let is = link-of c.args.search.now (lists_of c.args.self.now) c.args.place c.steps.at c.requires.selection c.requires.place_in c.steps.invariant.from before in
    let tail : c.index.result.now ≡ slice_index s.tails c.steps.at = c.index.ensures ∙ (get_or_default c.args.steps.now.tails.items c.steps.at c.index.result.now 0 (omega (arith, is.within, ap (λ (ts : List ℕ). length ts) c.requires.steps.tails)) ∙ ap (λ (ts : List ℕ). slice_index ts c.steps.at) c.requires.steps.tails) in
    let tail_in : c.index.result.now < length c.args.self.now.ranks.items = omega (arith, tail, is.tail_in) in
    let foot : c.index-foot.result.now ≡ slice_index ranks c.args.place = c.index-foot.ensures ∙ get_or_default ranks c.args.place c.index-foot.result.now 0 c.requires.place_in in
    let head : c.index-head.result.now ≡ slice_index ranks (slice_index s.tails c.steps.at) = c.index-head.ensures ∙ (get_or_default ranks c.index.result.now c.index-head.result.now 0 tail_in ∙ ap (slice_index ranks) tail) in
    let same : c.link_down-link.result.0 ≡ is.link =
    c.link_down-link.ensures is.link (subst (λ r. LeadsUp c.args.search.now falling c.index-foot.result.now r is.link) (sym head) (subst (λ q. LeadsUp c.args.search.now falling q (slice_index ranks (slice_index s.tails c.steps.at)) is.link) (sym foot) is.leads)) in
    omega (arith, same, is.leads.climbs.within, c.requires.numbers.count)

pub offset_bounds-numbers-link : goal.offset_bounds-numbers-link
offset_bounds-numbers-link g c =
    let s = lists_of c.args.self.now in
    let ranks = c.args.self.now.ranks.items in
    let before : c.steps.at < slice_index (lists_of c.args.self.now).first (c.args.place + 1) = omega (arith, c.steps-test.true, c.steps.invariant.end) in
    let is = link-of c.args.search.now (lists_of c.args.self.now) c.args.place c.steps.at c.requires.selection c.requires.place_in c.steps.invariant.from before in
    let tail : c.index.result.now ≡ slice_index s.tails c.steps.at = c.index.ensures ∙ (get_or_default c.args.steps.now.tails.items c.steps.at c.index.result.now 0 (omega (arith, is.within, ap (λ (ts : List ℕ). length ts) c.requires.steps.tails)) ∙ ap (λ (ts : List ℕ). slice_index ts c.steps.at) c.requires.steps.tails) in
    let tail_in : c.index.result.now < length c.args.self.now.ranks.items = omega (arith, tail, is.tail_in) in
    let foot : c.index-foot.result.now ≡ slice_index ranks c.args.place = c.index-foot.ensures ∙ get_or_default ranks c.args.place c.index-foot.result.now 0 c.requires.place_in in
    let head : c.index-head.result.now ≡ slice_index ranks (slice_index s.tails c.steps.at) = c.index-head.ensures ∙ (get_or_default ranks c.index.result.now c.index-head.result.now 0 tail_in ∙ ap (slice_index ranks) tail) in
    let same : c.link_down-link.result.0 ≡ is.link =
    c.link_down-link.ensures is.link (subst (λ r. LeadsUp c.args.search.now falling c.index-foot.result.now r is.link) (sym head) (subst (λ q. LeadsUp c.args.search.now falling q (slice_index ranks (slice_index s.tails c.steps.at)) is.link) (sym foot) is.leads)) in
    omega (arith, same, is.leads.climbs.within, c.requires.numbers.count, c.type_inv.numbers)

pub bounds-listed-at : goal.bounds-listed-at
bounds-listed-at g c =
    let before : c.steps.at < slice_index (lists_of c.args.self.now).first (c.args.place + 1) = omega (arith, c.steps-test.true, c.steps.invariant.end) in
    let is = link-of c.args.search.now (lists_of c.args.self.now) c.args.place c.steps.at c.requires.selection c.requires.place_in c.steps.invariant.from before in
    omega (arith, is.within, c.steps.invariant.to.count)

pub offset_bounds-listed-at : goal.offset_bounds-listed-at
offset_bounds-listed-at g c =
    let before : c.steps.at < slice_index (lists_of c.args.self.now).first (c.args.place + 1) = omega (arith, c.steps-test.true, c.steps.invariant.end) in
    let is = link-of c.args.search.now (lists_of c.args.self.now) c.args.place c.steps.at c.requires.selection c.requires.place_in c.steps.invariant.from before in
    omega (arith, is.within, ap (λ (ts : List ℕ). length ts) c.requires.steps.tails, c.args.steps.now.tails.ok, c.args.steps.now.tails.small)

pub steps-preserved : goal.steps-preserved
steps-preserved g c =
    let h = c.args.search.now in
    let s = lists_of c.args.self.now in
    let ranks = c.args.self.now.ranks.items in
    let before : c.steps.at < slice_index (lists_of c.args.self.now).first (c.args.place + 1) = omega (arith, c.steps-test.true, c.steps.invariant.end) in
    let is = link-of c.args.search.now (lists_of c.args.self.now) c.args.place c.steps.at c.requires.selection c.requires.place_in c.steps.invariant.from before in
    let tail : c.index.result.now ≡ slice_index s.tails c.steps.at = c.index.ensures ∙ (get_or_default c.args.steps.now.tails.items c.steps.at c.index.result.now 0 (omega (arith, is.within, ap (λ (ts : List ℕ). length ts) c.requires.steps.tails)) ∙ ap (λ (ts : List ℕ). slice_index ts c.steps.at) c.requires.steps.tails) in
    let tail_in : c.index.result.now < length c.args.self.now.ranks.items = omega (arith, tail, is.tail_in) in
    let foot : c.index-foot.result.now ≡ slice_index ranks c.args.place = c.index-foot.ensures ∙ get_or_default ranks c.args.place c.index-foot.result.now 0 c.requires.place_in in
    let head : c.index-head.result.now ≡ slice_index ranks (slice_index s.tails c.steps.at) = c.index-head.ensures ∙ (get_or_default ranks c.index.result.now c.index-head.result.now 0 tail_in ∙ ap (slice_index ranks) tail) in
    record {
      from = omega (arith, c.steps.invariant.from);
      within = omega (arith, c.steps-test.true);
      end = c.steps.invariant.end;
      to = listed-more h c.args.numbers.now s c.requires.selection c.args.place c.steps.at c.link_down-link.result.0 c.steps.listed c.requires.place_in c.steps.invariant.from before
          (λ k leads. c.link_down-link.ensures k (subst (λ r. LeadsUp h falling c.index-foot.result.now r k) (sym head) (subst (λ q. LeadsUp h falling q (slice_index ranks (slice_index s.tails c.steps.at)) k) (sym foot) leads))) c.steps.invariant.to;
    }

pub returns : goal.returns
returns g c =
    let whole : c.steps.at ≡ slice_index (lists_of c.args.self.now).first (c.args.place + 1) = omega (arith, c.steps.invariant.within, c.steps-test.false, c.steps.invariant.end) in
    subst (λ n. AreStepNumbersTo c.args.search.now c.args.numbers.now (lists_of c.args.self.now) n c.steps.listed) whole c.steps.invariant.to
