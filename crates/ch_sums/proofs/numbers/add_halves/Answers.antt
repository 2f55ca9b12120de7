use Rattle.std.proofs.Common.{◌≡◌, ◌+◌, ◌<◌, ◌∙◌, length, set, slice_index, None, ap, refl, arith}
use Rattle.std.proofs.lemmas.List.{get_or_default}
use Rattle.ch_cost.specs.Cost.{zero_cost}
use Rattle.ch_graph.specs.declared.link.Link.{Link}
use Rattle.ch_sums.specs.Order.{IsAdded.halves}
use Rattle.ch_sums.proofs.numbers.add_halves.Goals as goal

abbrev some : Link
some = record { from = 0; to = 0; cost = zero_cost; middle = None }

pub index-requires : goal.index-requires
index-requires c = omega (arith, (c.in-Shortcut.ensures some).first_at.within, c.requires.count, c.args.numbers.now.ok)

pub index-requires-in-Shortcut : goal.index-requires-in-Shortcut
index-requires-in-Shortcut c = omega (arith, (c.in-Shortcut.ensures some).second_at.within, c.requires.count, c.args.numbers.now.ok)

pub overflow_add-sum : goal.overflow_add-sum
overflow_add-sum c =
    let ns = c.args.numbers.now.items in
    let i = c.in-Shortcut.first.0 in
    let j = c.in-Shortcut.second.0 in
    let i_in : c.in-Shortcut.first.0 < length c.args.numbers.now.items = omega (arith, (c.in-Shortcut.ensures some).first_at.within, c.requires.count) in
    let j_in : c.in-Shortcut.second.0 < length c.args.numbers.now.items = omega (arith, (c.in-Shortcut.ensures some).second_at.within, c.requires.count) in
    let one : c.index.result.now ≡ slice_index ns i = c.index.ensures ∙ get_or_default ns i c.index.result.now 0 i_in in
    let two : c.index-in-Shortcut.result.now ≡ slice_index ns j = c.index-in-Shortcut.ensures ∙ get_or_default ns j c.index-in-Shortcut.result.now 0 j_in in
    omega (arith, one, two, c.requires.small i 0 i_in, c.requires.small j 0 j_in)

pub returns-then-sum-gt-GREATEST-clause-refused : goal.returns-then-sum-gt-GREATEST-clause-refused
returns-then-sum-gt-GREATEST-clause-refused c =
    let ns = c.args.numbers.now.items in
    let i = c.in-Shortcut.first.0 in
    let j = c.in-Shortcut.second.0 in
    let i_in : c.in-Shortcut.first.0 < length c.args.numbers.now.items = omega (arith, (c.in-Shortcut.ensures some).first_at.within, c.requires.count) in
    let j_in : c.in-Shortcut.second.0 < length c.args.numbers.now.items = omega (arith, (c.in-Shortcut.ensures some).second_at.within, c.requires.count) in
    let one : c.index.result.now ≡ slice_index ns i = c.index.ensures ∙ get_or_default ns i c.index.result.now 0 i_in in
    let two : c.index-in-Shortcut.result.now ≡ slice_index ns j = c.index-in-Shortcut.ensures ∙ get_or_default ns j c.index-in-Shortcut.result.now 0 j_in in
    record {
      is = refl;
      first = c.in-Shortcut.first;
      second = c.in-Shortcut.second;
      halves = c.in-Shortcut.ensures;
      great = omega (arith, one, two, c.if-sum-gt-GREATEST.true);
    }

pub returns-else-sum-gt-GREATEST-clause-added : goal.returns-else-sum-gt-GREATEST-clause-added
returns-else-sum-gt-GREATEST-clause-added c =
    let ns = c.args.numbers.now.items in
    let i = c.in-Shortcut.first.0 in
    let j = c.in-Shortcut.second.0 in
    let i_in : c.in-Shortcut.first.0 < length c.args.numbers.now.items = omega (arith, (c.in-Shortcut.ensures some).first_at.within, c.requires.count) in
    let j_in : c.in-Shortcut.second.0 < length c.args.numbers.now.items = omega (arith, (c.in-Shortcut.ensures some).second_at.within, c.requires.count) in
    let one : c.index.result.now ≡ slice_index ns i = c.index.ensures ∙ get_or_default ns i c.index.result.now 0 i_in in
    let two : c.index-in-Shortcut.result.now ≡ slice_index ns j = c.index-in-Shortcut.ensures ∙ get_or_default ns j c.index-in-Shortcut.result.now 0 j_in in
    let sum : c.index.result.now + c.index-in-Shortcut.result.now ≡ slice_index ns i + slice_index ns j = omega (arith, one, two) in
    halves c.in-Shortcut.first c.in-Shortcut.second c.in-Shortcut.ensures (omega (arith, one, two, c.if-sum-gt-GREATEST.false)) (ap (set ns c.args.place.at) sum)
