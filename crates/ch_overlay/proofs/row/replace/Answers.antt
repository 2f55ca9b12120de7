use Rattle.std.specs.Vec.{vec_len, vec_capacity}
use Rattle.std.proofs.Common.{rules, ◌+◌, ◌≤◌, length, ◌≡◌, ◌∙◌, ap, List, ◌++◌, subst, filter, not, nat_eq, OnOk}
use Rattle.ch_laws.specs.declared.entry.Entry.{Entry}
use Rattle.ch_overlay.specs.Merging.{merged}
use Rattle.ch_overlay.specs.declared.merge.Merge.{Merge}
use Rattle.std.proofs.lemmas.Iterator.Adapters.{items_from_extend}
use Rattle.std.proofs.lemmas.Iterator.Consumers.{YieldsList-from_filter, YieldsList-from_first}
use Rattle.ch_overlay.proofs.row.replace.Goals as goal

pub returns : goal.returns
returns c =
    let both = merged c.args.old.now c.args.new.now in
    let all = filter (λ (e : Entry). not (nat_eq e.other c.args.gone)) both in
    let source = YieldsList-from_first (λ (e : Entry). e) (λ (m : Merge). merged m.old.now m.new.now) {s = c.filter.result.iter} both (cc (c.filter.ensures.source, c.new.ensures.old, c.new.ensures.new)) in
    let got = items_from_extend c.extend.result c.extend.ensures.ran (YieldsList-from_filter _ (λ (e : Entry). not (nat_eq e.other c.args.gone)) source c.filter.ensures.closure (search rules)) in
    let known : (c.extend.new.self.items ≡ c.args.entries.now.items ++ all)
    × (vec_len c.extend.new.self ≡ vec_len c.args.entries.now + length all)
    × (vec_capacity c.args.entries.now ≤ vec_capacity c.extend.new.self) = subst
    (λ r. OnOk r ((c.extend.new.self.items ≡ c.args.entries.now.items ++ all)
    × (vec_len c.extend.new.self ≡ vec_len c.args.entries.now + length all)
    × (vec_capacity c.args.entries.now ≤ vec_capacity c.extend.new.self))) c.in_ok-extend.was got in
    known.0
