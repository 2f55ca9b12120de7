use Rattle.std.specs.Vec.{vec_len, vec_capacity}
use Rattle.std.proofs.Common.{rules, ◌+◌, ◌≤◌, ℕ, length, ◌≡◌, ◌∙◌, ap, List, ◌++◌, subst, sym, map, OnOk}
use Rattle.ch_laws.specs.declared.entry.Entry.{Entry}
use Rattle.ch_overlay.specs.Merging.{merged}
use Rattle.ch_overlay.specs.Prepared.{AreNamed}
use Rattle.ch_overlay.proofs.NamedNeighbours.{others_named}
use Rattle.ch_overlay.specs.declared.merge.Merge.{Merge}
use Rattle.std.proofs.lemmas.Iterator.{YieldsList-from_map}
use Rattle.std.proofs.lemmas.Iterator.Adapters.{items_from_extend}
use Rattle.std.proofs.lemmas.Iterator.Consumers.{YieldsList-from_first}
use Rattle.ch_overlay.proofs.row.Row.named.Goals as goal

pub returns : goal.returns
returns c =
    let both = merged c.args.self.now.out c.args.self.now.inn in
    let all = map (λ (e : Entry). e.other) both in
    let source = YieldsList-from_first (λ (e : Entry). e) (λ (m : Merge). merged m.old.now m.new.now) {s = c.map.result.iter} both
    (ap (λ (m : Merge). merged m.old.now m.new.now) c.map.ensures.source
    ∙ ap (λ (es : List Entry). merged es c.new.result.new.now) (c.new.ensures.old ∙ c.out.ensures)
    ∙ ap (merged c.args.self.now.out) (c.new.ensures.new ∙ c.inn.ensures)) in
    let got = items_from_extend c.extend.result c.extend.ensures.ran (YieldsList-from_map _ (λ (e : Entry). e.other) source c.map.ensures.closure (search rules)) in
    let known : (c.extend.new.self.items ≡ c.in_ok-nodes.nodes.items ++ all) × (vec_len c.extend.new.self ≡ vec_len c.in_ok-nodes.nodes + length all)
    × (vec_capacity c.in_ok-nodes.nodes ≤ vec_capacity c.extend.new.self) = subst
    (λ r. OnOk r ((c.extend.new.self.items ≡ c.in_ok-nodes.nodes.items ++ all)
    × (vec_len c.extend.new.self ≡ vec_len c.in_ok-nodes.nodes + length all)
    × (vec_capacity c.in_ok-nodes.nodes ≤ vec_capacity c.extend.new.self))) c.in_ok-extend.was got in
    subst (AreNamed c.args.self.now) (sym (known.0 ∙ ap (λ (xs : List ℕ). xs ++ all) c.in_ok-nodes.ensures.items)) (others_named c.args.self.now c.requires.out_rises c.requires.inn_rises)
