use Rattle.std.proofs.Common.{Bool, true, false, ◌≡◌, List, ap, subst, ◌∙◌}
use Rattle.ch_cost.specs.declared.cost.Cost.{Cost}
use Rattle.ch_cost.specs.Cost.{◌⊕◌, IsWithin}
use Rattle.ch_laws.specs.declared.entry.Entry.{Entry}
use Rattle.ch_laws.specs.declared.shortcut.Shortcut.{Shortcut}
use Rattle.ch_laws.specs.Contraction.{NoShortcut}
use Rattle.ch_laws.specs.Rows.{Row, Lists}
use Rattle.ch_contract.specs.Proposal.{HasShortcut, Proposal}
use Rattle.ch_contract.proofs.VerdictOfPair.{no_arc_in, no_arc_out, witness_pair, shortcut_pair, sum_within}
use Rattle.ch_contract.proofs.proposal.Proposal.verdict.Goals as goal

not-true : (b : Bool) → b ≡ false → b ≡ true → ⊥
not-true b f t = cc

pub returns-in_default : goal.returns-in_default
returns-in_default c =
    let inns = c.inn.ensures in
    no_arc_in c.args.self.now c.own-row.ensures.holds c.own-row.result.now c.own-row.ensures.read c.args.from c.args.to (subst (λ (es : List Entry). (d : Cost) → Lists es c.args.from d → ⊥) inns c.in_default.ensures)

pub returns-in_default-cost_of : goal.returns-in_default-cost_of
returns-in_default-cost_of c =
    let outs = c.out.ensures in
    no_arc_out c.args.self.now c.own-row.ensures.holds c.own-row.result.now c.own-row.ensures.read c.args.from c.args.to (subst (λ (es : List Entry). (d : Cost) → Lists es c.args.to d → ⊥) outs c.in_default-cost_of.ensures)

pub returns-then-has_shortcut : goal.returns-then-has_shortcut
returns-then-has_shortcut c =
    let inns = c.inn.ensures in
    let outs = c.out.ensures in
    let within = subst (λ (b : Cost). IsWithin (c.in-Some.into ⊕ c.in-Some-cost_of.out) b) (ap (λ (p : Proposal). p.bound) c.self.view_is) (sum_within c.plus_within.result _ _ c.plus_within.ensures c.if-is_none.ensures) in
    let has = subst (λ (ps : List Shortcut). HasShortcut ps c.args.from c.args.to) (c.deref.ensures.value ∙ ap (λ (p : Proposal). p.shortcuts) c.self.view_is) (c.has_shortcut.ensures.some c.if-has_shortcut.true) in
    shortcut_pair c.args.self.now c.own-row.ensures.holds c.own-row.result.now c.own-row.ensures.read c.own-row.ensures.inn_rises c.own-row.ensures.out_rises c.args.from c.args.to c.in-Some.into c.in-Some-cost_of.out c.if-from-to.false
    (subst (λ (es : List Entry). Lists es c.args.from c.in-Some.into) inns c.in-Some.ensures)
    (subst (λ (es : List Entry). Lists es c.args.to c.in-Some-cost_of.out) outs c.in-Some-cost_of.ensures) within has

pub returns : goal.returns
returns c =
    let inns = c.inn.ensures in
    let outs = c.out.ensures in
    let within = subst (λ (b : Cost). IsWithin (c.in-Some.into ⊕ c.in-Some-cost_of.out) b) (ap (λ (p : Proposal). p.bound) c.self.view_is) (sum_within c.plus_within.result _ _ c.plus_within.ensures c.if-is_none.ensures) in
    let none = subst (λ (ps : List Shortcut). NoShortcut ps c.args.from c.args.to) (c.deref.ensures.value ∙ ap (λ (p : Proposal). p.shortcuts) c.self.view_is) (c.has_shortcut.ensures.none (λ yes. not-true _ c.if-has_shortcut.false yes)) in
    witness_pair c.args.self.now c.own-row.ensures.holds c.own-row.result.now c.own-row.ensures.read c.own-row.ensures.inn_rises c.own-row.ensures.out_rises c.args.from c.args.to c.in-Some.into c.in-Some-cost_of.out c.if-from-to.false
    (subst (λ (es : List Entry). Lists es c.args.from c.in-Some.into) inns c.in-Some.ensures)
    (subst (λ (es : List Entry). Lists es c.args.to c.in-Some-cost_of.out) outs c.in-Some-cost_of.ensures) within none
