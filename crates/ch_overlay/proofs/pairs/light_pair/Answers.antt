use Rattle.std.proofs.Common.{◌-◌, ◌^◌, inr, ap, arith, subst, sym, ◌∙◌}
use Rattle.ch_cost.specs.declared.cost.Cost.{Cost}
use Rattle.ch_cost.specs.Cost.{IsWithin}
use Rattle.ch_cost.specs.Cost.Numbers.{arcs-from_within, arcs_of-cost_of_arcs}
use Rattle.ch_laws.specs.declared.entry.Entry.{Entry}
use Rattle.ch_laws.specs.declared.shortcut.Shortcut.{Shortcut}
use Rattle.ch_overlay.proofs.pairs.light_pair.Goals as goal

pub returns-in_default : goal.returns-in_default
returns-in_default c = inr c.in_default.ensures

abbrev at_cost : Entry → Entry → Cost → Shortcut
at_cost into out cost = record { from = into.other; to = out.other; cost = cost }

pub of-requires : goal.of-requires
of-requires c =
    let within = c.in-Some.ensures.0 in
    record { few = omega (arith, arcs-from_within c.in-Some.cost c.args.bound (subst (λ (k : Cost). IsWithin k c.args.bound) (sym c.in-Some.ensures.1) within), arcs-from_within c.args.bound _ c.requires.limit, arcs_of-cost_of_arcs (2 ^ 25 - 1) (2 ^ 32 - 1)) }

pub returns : goal.returns
returns c = (c.if-into-out.false, c.in-Some.ensures.0, ap (at_cost c.args.into.now c.args.out.now) (c.of.ensures ∙ c.in-Some.ensures.1))
