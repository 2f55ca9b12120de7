use Rattle.std.proofs.Common.{◌≡◌, ◌-◌, ◌^◌, length, true, arith, ap, sym, subst, ◌∙◌}
use Rattle.std.proofs.lemmas.Bool.Decides.{nat_tests}
use Rattle.ch_cost.specs.declared.cost.Cost.{Cost}
use Rattle.ch_cost.specs.Cost.{arcs_of, IsWithin}
use Rattle.ch_cost.specs.Cost.Numbers.{arcs_of-cost_of_arcs}
use Rattle.ch_graph.specs.Hierarchy.{bound_arcs}
use Rattle.ch_graph.proofs.checking.is_bound.Goals as goal

pub returns : goal.returns
returns c =
    let greatest : arcs_of c.greatest_bound-greatest.result ≡ length c.args.ranks.now - 1 = ap arcs_of c.greatest_bound-greatest.ensures ∙ arcs_of-cost_of_arcs (length c.args.ranks.now - 1) (2 ^ 32 - 1) in
    let wanted : c.bound_arcs.result ≡ bound_arcs c.args.version (length c.args.ranks.now) = c.bound_arcs.ensures (length c.args.ranks.now) greatest in (
      λ test.
          let within : c.is_within.result ≡ true = grind (arith, nat_tests, test) in
          let level : c.arcs.result ≡ c.bound_arcs.result = grind (arith, nat_tests, test) in
          (subst (λ (b : Cost). IsWithin c.args.bound b) c.greatest_bound-greatest.ensures (c.is_within.ensures.0 within), sym c.arcs.ensures ∙ level ∙ wanted),
      λ is.
          let within : c.is_within.result ≡ true = c.is_within.ensures.1 (subst (λ (b : Cost). IsWithin c.args.bound b) (sym c.greatest_bound-greatest.ensures) is.0) in
          let level : c.arcs.result ≡ c.bound_arcs.result = c.arcs.ensures ∙ is.1 ∙ sym wanted in
          grind (arith, nat_tests, within, level),
    )
