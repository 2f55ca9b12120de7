use Rattle.std.proofs.Common.{ap, sym, subst, ◌∙◌}
use Rattle.std.proofs.lemmas.Bool.{false_from_ne_true}
use Rattle.ch_cost.specs.declared.cost.Cost.{Cost}
use Rattle.ch_cost.specs.Cost.{◌⊕◌, same, IsWithin}
use Rattle.ch_cost.specs.Cost.Laws.{within_refl, equal-from_same}
use Rattle.hierfile.proofs.links.is_sum.Goals as goal

-- a sum that isn't within the whole is another cost
pub returns-in-None : goal.returns-in-None
returns-in-None c =
    let sum : Cost = c.args.first ⊕ c.args.second in
    sym (false_from_ne_true (same c.args.whole sum) (λ is. c.in-None.ensures (subst (IsWithin sum) (sym (equal-from_same c.args.whole sum is)) (within_refl sum))))

pub returns-in-Some : goal.returns-in-Some
returns-in-Some c = c.eq.ensures ∙ ap (same c.args.whole) c.in-Some.ensures.1
