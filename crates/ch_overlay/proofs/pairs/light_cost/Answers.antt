use Rattle.std.proofs.Common.{◌≡◌, subst}
use Rattle.std.specs.Option.{SomeIff}
use Rattle.ch_cost.specs.declared.cost.Cost.{Cost}
use Rattle.ch_cost.specs.Cost.{◌⊕◌, IsWithin}
use Rattle.ch_overlay.proofs.pairs.light_cost.Goals as goal

same_sum : {a b d e : Cost} → a ≡ b → d ≡ e → (a ⊕ d) ≡ (b ⊕ e)
same_sum h k = cc

pub returns : goal.returns
returns c = subst (λ (k : Cost). SomeIff c.plus_within.result (IsWithin k c.args.bound) k) (same_sum c.cost.ensures c.cost-2.ensures) c.plus_within.ensures
