use Rattle.std.proofs.Common.{List, ℕ, Result, Ok, Err, inr, refl, subst}
use Rattle.std.specs.Result.{OnOk}
use Rattle.ch_cost.specs.declared.cost.Cost.{Cost}
use Rattle.ch_cost.specs.Cost.{◌≼◌}
use Rattle.ch_contract.specs.Drafts.{IsInner}
use Rattle.ch_contract.proofs.draft.Draft.judge_pair.Goals as goal

both : {T E P Q R : Type 0} (r : Result T E) → (P → Q → R) → OnOk r P → OnOk r Q → OnOk r R
both (Ok x) f p q = f p q
both (Err e) f p q = tt

pub returns-then-is_at_most : goal.returns-then-is_at_most
returns-then-is_at_most c = both c.list_inner.result
    (λ same listed. inr (
      c.in-Some.way,
      c.in-Some.is,
      subst (λ (k : Cost). c.in-Some.way.cost ≼ k) c.cost-cost.ensures
          (c.if-is_at_most.ensures.0 refl),
      same,
      (
        listed.0,
        listed.1,
        subst
            (λ (ns : List ℕ). IsInner ns listed.0) c.deref.ensures listed.2,
      ),
    )) c.list_inner.ensures.shortcuts c.list_inner.ensures.listed
