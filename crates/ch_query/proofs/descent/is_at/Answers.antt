use Rattle.std.proofs.Common.{◌≡◌, ◌&&◌, Bool, true, false, nat_eq, Some, ap, refl, sym, ◌∙◌, arith}
use Rattle.std.proofs.lemmas.Bool.Decides.{nat_tests}
use Rattle.ch_cost.specs.declared.cost.Cost.{Cost}
use Rattle.ch_cost.specs.Cost.Laws.{equal-from_same, same-from_equal}
use Rattle.ch_query.proofs.descent.is_at.Goals as goal

both_true : (a : Bool) {b : Bool} → (a && b) ≡ true → (a ≡ true) × (b ≡ true)
both_true true e = (refl, e)
both_true false e = absurd (cc)

true_both : {a b : Bool} → a ≡ true → b ≡ true → (a && b) ≡ true
true_both {a = true} first second = second
true_both {a = false} first second = absurd (cc)

some_cost : {c d : Cost} → Some c ≡ Some d → c ≡ d
some_cost is = cc

pub returns : goal.returns
returns c = (
  λ holds.
      let both = both_true (nat_eq c.rank.result c.args.rank) holds in
      let at : c.rank.result ≡ c.args.rank = grind (arith, nat_tests, both.0) in
      let cost : c.in-Some.cost ≡ c.args.seed.cost = equal-from_same c.in-Some.cost c.args.seed.cost (sym c.eq.ensures ∙ both.1) in
      (sym c.rank.ensures ∙ at, c.in-Some.is ∙ ap (λ (d : Cost). Some d) cost),
  λ there.
      let at : c.rank.result ≡ c.args.rank = c.rank.ensures ∙ there.0 in
      let cost : c.in-Some.cost ≡ c.args.seed.cost = some_cost (sym c.in-Some.is ∙ there.1) in
      let first : nat_eq c.rank.result c.args.rank ≡ true = grind (arith, nat_tests, at) in
      true_both first (c.eq.ensures ∙ same-from_equal c.in-Some.cost c.args.seed.cost cost),
)
