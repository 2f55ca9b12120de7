-- Each law is a lemma of `Cost.Laws`; that no costs fall for ever follows from the induction.
use Rattle.std.proofs.Common.{◌≡◌, ℕ, ◌+◌, refl, subst}
use Rattle.ch_cost.specs.declared.cost.Cost.{Cost}
use Rattle.ch_cost.specs.Cost.{◌≺◌}
use Rattle.ch_cost.specs.Cost.Laws as laws
use Rattle.ch_cost.specs.Cost.Numbers.{of_walk-numbers}
use Rattle.ch_cost.specs.ShortCost.Laws.{kept, kept_not}
use Rattle.ch_cost.proofs.laws.cost_laws.Goals as goal

ends : (f : ℕ → Cost) → ((n : ℕ) → f (n + 1) ≺ f n) → ⊥
ends f falls =
    let none : (c : Cost) (n : ℕ) → f n ≡ c → ⊥ = laws.cost-induction (λ c. (n : ℕ) → f n ≡ c → ⊥) (λ c smaller n is. smaller (f (n + 1)) (subst (λ d. f (n + 1) ≺ d) is (falls n)) (n + 1) refl) in
    none (f 0) 0 refl

pub returns : goal.returns
returns c = record {
  sums = record { associates = laws.sum_assoc; commutes = laws.sum_comm; unit = laws.zero_cost-sum };
  order = record {
    reflexive = laws.at_most_refl;
    transitive = λ _ _ _ h k. laws.at_most_trans h k;
    antisymmetric = λ _ _ h k. laws.at_most_antisym h k;
    total = laws.cases_cost;
    strict = λ _ _ h k. laws.below_not_at_most h k;
    kept = λ _ _ _ _ h k. laws.sum_at_most h k;
    kept_strictly = λ _ _ _ _ h k. laws.sum_below_left h k;
    founded = ends;
  };
  arcs = record {
    above = laws.arc_above;
    length = laws.length_of-of_weight;
    one = laws.arcs_of-of_weight;
    lengths_add = laws.length_of-sum;
    arcs_add = laws.arcs_of-sum;
    lengths_follow = λ _ _ h. laws.length_of-at_most h;
    arcs_follow = λ _ _ h e. laws.arcs_of-at_most h e;
    shorter = laws.below-from_lengths;
    two_numbers = of_walk-numbers;
  };
  bounds = record {
    zero = laws.zero_cost_within;
    parts = λ a b _ h. (laws.within-left a b h, laws.within-right a b h);
    arcs = laws.arc_and_arcs_within;
    no_longer = λ _ _ h. laws.no_longer-from_within h;
    summands = λ _ _ h k. laws.in_limit-from_arcs h k;
  };
  shorts = record { kept = kept; none = kept_not };
}
