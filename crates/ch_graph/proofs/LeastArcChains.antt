-- Lists of nodes whose least arcs have a cost together, node by node.
use Rattle.std.proofs.Common.{ℕ, ◌≡◌, List, [], ◌∷◌, refl, ap, sym, subst, ◌∙◌}
use Rattle.ch_cost.specs.declared.cost.Cost.{Cost}
use Rattle.ch_cost.specs.Cost.{zero_cost, ◌⊕◌, IsWithin}
use Rattle.ch_cost.specs.Cost.Laws.{sum_assoc, sum-zero_cost, zero_cost-sum, at_most_antisym, within_refl, within-left}
use Rattle.ch_graph.specs.Walk.{Walk, stay, go, visited, Along}
use Rattle.ch_graph.specs.Graph.{Graph}
use Rattle.ch_graph.specs.LeastArcs.{IsLeastArc, LeastArcsCost}

-- what was spent and the least arcs between these nodes cost this together
pub record GoesOn (g : Graph) (spent : Cost) (nodes : List ℕ) (cost : Cost) : Type 0 where
  pub first : ℕ
  pub last : ℕ
  pub rest : Cost
  pub along : Along (IsLeastArc g) nodes first last rest
  pub sum : spent ⊕ rest ≡ cost

module _ (g : Graph) where
  pub goes_on-from : (nodes : List ℕ) (cost : Cost) → LeastArcsCost g nodes cost → GoesOn g zero_cost nodes cost
  goes_on-from nodes cost h = record { first = h.0; last = h.1; rest = cost; along = h.2; sum = zero_cost-sum cost }

  pub goes_on-to : {nodes : List ℕ} {cost : Cost} → GoesOn g zero_cost nodes cost → LeastArcsCost g nodes cost
  goes_on-to {nodes} h = (h.first, h.last, subst (λ c. Along (IsLeastArc g) nodes h.first h.last c) (sym (zero_cost-sum h.rest) ∙ h.sum) h.along)

  -- two costs of the least arc are the same
  pub least_arc-unique : (u v : ℕ) (a b : Cost) → IsLeastArc g u v a → IsLeastArc g u v b → a ≡ b
  least_arc-unique u v a b h k = at_most_antisym (h.1 b k.0) (k.1 a h.0)

  -- what was spent is within the cost
  pub goes_on-within : {spent cost : Cost} {nodes : List ℕ} → GoesOn g spent nodes cost → IsWithin spent cost
  goes_on-within {spent} h = subst (IsWithin spent) h.sum (within-left spent h.rest (within_refl (spent ⊕ h.rest)))

  -- the end

  end : (spent cost : Cost) (u : ℕ) {x z : ℕ} {d : Cost} (w : Walk (IsLeastArc g) x z d) → u ∷ [] ≡ x ∷ visited w → spent ⊕ d ≡ cost → spent ≡ cost
  end spent cost u stay e sum = sym (sum-zero_cost spent) ∙ sum
  end spent cost u (go {y = y} arc rest) e sum = absurd (cc)

  pub goes_on-end : {spent cost : Cost} (u : ℕ) → GoesOn g spent (u ∷ []) cost → spent ≡ cost
  goes_on-end {spent} {cost} u h = end spent cost u h.along.0 h.along.1 h.sum

  pub goes_on-stop : {spent cost : Cost} (u : ℕ) → spent ≡ cost → GoesOn g spent (u ∷ []) cost
  goes_on-stop {spent} u e = record { first = u; last = u; rest = zero_cost; along = (stay, refl); sum = sum-zero_cost spent ∙ e }

  -- a step

  pub goes_on-step : (spent : Cost) {cost : Cost} (arc : Cost) (u v : ℕ) (nodes : List ℕ) → IsLeastArc g u v arc → GoesOn g (spent ⊕ arc) (v ∷ nodes) cost → GoesOn g spent (u ∷ v ∷ nodes) cost
  goes_on-step spent arc u v nodes least h =
      let is : v ≡ h.first = cc (h.along.1) in
      record {
        first = u;
        last = h.last;
        rest = arc ⊕ h.rest;
        along = (go (subst (λ y. IsLeastArc g u y arc) is least) h.along.0, ap (λ (ns : List ℕ). u ∷ ns) h.along.1);
        sum = sym (sum_assoc spent arc h.rest) ∙ h.sum;
      }

  -- the first step and what follows it
  pub record Steps (spent : Cost) (u v : ℕ) (nodes : List ℕ) (cost : Cost) : Type 0 where
    pub arc : Cost
    pub least : IsLeastArc g u v arc
    pub onward : GoesOn g (spent ⊕ arc) (v ∷ nodes) cost

  steps : (spent : Cost) {cost : Cost} (u v : ℕ) (nodes : List ℕ) {x z : ℕ} {d : Cost} (w : Walk (IsLeastArc g) x z d) → u ∷ v ∷ nodes ≡ x ∷ visited w → spent ⊕ d ≡ cost → Steps spent u v nodes cost
  steps spent u v nodes stay e sum = absurd (cc)
  steps spent u v nodes (go {x = x} {y = y} {z = z} {c = a} {d = d} arc rest) e sum =
      let from : x ≡ u = cc in
      let to : y ≡ v = cc in
      let tail : v ∷ nodes ≡ y ∷ visited rest = cc in
      record {
        arc = a;
        least = subst (λ m. IsLeastArc g m v a) from (subst (λ m. IsLeastArc g x m a) to arc);
        onward = record { first = y; last = z; rest = d; along = (rest, tail); sum = sum_assoc spent a d ∙ sum };
      }

  pub goes_on-steps : {spent cost : Cost} (u v : ℕ) (nodes : List ℕ) → GoesOn g spent (u ∷ v ∷ nodes) cost → Steps spent u v nodes cost
  goes_on-steps {spent} {cost} u v nodes h = steps spent u v nodes h.along.0 h.along.1 h.sum

  -- after the least arc the rest goes on
  pub goes_on-onward : {spent cost : Cost} (arc : Cost) (u v : ℕ) (nodes : List ℕ) → IsLeastArc g u v arc → GoesOn g spent (u ∷ v ∷ nodes) cost → GoesOn g (spent ⊕ arc) (v ∷ nodes) cost
  goes_on-onward {spent} {cost} arc u v nodes least h =
      let k = goes_on-steps u v nodes h in
      subst (λ a. GoesOn g (spent ⊕ a) (v ∷ nodes) cost) (least_arc-unique u v k.arc arc k.least least) k.onward

  -- where no arc leads on within the cost, nothing does
  pub goes_on-blocked : {spent cost : Cost} (u v : ℕ) (nodes : List ℕ) → ((arc : Cost) → IsLeastArc g u v arc → IsWithin (spent ⊕ arc) cost → ⊥) → GoesOn g spent (u ∷ v ∷ nodes) cost → ⊥
  goes_on-blocked {spent} {cost} u v nodes none h =
      let k = goes_on-steps u v nodes h in
      none k.arc k.least (goes_on-within k.onward)
