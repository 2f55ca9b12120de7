-- Walks: joined, taken along other arcs, and against cheaper ones.
use Rattle.std.specs.List.{list_any}
use Rattle.std.proofs.Common.{ℕ, ◌≡◌, ◌<◌, ◌≤◌, ◌⊎◌, true, false, eqb, ◌≢◌, [], ◌∷◌, length, All, AllPairs, arith, sym, subst, inl, inr}
use Rattle.std.proofs.lemmas.Bool.{cases_eq}
use Rattle.std.proofs.lemmas.Bool.Decides.{nat_tests, Decides-eqb}
use Rattle.std.proofs.lemmas.List.Elements.{All-nil, All-cons}
use Rattle.std.proofs.lemmas.List.Kept.{AllPairs-cons}
use Rattle.std.proofs.lemmas.Map.Made.{IsDistinct-from_AllPairs}
use Rattle.std.proofs.lemmas.Map.Steps.{length-le_from_distinct_below}
use Rattle.ch_cost.specs.declared.cost.Cost.{Cost}
use Rattle.ch_cost.specs.Cost.{zero_cost, ◌⊕◌, ◌≼◌, ◌≺◌}
use Rattle.ch_cost.specs.Cost.Laws.{sum_assoc, zero_cost-sum, sum-zero_cost, at_most_refl, at_most_trans, at_most_trans_below, at_most_sum_right, below_sum_left, sum_below_left, sum_below_right}
use Rattle.ch_graph.specs.Walk.{Walk, Walk.stay, Walk.go, visited}

-- a walk with the same ends that costs less
pub record Cheaper (Arc : ℕ → ℕ → Cost → Type 0) (x z : ℕ) (c : Cost) : Type 0 where
  pub cost : Cost
  pub walk : Walk Arc x z cost
  pub below : cost ≺ c

-- a walk from x to z that costs at most c
pub record NoDearer (Arc : ℕ → ℕ → Cost → Type 0) (x z : ℕ) (c : Cost) : Type 0 where
  pub cost : Cost
  pub walk : Walk Arc x z cost
  pub at_most : cost ≼ c

module _ {Arc : ℕ → ℕ → Cost → Type 0} where
  -- one arc is a walk
  pub one_arc : {x y : ℕ} {c : Cost} → Arc x y c → Walk Arc x y c
  one_arc {x} {y} {c} arc = subst (λ (d : Cost). Walk Arc x y d) (sum-zero_cost c) (go arc stay)

  -- two walks, one after the other
  pub join : {x y z : ℕ} {c d : Cost} → Walk Arc x y c → Walk Arc y z d → Walk Arc x z (c ⊕ d)
  join {z = z} {d = d} (stay {x}) more = subst (λ (e : Cost). Walk Arc x z e) (sym (zero_cost-sum d)) more
  join {z = z} {d = e} (go {x = x} {c = c} {d = d} arc rest) more = subst (λ (f : Cost). Walk Arc x z f) (sym (sum_assoc c d e)) (go arc (join rest more))

  -- a cheaper walk after a walk, and before one
  pub cheaper-after : {x y z : ℕ} {c d : Cost} → Walk Arc x y c → Cheaper Arc y z d → Cheaper Arc x z (c ⊕ d)
  cheaper-after {c = c} w less = record { cost = c ⊕ less.cost; walk = join w less.walk; below = sum_below_right (at_most_refl c) less.below }

  -- the same with the walk after it
  pub cheaper-before : {x y z : ℕ} {c d : Cost} → Cheaper Arc x y c → Walk Arc y z d → Cheaper Arc x z (c ⊕ d)
  cheaper-before {d = d} less w = record { cost = less.cost ⊕ d; walk = join less.walk w; below = sum_below_left less.below (at_most_refl d) }

  -- a walk that never comes to x, or what is left of it from x on
  avoids_or_rest : (x : ℕ) {y z : ℕ} {c : Cost} (w : Walk Arc y z c) → All (λ n. x ≢ n) (y ∷ visited w) ⊎ NoDearer Arc x z c
  avoids_or_rest x (stay {x = y}) = elim (cases_eq x y) [
    | inl here ↦ inr (record { cost = zero_cost; walk = subst (λ n. Walk Arc n y zero_cost) (sym here) stay; at_most = at_most_refl zero_cost })
    | inr other ↦ inl (All-cons (λ n. x ≢ n) y [] other (All-nil (λ n. x ≢ n)))
  ]
  avoids_or_rest x (go {x = y} {y = next} {z = z} {c = c} {d = d} arc rest) = elim (cases_eq x y) [
    | inl here ↦ inr (record { cost = c ⊕ d; walk = subst (λ n. Walk Arc n z (c ⊕ d)) (sym here) (go arc rest); at_most = at_most_refl (c ⊕ d) })
    | inr other ↦ elim (avoids_or_rest x rest) [
      | inl apart ↦ inl (All-cons (λ n. x ≢ n) y (next ∷ visited rest) other apart)
      | inr from_x ↦ inr (record { cost = from_x.cost; walk = from_x.walk; at_most = at_most_trans from_x.at_most (at_most_sum_right c d) })
    ]
  ]

  -- where arcs cost more than nothing, a walk repeats no node or there is a cheaper one
  pub distinct_or_cheaper : ((x y : ℕ) (c : Cost) → Arc x y c → zero_cost ≺ c) → {x z : ℕ} {c : Cost} (w : Walk Arc x z c) → AllPairs (λ a b. a ≢ b) (x ∷ visited w) ⊎ Cheaper Arc x z c
  distinct_or_cheaper above (stay {x}) = inl (AllPairs-cons (λ a b. a ≢ b) x [] (All-nil (λ n. x ≢ n)) (λ i j d low high. absurd (omega (arith, high))))
  distinct_or_cheaper above (go {x = x} {y = y} {c = c} {d = d} arc rest) = elim (distinct_or_cheaper above rest) [
    | inr less ↦ inr (cheaper-after (one_arc arc) less)
    | inl apart ↦ elim (avoids_or_rest x rest) [
      | inl never ↦ inl (AllPairs-cons (λ a b. a ≢ b) x (y ∷ visited rest) never apart)
      | inr from_x ↦ inr (record { cost = from_x.cost; walk = from_x.walk; below = at_most_trans_below from_x.at_most (below_sum_left c d (above x y c arc)) })
    ]
  ]

  -- each node of a walk is below what all ends of arcs are below
  visited_below : (n : ℕ) → ((x y : ℕ) (c : Cost) → Arc x y c → y < n) → {x z : ℕ} {c : Cost} (w : Walk Arc x z c) → x < n → (q : ℕ) → list_any (eqb q) (x ∷ visited w) ≡ true → q < n
  visited_below n ends (stay {x}) low q among = grind (arith, nat_tests, among, low)
  visited_below n ends (go {x = x} {y = y} {c = c} arc rest) low q among = elim (cases_eq q x) [
    | inl here ↦ omega (arith, here, low)
    | inr other ↦
        let apart : eqb q x ≡ false = grind (arith, nat_tests, other) in
        visited_below n ends rest (ends x y c arc) q (rw apart at among)
  ]

  -- a walk between the numbers below n has fewer than n arcs, or there is a cheaper one
  pub short_or_cheaper : (n : ℕ) → ((x y : ℕ) (c : Cost) → Arc x y c → (zero_cost ≺ c) × (y < n)) → {x z : ℕ} {c : Cost} (w : Walk Arc x z c) → x < n → (length (visited w) < n) ⊎ Cheaper Arc x z c
  short_or_cheaper n arcs {x = x} w low = elim (distinct_or_cheaper (λ a b c arc. (arcs a b c arc).0) w) [
    | inl apart ↦
        let few : length (x ∷ visited w) ≤ n = length-le_from_distinct_below (x ∷ visited w) n (IsDistinct-from_AllPairs Decides-eqb (x ∷ visited w) apart) (visited_below n (λ a b c arc. (arcs a b c arc).1) w low) in
        inl (omega (arith, few))
    | inr less ↦ inr less
  ]

-- a walk along other arcs: each arc as a walk of them
pub along_walks : {Arc Other : ℕ → ℕ → Cost → Type 0} → ((x y : ℕ) (c : Cost) → Arc x y c → Walk Other x y c) → {x z : ℕ} {c : Cost} → Walk Arc x z c → Walk Other x z c
along_walks each stay = stay
along_walks each (go {x = x} {y = y} {c = c} arc rest) = join (each x y c arc) (along_walks each rest)

-- each arc as one of them
pub along_arcs : {Arc Other : ℕ → ℕ → Cost → Type 0} → ((x y : ℕ) (c : Cost) → Arc x y c → Other x y c) → {x z : ℕ} {c : Cost} → Walk Arc x z c → Walk Other x z c
along_arcs each stay = stay
along_arcs each (go {x = x} {y = y} {c = c} arc rest) = go (each x y c arc) (along_arcs each rest)
