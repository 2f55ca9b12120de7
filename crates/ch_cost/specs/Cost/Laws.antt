-- The laws of costs: with `Cost.Numbers` all that other crates use of them.
-- Only modules below `Cost` see what its definitions say, so the laws are shown here, each by arithmetic on the numbers.
use Rattle.std.specs.Prelude.{Some, ℕ, ◌≡◌, ◌+◌, ◌*◌, ◌^◌, ◌<◌, ◌≤◌, ◌⊎◌, Bool, true, false, ◌==◌, refl}
use Rattle.std.specs.declared.cmp.Ordering.{Ordering}
use Rattle.std.specs.declared.cmp.Ordering.TheVariants.{Less, Equal, Greater}
use Rattle.std.specs.Ordering.{is_eq, is_lt, nat_cmp, ordering_then, MatchOrdering}
use Rattle.std.specs.Cmp.{IsEquivalence, IsPartialEquivalence, IsTotalOrder, IsPartialOrder, nat_eq_equiv, nat_cmp_total, partial_equiv_from_equiv, po, unsigned_ties, on_total, on_equiv, then_total, and_equiv, both_tied, first_so, second_so, ranks}
use Rattle.std.proofs.Common.{zero, suc, ap, sym, ◌∙◌, subst, inl, inr, arith, add_comm, add-one, suc-mul, mul-le-mul, mul-le-mul_left, mul-le-mul_right, eqb-true}
use Rattle.std.proofs.lemmas.Bool.{cases_lt, cases_eq}
use Rattle.ch_cost.specs.declared.cost.Cost.{Cost}
use Rattle.ch_cost.specs.Cost.{zero_cost, ◌⊕◌, of_weight, cost_of_arcs, length_of, arcs_of, IsWeight, ◌≼◌, ◌≺◌, compare, same, IsWithin, IsNoLonger, IsInLimit, IsSummable, IsOfArcs, IsOfWalks}

-- two costs are the same where their numbers are
alike : (a b : Cost) → a.weight ≡ b.weight → a.arcs ≡ b.arcs → a ≡ b
alike a b e f = ap (λ (w : ℕ). record { weight = w; arcs = a.arcs }) e ∙ ap (λ (n : ℕ). record { weight = b.weight; arcs = n }) f

-- Sums

pub sum_assoc : (a b c : Cost) → (a ⊕ b) ⊕ c ≡ a ⊕ (b ⊕ c)
unfolding ◌⊕◌
sum_assoc a b c = alike _ _ (omega arith) (omega arith)

pub sum_comm : (a b : Cost) → a ⊕ b ≡ b ⊕ a
unfolding ◌⊕◌
sum_comm a b = alike _ _ (omega arith) (omega arith)

pub zero_cost-sum : (a : Cost) → zero_cost ⊕ a ≡ a
unfolding ◌⊕◌ zero_cost
zero_cost-sum a = alike _ _ (omega arith) (omega arith)

pub sum-zero_cost : (a : Cost) → a ⊕ zero_cost ≡ a
unfolding ◌⊕◌ zero_cost
sum-zero_cost a = alike _ _ (omega arith) (omega arith)

-- the constant `Cost::ZERO`, as a clause reads it
pub ZERO-is : record { weight = 0; arcs = 0 } ≡ zero_cost
unfolding zero_cost
ZERO-is = refl

-- The order is total

pub at_most_refl : (a : Cost) → a ≼ a
at_most_refl a = record { weight = omega arith; arcs = λ e. omega arith }

pub at_most_trans : {a b c : Cost} → a ≼ b → b ≼ c → a ≼ c
at_most_trans {a} {b} {c} h k = record {
  weight = omega (arith, h.weight, k.weight);
  arcs = λ e. omega (arith, e, h.weight, k.weight, h.arcs, k.arcs);
}

pub at_most_antisym : {a b : Cost} → a ≼ b → b ≼ a → a ≡ b
at_most_antisym {a} {b} h k =
    let e : a.weight ≡ b.weight = omega (arith, h.weight, k.weight) in
    alike a b e (omega (arith, e, h.arcs e, k.arcs (sym e)))

pub cases_cost : (a b : Cost) → (a ≺ b) ⊎ (b ≼ a)
cases_cost a b = elim (cases_lt a.weight b.weight) [
  | inl less ↦ inl (record { weight = omega (arith, less); arcs = λ e. absurd (omega (arith, less, e)) })
  | inr most ↦ elim (cases_eq a.weight b.weight) [
    | inl e ↦ elim (cases_lt a.arcs b.arcs) [
      | inl fewer ↦ inl (record { weight = omega (arith, e); arcs = λ d. fewer })
      | inr more ↦ inr (record { weight = most; arcs = λ d. more })
    ]
    | inr d ↦ inr (record { weight = most; arcs = λ e. absurd (d (sym e)) })
  ]
]

pub below_not_at_most : {a b : Cost} → a ≺ b → b ≼ a → ⊥
below_not_at_most {a} {b} h k =
    let e : a.weight ≡ b.weight = omega (arith, h.weight, k.weight) in
    omega (arith, h.arcs e, k.arcs (sym e))

pub at_most-from_below : {a b : Cost} → a ≺ b → a ≼ b
at_most-from_below {a} {b} h = record { weight = h.weight; arcs = λ e. omega (arith, h.arcs e) }

pub below_trans_at_most : {a b c : Cost} → a ≺ b → b ≼ c → a ≺ c
below_trans_at_most {a} {b} {c} h k = record {
  weight = omega (arith, h.weight, k.weight);
  arcs = λ e. omega (arith, e, h.weight, k.weight, h.arcs, k.arcs);
}

pub at_most_trans_below : {a b c : Cost} → a ≼ b → b ≺ c → a ≺ c
at_most_trans_below {a} {b} {c} h k = record {
  weight = omega (arith, h.weight, k.weight);
  arcs = λ e. omega (arith, e, h.weight, k.weight, h.arcs, k.arcs);
}

-- Sums keep the order, strictly too

pub sum_at_most : {a b c d : Cost} → a ≼ b → c ≼ d → a ⊕ c ≼ b ⊕ d
unfolding ◌⊕◌
sum_at_most {a} {b} {c} {d} h k = record {
  weight = omega (arith, h.weight, k.weight);
  arcs = λ e. omega (arith, e, h.weight, k.weight, h.arcs, k.arcs);
}

pub sum_below_left : {a b c d : Cost} → a ≺ b → c ≼ d → a ⊕ c ≺ b ⊕ d
unfolding ◌⊕◌
sum_below_left {a} {b} {c} {d} h k = record {
  weight = omega (arith, h.weight, k.weight);
  arcs = λ e. omega (arith, e, h.weight, k.weight, h.arcs, k.arcs);
}

pub sum_below_right : {a b c d : Cost} → a ≼ b → c ≺ d → a ⊕ c ≺ b ⊕ d
unfolding ◌⊕◌
sum_below_right {a} {b} {c} {d} h k = record {
  weight = omega (arith, h.weight, k.weight);
  arcs = λ e. omega (arith, e, h.weight, k.weight, h.arcs, k.arcs);
}

-- a cost above nothing makes a sum greater
pub below_sum_left : (a b : Cost) → zero_cost ≺ a → b ≺ a ⊕ b
unfolding ◌⊕◌ zero_cost
below_sum_left a b h = record {
  weight = omega arith;
  arcs = λ e. omega (arith, e, h.weight, h.arcs);
}

pub zero_cost_at_most : (a : Cost) → zero_cost ≼ a
unfolding zero_cost
zero_cost_at_most a = record { weight = omega arith; arcs = λ e. omega arith }

pub at_most_sum_left : (a b : Cost) → a ≼ a ⊕ b
unfolding ◌⊕◌
at_most_sum_left a b = record { weight = omega arith; arcs = λ e. omega arith }

pub at_most_sum_right : (a b : Cost) → b ≼ a ⊕ b
unfolding ◌⊕◌
at_most_sum_right a b = record { weight = omega arith; arcs = λ e. omega arith }

-- Arcs

pub weight-from : (w : ℕ) → w < 2 ^ 32 → IsWeight w
weight-from w fits = record { fits = fits }

pub weight_fits : {w : ℕ} → IsWeight w → w < 2 ^ 32
weight_fits h = h.fits

-- an arc costs more than nothing, whatever its weight
pub arc_above : (w : ℕ) → zero_cost ≺ of_weight w
unfolding zero_cost of_weight
arc_above w = record { weight = omega arith; arcs = λ e. omega arith }

pub arc_at_most : {v w : ℕ} → v ≤ w → of_weight v ≼ of_weight w
unfolding of_weight
arc_at_most {v} {w} h = record { weight = h; arcs = λ e. omega arith }

-- what has a length, or an arc, costs more than nothing
pub above-from_length : (c : Cost) → 0 < length_of c → zero_cost ≺ c
unfolding zero_cost length_of
above-from_length c h = record { weight = omega arith; arcs = λ e. absurd (omega (arith, h, e)) }

pub above-from_arcs : (c : Cost) → 0 < arcs_of c → zero_cost ≺ c
unfolding zero_cost arcs_of
above-from_arcs c h = record { weight = omega arith; arcs = λ e. h }

-- Within a bound

pub within_refl : (a : Cost) → IsWithin a a
within_refl a = record { weight = omega arith; arcs = omega arith }

pub within_trans : {a b c : Cost} → IsWithin a b → IsWithin b c → IsWithin a c
within_trans {a} {b} {c} h k = record { weight = omega (arith, h.weight, k.weight); arcs = omega (arith, h.arcs, k.arcs) }

pub cases_within : (c bound : Cost) → IsWithin c bound ⊎ (IsWithin c bound → ⊥)
cases_within c bound = elim (cases_lt bound.weight c.weight) [
  | inl longer ↦ inr (λ k. omega (arith, longer, k.weight))
  | inr short ↦ elim (cases_lt bound.arcs c.arcs) [
    | inl more ↦ inr (λ k. omega (arith, more, k.arcs))
    | inr few ↦ inl (record { weight = short; arcs = few })
  ]
]

pub zero_cost_within : (bound : Cost) → IsWithin zero_cost bound
unfolding zero_cost
zero_cost_within bound = record { weight = omega arith; arcs = omega arith }

pub within-left : (a b : Cost) {bound : Cost} → IsWithin (a ⊕ b) bound → IsWithin a bound
unfolding ◌⊕◌
within-left a b {bound} h = record { weight = omega (arith, h.weight); arcs = omega (arith, h.arcs) }

pub within-right : (a b : Cost) {bound : Cost} → IsWithin (a ⊕ b) bound → IsWithin b bound
unfolding ◌⊕◌
within-right a b {bound} h = record { weight = omega (arith, h.weight); arcs = omega (arith, h.arcs) }

-- an arc and this many more arcs of at most the greatest weight
pub arc_and_arcs_within : (w n heaviest : ℕ) (c : Cost) → w ≤ heaviest → IsWithin c (cost_of_arcs n heaviest) → IsWithin (of_weight w ⊕ c) (cost_of_arcs (n + 1) heaviest)
unfolding ◌⊕◌ of_weight cost_of_arcs
arc_and_arcs_within w n heaviest c h k =
    let one_more : heaviest + n * heaviest ≡ (n + 1) * heaviest = add_comm heaviest (n * heaviest) ∙ sym (ap (λ (m : ℕ). m * heaviest) (add-one n) ∙ suc-mul n heaviest) in
    record { weight = subst (λ (most : ℕ). w + c.weight ≤ most) one_more (omega (arith, h, k.weight)); arcs = omega (arith, k.arcs) }

pub more_arcs_within : (m n heaviest : ℕ) → m ≤ n → IsWithin (cost_of_arcs m heaviest) (cost_of_arcs n heaviest)
unfolding cost_of_arcs
more_arcs_within m n heaviest h = record { weight = mul-le-mul_right heaviest h; arcs = h }

pub heavier_arcs_within : (n v w : ℕ) → v ≤ w → IsWithin (cost_of_arcs n v) (cost_of_arcs n w)
unfolding cost_of_arcs
heavier_arcs_within n v w h = record { weight = mul-le-mul_left n h; arcs = omega arith }

pub no_longer-from_within : {c bound : Cost} → IsWithin c bound → IsNoLonger c bound
no_longer-from_within h = record { weight = h.weight }

pub no_longer_at_most : {c d bound : Cost} → c ≼ d → IsNoLonger d bound → IsNoLonger c bound
no_longer_at_most {c} {d} {bound} h k = record { weight = omega (arith, h.weight, k.weight) }

-- Small enough to be summands

pub of_arcs_zero_cost : (n : ℕ) → IsOfArcs n zero_cost
unfolding zero_cost
of_arcs_zero_cost n = record { weight = omega arith; arcs = omega arith }

pub of_arcs_arc : {w : ℕ} → IsWeight w → IsOfArcs 1 (of_weight w)
unfolding of_weight
of_arcs_arc {w} h = record { weight = omega (arith, h.fits); arcs = omega arith }

pub of_arcs_sum : {m n : ℕ} {a b : Cost} → IsOfArcs m a → IsOfArcs n b → IsOfArcs (m + n) (a ⊕ b)
unfolding ◌⊕◌
of_arcs_sum {m} {n} {a} {b} h k = record { weight = omega (arith, h.weight, k.weight); arcs = omega (arith, h.arcs, k.arcs) }

pub of_arcs_more : {m n : ℕ} {a : Cost} → m ≤ n → IsOfArcs m a → IsOfArcs n a
of_arcs_more {m} {n} {a} h k = record { weight = omega (arith, h, k.weight); arcs = omega (arith, h, k.arcs) }

pub in_limit-from_arcs : {n : ℕ} {a : Cost} → n ≤ 2 ^ 25 → IsOfArcs n a → IsInLimit a
in_limit-from_arcs {n} {a} h k = record { weight = omega (arith, h, k.weight); arcs = omega (arith, h, k.arcs) }

pub in_limit-from_within : {c bound : Cost} → IsWithin c bound → IsInLimit bound → IsInLimit c
in_limit-from_within {c} {bound} h k = record { weight = omega (arith, h.weight, k.weight); arcs = omega (arith, h.arcs, k.arcs) }

pub cost_of_arcs_in_limit : (n heaviest : ℕ) → n ≤ 2 ^ 25 → heaviest < 2 ^ 32 → IsInLimit (cost_of_arcs n heaviest)
unfolding cost_of_arcs
cost_of_arcs_in_limit n heaviest h k =
    let light : heaviest ≤ 2 ^ 32 = omega (arith, k) in
    let most : n * heaviest ≤ 2 ^ 25 * 2 ^ 32 = mul-le-mul h light in
    record { weight = omega (arith, most); arcs = omega (arith, h) }

pub of_walks_zero_cost : (n : ℕ) → IsOfWalks n zero_cost
unfolding zero_cost
of_walks_zero_cost n = record { arcs = omega arith }

pub of_walks_one : {c bound : Cost} (n heaviest : ℕ) → n ≤ 2 ^ 25 → heaviest < 2 ^ 32 → IsWithin bound (cost_of_arcs n heaviest) → IsWithin c bound → IsOfWalks 1 c
unfolding cost_of_arcs
of_walks_one {c} {bound} n heaviest h k b w = record { arcs = omega (arith, h, b.arcs, w.arcs) }

pub of_walks_sum : {m n : ℕ} {a b : Cost} → IsOfWalks m a → IsOfWalks n b → IsOfWalks (m + n) (a ⊕ b)
unfolding ◌⊕◌
of_walks_sum {m} {n} {a} {b} h k = record { arcs = omega (arith, h.arcs, k.arcs) }

pub of_walks_more : {m n : ℕ} {a : Cost} → m ≤ n → IsOfWalks m a → IsOfWalks n a
of_walks_more {m} {n} {a} h k = record { arcs = omega (arith, h, k.arcs) }

-- the length is bounded by the one fact, and the arcs by the other
pub in_limit-from_walks : {n : ℕ} {c bound : Cost} → n ≤ 2 ^ 25 → IsOfWalks n c → IsNoLonger c bound → IsInLimit bound → IsInLimit c
in_limit-from_walks {n} {c} {bound} h k short small = record { weight = omega (arith, short.weight, small.weight); arcs = omega (arith, h, k.arcs) }

pub summable-from_in_limit : {c : Cost} → IsInLimit c → IsSummable c
summable-from_in_limit {c} h = record { weight = omega (arith, h.weight); arcs = omega (arith, h.arcs) }

pub summable-from_walks : {n : ℕ} {c bound : Cost} → n ≤ 2 ^ 25 → IsOfWalks n c → IsNoLonger c bound → IsSummable bound → IsSummable c
summable-from_walks {n} {c} {bound} h k short small = record { weight = omega (arith, short.weight, small.weight); arcs = omega (arith, h, k.arcs) }

-- Lengths and arcs

pub length_of-zero_cost : length_of zero_cost ≡ 0
unfolding length_of zero_cost
length_of-zero_cost = refl

pub length_of-of_weight : (w : ℕ) → length_of (of_weight w) ≡ w
unfolding length_of of_weight
length_of-of_weight w = refl

pub length_of-sum : (a b : Cost) → length_of (a ⊕ b) ≡ length_of a + length_of b
unfolding length_of ◌⊕◌
length_of-sum a b = refl

pub length_of-at_most : {a b : Cost} → a ≼ b → length_of a ≤ length_of b
unfolding length_of
length_of-at_most h = h.weight

pub arcs_of-zero_cost : arcs_of zero_cost ≡ 0
unfolding arcs_of zero_cost
arcs_of-zero_cost = refl

pub arcs_of-of_weight : (w : ℕ) → arcs_of (of_weight w) ≡ 1
unfolding arcs_of of_weight
arcs_of-of_weight w = refl

pub arcs_of-sum : (a b : Cost) → arcs_of (a ⊕ b) ≡ arcs_of a + arcs_of b
unfolding arcs_of ◌⊕◌
arcs_of-sum a b = refl

pub arcs_of-at_most : {a b : Cost} → a ≼ b → length_of a ≡ length_of b → arcs_of a ≤ arcs_of b
unfolding length_of arcs_of
arcs_of-at_most h e = h.arcs e

-- what is shorter costs less, and what costs less and counts no fewer arcs is shorter
pub below-from_lengths : (a b : Cost) → length_of a < length_of b → a ≺ b
unfolding length_of
below-from_lengths a b h = record { weight = omega (arith, h); arcs = λ e. absurd (omega (arith, h, e)) }

pub lengths-from_below : (a b : Cost) → a ≺ b → arcs_of b ≤ arcs_of a → length_of a < length_of b
unfolding length_of arcs_of
lengths-from_below a b h few = elim (cases_eq a.weight b.weight) [
  | inl e ↦ absurd (omega (arith, h.arcs e, few))
  | inr d ↦ omega (arith, h.weight, d)
]

-- The order as a comparison

-- the two orders that it uses
length_order : Cost → Cost → Ordering
length_order a b = nat_cmp a.weight b.weight

arcs_order : Cost → Cost → Ordering
arcs_order a b = nat_cmp a.arcs b.arcs

pub compare-total : IsTotalOrder compare
unfolding compare length_order arcs_order
compare-total = then_total {R = length_order} {S = arcs_order} (on_total (λ (c : Cost). c.weight) nat_cmp_total) (on_total (λ (c : Cost). c.arcs) nat_cmp_total)

same_length : Cost → Cost → Bool
same_length a b = a.weight == b.weight

same_arcs : Cost → Cost → Bool
same_arcs a b = a.arcs == b.arcs

pub same-laws : IsEquivalence same
unfolding same same_length same_arcs
same-laws = and_equiv {E = same_length} {F = same_arcs} (on_equiv (λ (c : Cost). c.weight) nat_eq_equiv) (on_equiv (λ (c : Cost). c.arcs) nat_eq_equiv)

pub same-partial : IsPartialEquivalence same
same-partial = partial_equiv_from_equiv same-laws

pub same-compare : (a b : Cost) → same a b ≡ is_eq (compare a b)
unfolding compare same
same-compare a b = both_tied (a.weight == b.weight) (a.arcs == b.arcs) (nat_cmp a.weight b.weight) (nat_cmp a.arcs b.arcs) (unsigned_ties a.weight b.weight) (unsigned_ties a.arcs b.arcs)

pub compare-partial : IsPartialOrder same (λ (a b : Cost). Some (compare a b))
compare-partial = po compare-total same-compare

-- what the two comparisons say, where the pair isn't less
not_less : (a b : Cost) (first second : Ordering) → MatchOrdering first (a.weight < b.weight) (a.weight ≡ b.weight) (b.weight < a.weight) → MatchOrdering second (a.arcs < b.arcs) (a.arcs ≡ b.arcs) (b.arcs < a.arcs) → is_lt (ordering_then first second) ≡ false → b ≼ a
not_less a b Less second h k e = absurd (cc)
not_less a b Equal Less h k e = absurd (cc)
not_less a b Equal Equal h k e = record { weight = omega (arith, h); arcs = λ d. omega (arith, k) }
not_less a b Equal Greater h k e = record { weight = omega (arith, h); arcs = λ d. omega (arith, k) }
not_less a b Greater second h k e = record { weight = omega (arith, h); arcs = λ d. absurd (omega (arith, h, d)) }

pub at_most-from_not_less : (a b : Cost) → is_lt (compare a b) ≡ false → b ≼ a
unfolding compare
at_most-from_not_less a b e = not_less a b (nat_cmp a.weight b.weight) (nat_cmp a.arcs b.arcs) (ranks a.weight b.weight) (ranks a.arcs b.arcs) e

pub equal-from_same : (a b : Cost) → same a b ≡ true → a ≡ b
unfolding same
equal-from_same a b e = alike a b (eqb-true a.weight b.weight (first_so _ _ e)) (eqb-true a.arcs b.arcs (second_so _ _ e))

pub same-from_equal : (a b : Cost) → a ≡ b → same a b ≡ true
same-from_equal a b e = subst (λ (c : Cost). same a c ≡ true) e (same-laws.refl a)

-- Induction: what holds of a cost where it holds of all below it holds of each. By the length, and for one length by
-- the arcs.

module _ (P : Cost → Type 0) (step : (c : Cost) → ((d : Cost) → d ≺ c → P d) → P c) where
  by_arcs : (length : ℕ) → ((d : Cost) → d.weight < length → P d) → (n : ℕ) (c : Cost) → c.weight ≡ length → c.arcs < n → P c
  by_arcs length shorter zero c is few = absurd (omega (arith, few))
  by_arcs length shorter (suc n) c is few = step c (λ d below. elim (cases_lt d.weight length) [
    | inl less ↦ shorter d less
    | inr most ↦
        let e : d.weight ≡ c.weight = omega (arith, most, is, below.weight) in
        by_arcs length shorter n d (omega (arith, e, is)) (omega (arith, below.arcs e, few))
  ])

  by_length : (n : ℕ) (c : Cost) → c.weight < n → P c
  by_length zero c h = absurd (omega (arith, h))
  by_length (suc n) c h = by_arcs c.weight (λ d less. by_length n d (omega (arith, less, h))) (c.arcs + 1) c refl (omega arith)

  pub cost-induction : (c : Cost) → P c
  cost-induction c = by_length (c.weight + 1) c (omega arith)
