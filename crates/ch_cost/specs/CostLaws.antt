-- What other crates may rely on: the laws of costs, as one statement.
use Rattle.std.specs.Prelude.{ℕ, ◌≡◌, ◌+◌, ◌^◌, ◌<◌, ◌≤◌, ◌⊎◌, Some, None}
use Rattle.ch_cost.specs.declared.cost.Cost.{Cost}
use Rattle.ch_cost.specs.Cost.{zero_cost, ◌⊕◌, of_weight, cost_of_arcs, of_walk, length_of, arcs_of, ◌≼◌, ◌≺◌, IsWithin, IsNoLonger, IsInLimit, IsOfArcs}
use Rattle.ch_cost.specs.ShortCost.{no_short, short_of, kept_in}

-- Sums associate and commute, and the cost of no arc adds nothing.
pub record SumLaws : Type 0 where
  pub associates : (a b c : Cost) → (a ⊕ b) ⊕ c ≡ a ⊕ (b ⊕ c)
  pub commutes : (a b : Cost) → a ⊕ b ≡ b ⊕ a
  pub unit : (a : Cost) → zero_cost ⊕ a ≡ a

-- The order is total, sums keep it, and no sequence of costs falls for ever.
pub record OrderLaws : Type 0 where
  pub reflexive : (a : Cost) → a ≼ a
  pub transitive : (a b c : Cost) → a ≼ b → b ≼ c → a ≼ c
  pub antisymmetric : (a b : Cost) → a ≼ b → b ≼ a → a ≡ b
  pub total : (a b : Cost) → (a ≺ b) ⊎ (b ≼ a)
  pub strict : (a b : Cost) → a ≺ b → b ≼ a → ⊥
  pub kept : (a b c d : Cost) → a ≼ b → c ≼ d → a ⊕ c ≼ b ⊕ d
  pub kept_strictly : (a b c d : Cost) → a ≺ b → c ≼ d → a ⊕ c ≺ b ⊕ d
  pub founded : (f : ℕ → Cost) → ((n : ℕ) → f (n + 1) ≺ f n) → ⊥

-- An arc costs more than nothing, its length is its weight, and it is one arc. Lengths and arcs add up; the order compares
-- lengths, and where these are equal arcs.
pub record ArcLaws : Type 0 where
  pub above : (w : ℕ) → zero_cost ≺ of_weight w
  pub length : (w : ℕ) → length_of (of_weight w) ≡ w
  pub one : (w : ℕ) → arcs_of (of_weight w) ≡ 1
  pub lengths_add : (a b : Cost) → length_of (a ⊕ b) ≡ length_of a + length_of b
  pub arcs_add : (a b : Cost) → arcs_of (a ⊕ b) ≡ arcs_of a + arcs_of b
  pub lengths_follow : (a b : Cost) → a ≼ b → length_of a ≤ length_of b
  pub arcs_follow : (a b : Cost) → a ≼ b → length_of a ≡ length_of b → arcs_of a ≤ arcs_of b
  pub shorter : (a b : Cost) → length_of a < length_of b → a ≺ b
  pub two_numbers : (c : Cost) → of_walk (length_of c) (arcs_of c) ≡ c

-- Both parts of a sum within a bound are within it, and this many arcs of at most a weight are within what they can cost.
pub record BoundLaws : Type 0 where
  pub zero : (bound : Cost) → IsWithin zero_cost bound
  pub parts : (a b bound : Cost) → IsWithin (a ⊕ b) bound → IsWithin a bound × IsWithin b bound
  pub arcs : (w n heaviest : ℕ) (c : Cost) → w ≤ heaviest → IsWithin c (cost_of_arcs n heaviest) → IsWithin (of_weight w ⊕ c) (cost_of_arcs (n + 1) heaviest)
  pub no_longer : (c bound : Cost) → IsWithin c bound → IsNoLonger c bound
  pub summands : (n : ℕ) (c : Cost) → n ≤ 2 ^ 25 → IsOfArcs n c → IsInLimit c

-- What a short cost keeps is the cost that it was made of, and that of no cost keeps none.
pub record ShortLaws : Type 0 where
  pub kept : (c d : Cost) → kept_in (short_of c) ≡ Some d → d ≡ c
  pub none : kept_in no_short ≡ None

pub record CostLaws : Type 0 where
  pub sums : SumLaws
  pub order : OrderLaws
  pub arcs : ArcLaws
  pub bounds : BoundLaws
  pub shorts : ShortLaws
