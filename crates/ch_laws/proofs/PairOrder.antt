-- Pairs of nodes in the order in which they are gone through: by the first, and then by the second.
use Rattle.std.proofs.Common.{ℕ, suc, ◌≡◌, ◌<◌, ◌⊎◌, arith, inl, inr}
use Rattle.std.proofs.lemmas.Bool.{cases_eq}

-- the pairs from nodes below m, and those from m to nodes below k
abbrev pub IsCovered : ℕ → ℕ → ℕ → ℕ → Type 0
IsCovered m k u w = (u < m) ⊎ ((u ≡ m) × (w < k))

-- one more pair
pub covered_more : {m k u w : ℕ} → IsCovered m k u w → IsCovered m (suc k) u w
covered_more is = elim is [ inl low ↦ inl low | inr here ↦ inr (here.0, omega (arith, here.1)) ]

-- which is the last
pub covered_cases : (m k u w : ℕ) → IsCovered m (suc k) u w → IsCovered m k u w ⊎ ((u ≡ m) × (w ≡ k))
covered_cases m k u w is = elim is [
  | inl low ↦ inl (inl low)
  | inr here ↦ elim (cases_eq w k) [
    | inl last ↦ inr (here.0, last)
    | inr other ↦ inl (inr (here.0, omega (arith, here.1, other)))
  ]
]
