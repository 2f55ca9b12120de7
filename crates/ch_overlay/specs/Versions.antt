-- New versions, numbered one by one: they are above all earlier ones, and below the next ones.
use Rattle.std.proofs.Common.{ℕ, ◌≡◌, ◌+◌, ◌<◌, ◌≤◌, List, [], ◌∷◌, AllPairs, All, get_or, slice_set, arith, sym, subst}
use Rattle.std.specs.List.{range_with_len, zip}
use Rattle.std.proofs.lemmas.List.Elements.{All-cons, All-head, All-tail, All-set}
use Rattle.ch_overlay.specs.Change.{puts}
use Rattle.ch_overlay.specs.Ranges.{range_with_len-rises, range-within}

-- what holds of each element and of each that is put holds afterwards
puts-all : {A : Type 0} (P : A → Type 0) (xs : List A) (ps : List (ℕ × A)) → All P xs → All (λ (p : ℕ × A). P p.1) ps → All P (puts xs ps)
puts-all P xs [] all each = all
puts-all {A} P xs (p ∷ ps) all each = puts-all P (slice_set xs p.0 p.1) ps (All-set P xs p.0 p.1 (All-head (λ (q : ℕ × A). P q.1) p ps each) all) (All-tail (λ (q : ℕ × A). P q.1) p ps each)

-- what holds of each second holds of a zip
zip-all : (P : ℕ → Type 0) (ks vs : List ℕ) → All P vs → All (λ (p : ℕ × ℕ). P p.1) (zip ks vs)
zip-all P [] vs each = λ k d h. absurd (omega (arith, h))
zip-all P (k ∷ ks) [] each = λ i d h. absurd (omega (arith, h))
zip-all P (k ∷ ks) (v ∷ vs) each = All-cons (λ (p : ℕ × ℕ). P p.1) (k, v) (zip ks vs) (All-head P v vs each) (zip-all P ks vs (All-tail P v vs each))

module _ (vs : List ℕ) (first count : ℕ) (is : vs ≡ range_with_len first count) where
  -- new versions rise, and are above all old ones
  pub versions-rise : AllPairs (λ a b. a < b) vs
  versions-rise = subst (λ (ws : List ℕ). AllPairs (λ a b. a < b) ws) (sym is) (range_with_len-rises first count)

  pub versions-above : (old : List ℕ) → All (λ v. v < first) old → All (λ a. All (λ b. a < b) vs) old
  versions-above old below k d h j e g =
      let new : (first ≤ get_or vs j e) × (get_or vs j e < first + count) = subst (λ (ws : List ℕ). All (λ v. (first ≤ v) × (v < first + count)) ws) (sym is) (range-within first count) j e g in
      let low : get_or old k d < first = below k d h in
      omega (arith, new.0, low)

  -- and the next ones are above them
  pub versions-next : (ks old : List ℕ) → All (λ v. v < first) old → All (λ v. v < first + count) (puts old (zip ks vs))
  versions-next ks old below =
      puts-all (λ v. v < first + count) old (zip ks vs)
      (λ k d h. omega (arith, below k d h))
      (zip-all (λ v. v < first + count) ks vs (λ k d h. (subst (λ (ws : List ℕ). All (λ v. (first ≤ v) × (v < first + count)) ws) (sym is) (range-within first count) k d h).1))
