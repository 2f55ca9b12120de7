-- The links with their ends exchanged, sorted.
use Rattle.std.proofs.Common.{ℕ, ◌≡◌, ◌≢◌, ◌<◌, ◌≤◌, ◌&&◌, nat_eq, nat_cmp, is_lt, true, false, Bool, List, length, get_or, map, None, AllPairs, Contains, arith, ap, sym, subst, ◌∙◌, inl, inr, zero, suc, ◌+◌}
use Rattle.std.specs.List.Sorted.{IsPermutation}
use Rattle.std.specs.Ordering.{ordering_then}
use Rattle.std.proofs.lemmas.Bool.{cases_lt}
use Rattle.std.proofs.lemmas.Bool.Decides.{nat_tests}
use Rattle.std.proofs.lemmas.List.{get_or-map, length-map}
use Rattle.std.proofs.lemmas.List.Sorted.{IsPermutation-map, IsPermutation-sym, Contains-permutation}
use Rattle.std.proofs.lemmas.Map.Made.{IsDistinct-from_AllPairs, AllPairs-from_IsDistinct}
use Rattle.std.proofs.lemmas.Map.Keys.{IsDistinct-IsPermutation}
use Rattle.ch_cost.specs.declared.cost.Cost.{Cost}
use Rattle.ch_cost.specs.Cost.{zero_cost}
use Rattle.ch_graph.specs.declared.link.Link.{Link}
use Rattle.ch_graph.specs.declared.version.Version.{Version}
use Rattle.ch_graph.specs.Hierarchy.{Hierarchy, hierarchy_of, ComesBefore}
use Rattle.ch_laws.specs.Members.{contains-map, contains-mapped}
use Rattle.ch_turned.specs.Turned.{turned_link, IsTurned}

-- ranks and a bound of the hierarchy, and its links with their ends exchanged in another order, are that hierarchy turned
pub turned_of : (h : Hierarchy) (v : Version) (ranks : List ℕ) (links : List Link) (bound : Cost) → v ≡ h.version → ranks ≡ h.ranks → IsPermutation (map turned_link h.links) links → bound ≡ h.bound → IsTurned h (hierarchy_of v ranks links bound)
turned_of h v ranks links bound version same moved limit = record {
  version = version;
  ranks = same;
  bound = limit;
  links = λ l. (
    λ is.
        let found = contains-mapped turned_link h.links l (Contains-permutation links (map turned_link h.links) l (IsPermutation-sym (map turned_link h.links) links moved) is) in
        subst (λ (k : Link). Contains h.links (turned_link k)) found.2 found.1,
    λ is. Contains-permutation (map turned_link h.links) links l moved (contains-map turned_link h.links (turned_link l) is),
  );
}

-- Order

abbrev ends : Link → ℕ × ℕ
ends l = (l.from, l.to)

abbrev same_pair : ℕ × ℕ → ℕ × ℕ → Bool
same_pair a b = nat_eq a.0 b.0 && nat_eq a.1 b.1

pair_is : (a b : ℕ × ℕ) → a.0 ≡ b.0 → a.1 ≡ b.1 → a ≡ b
pair_is a b first second = ap (λ (n : ℕ). (n, a.1)) first ∙ ap (λ (n : ℕ). (b.0, n)) second

pair_test : (a b : ℕ × ℕ) → (same_pair a b ≡ true → a ≡ b) × (a ≡ b → same_pair a b ≡ true)
pair_test a b = (
  λ e.
      let first : a.0 ≡ b.0 = grind (arith, nat_tests, e) in
      let second : a.1 ≡ b.1 = grind (arith, nat_tests, e) in
      pair_is a b first second,
  λ same.
      let first : a.0 ≡ b.0 = ap (λ (p : ℕ × ℕ). p.0) same in
      let second : a.1 ≡ b.1 = ap (λ (p : ℕ × ℕ). p.1) same in
      grind (arith, nat_tests, first, second),
)

swapped : (a b : ℕ) → nat_eq a b ≡ nat_eq b a
swapped a b = grind (arith, nat_tests)

pair_flips : (a b : ℕ × ℕ) → same_pair a b ≡ same_pair b a
pair_flips a b = ap (λ (t : Bool). t && nat_eq a.1 b.1) (swapped a.0 b.0) ∙ ap (λ (t : Bool). nat_eq b.0 a.0 && t) (swapped a.1 b.1)

no_link : Link
no_link = record { from = 0; to = 0; cost = zero_cost; middle = None }

-- what holds of each two images holds of the two, and the other way round
pairs-map : {X Y : Type 0} (R : Y → Y → Type 0) (f : X → Y) (d : X) (xs : List X) → AllPairs (λ a b. R (f a) (f b)) xs → AllPairs R (map f xs)
pairs-map R f d xs pairs i j e less h =
    let low : j < length xs = omega (arith, h, length-map xs f) in
    let first = get_or-map f xs i d e (omega (arith, less, low)) in
    let second = get_or-map f xs j d e low in
    subst (λ y. R y (get_or (map f xs) j e)) (sym first) (subst (λ y. R (f (get_or xs i d)) y) (sym second) (pairs i j d less low))

pairs-mapped : {X Y : Type 0} (R : Y → Y → Type 0) (f : X → Y) (e : Y) (xs : List X) → AllPairs R (map f xs) → AllPairs (λ a b. R (f a) (f b)) xs
pairs-mapped R f e xs pairs i j d less h =
    let long = length-map xs f in
    let first = get_or-map f xs i d e (omega (arith, less, h)) in
    let second = get_or-map f xs j d e h in
    subst (λ y. R y (f (get_or xs j d))) first (subst (λ y. R (get_or (map f xs) i e) y) second (pairs i j e less (omega (arith, h, long))))

-- links in order have different ends, also where these are exchanged
apart : (a b : Link) → ComesBefore a b → ends (turned_link a) ≢ ends (turned_link b)
apart a b before same =
    let to : a.to ≡ b.to = ap (λ (p : ℕ × ℕ). p.0) same in
    let from : a.from ≡ b.from = ap (λ (p : ℕ × ℕ). p.1) same in
    elim before [
      | inl low ↦ absurd (omega (arith, low, from))
      | inr both ↦ absurd (omega (arith, both.1, to))
    ]

comes_before : (a b : Link) → ends a ≢ ends b → (a.from ≤ b.from) × (a.from ≡ b.from → a.to ≤ b.to) → ComesBefore a b
comes_before a b differ both = elim (cases_lt a.from b.from) [
  | inl below ↦ inl below
  | inr past ↦
      let same : a.from ≡ b.from = omega (arith, both.0, past) in
      let up = both.1 same in
      let other : a.to ≢ b.to = λ is. differ (pair_is (ends a) (ends b) same is) in
      inr (same, omega (arith, up, other))
]

-- links in order, with their ends exchanged and sorted again, are in order
pub in_order : (ls ts : List Link) → AllPairs ComesBefore ls → IsPermutation (map turned_link ls) ts → AllPairs (λ a b. (a.from ≤ b.from) × (a.from ≡ b.from → a.to ≤ b.to)) ts → AllPairs ComesBefore ts
in_order ls ts order moved sorted i j d less h =
    let ks = map turned_link ls in
    let differ = pairs-map (λ a b. ends a ≢ ends b) turned_link no_link ls (λ i j d less h. apart (get_or ls i d) (get_or ls j d) (order i j d less h)) in
    let first = IsDistinct-from_AllPairs pair_test (map ends ks) (pairs-map (λ a b. a ≢ b) ends no_link ks differ) in
    let second = IsDistinct-IsPermutation same_pair pair_flips (map ends ks) (map ends ts) (IsPermutation-map ends ks ts moved) first in
    let stay = pairs-mapped (λ a b. a ≢ b) ends (0, 0) ts (AllPairs-from_IsDistinct pair_test (map ends ts) second) i j d less h in
    comes_before (get_or ts i d) (get_or ts j d) stay (sorted i j d less h)

-- what holds of neighbours holds of each two
pub pairs-from_adjacent : {X : Type 0} (R : X → X → Type 0) (xs : List X) → ((a b c : X) → R a b → R b c → R a c)
    → ((k : ℕ) (d : X) → k + 1 < length xs → R (get_or xs k d) (get_or xs (k + 1) d)) → AllPairs R xs
pairs-from_adjacent R xs trans adjacent i j d less inside = up j d less inside
  where
    up : (j : ℕ) (d : _) → i < j → j < length xs → R (get_or xs i d) (get_or xs j d)
    up zero d less inside = absurd (omega (arith, less))
    up (suc k) d less inside = elim (cases_lt i k) [
      | inl before ↦ trans _ _ _ (up k d before (omega (arith, inside))) (subst (λ n. R (get_or xs k d) (get_or xs n d)) (next k) (adjacent k d (omega (arith, inside))))
      | inr past ↦
          let same : k ≡ i = omega (arith, less, past) in
          subst (λ n. R (get_or xs n d) (get_or xs (suc k) d)) same (subst (λ n. R (get_or xs k d) (get_or xs n d)) (next k) (adjacent k d (omega (arith, inside))))
    ]
      where
        next : (k : ℕ) → k + 1 ≡ suc k
        next k = omega arith

pub pair_not_less : (a b c d : ℕ) → is_lt (ordering_then (nat_cmp c a) (nat_cmp d b)) ≡ false → (a ≤ c) × (a ≡ c → b ≤ d)
pair_not_less a b c d e = (grind (arith, nat_tests, e), λ same. grind (arith, nat_tests, e, same))
