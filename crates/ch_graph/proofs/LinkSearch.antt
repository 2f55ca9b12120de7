-- What a binary search over links in rising order finds.
use Rattle.std.proofs.Common.{ℕ, ◌≡◌, ◌<◌, ◌≤◌, ◌⊎◌, List, length, get_or, Ordering, None, AllPairs, inl, inr, refl, subst, arith}
use Rattle.std.specs.List.{HoldsAt}
use Rattle.std.specs.List.Sorted.{IsNonDecreasingBy, IsPartitionPoint}
use Rattle.std.specs.Ordering.{nat_cmp, ordering_then, ordering_index}
use Rattle.std.specs.declared.cmp.Ordering.TheVariants.{Less, Equal, Greater}
use Rattle.std.proofs.lemmas.Bool.{cases_lt}
use Rattle.std.proofs.lemmas.Bool.Decides.{nat_tests}
use Rattle.ch_cost.specs.Cost.{zero_cost}
use Rattle.ch_graph.specs.declared.link.Link.{Link}
use Rattle.ch_graph.specs.Hierarchy.{ComesBefore, IsLinkAt}

-- how two pairs of ends compare
abbrev pub ends_cmp : ℕ → ℕ → ℕ → ℕ → Ordering
ends_cmp a b x y = ordering_then (nat_cmp a x) (nat_cmp b y)

pub cmp-less : (a x : ℕ) → a < x → nat_cmp a x ≡ Less
cmp-less a x h = grind (arith, nat_tests)

pub cmp-equal : {a x : ℕ} → a ≡ x → nat_cmp a x ≡ Equal
cmp-equal h = grind (arith, nat_tests)

pub cmp-greater : (a x : ℕ) → x < a → nat_cmp a x ≡ Greater
cmp-greater a x h = grind (arith, nat_tests)

-- by the first numbers, and then by the second
by_ends : (P : Ordering → Type 0) (a b x y : ℕ) → (a < x → P Less) → (a ≡ x → b < y → P Less) → (a ≡ x → b ≡ y → P Equal) → (a ≡ x → y < b → P Greater) → (x < a → P Greater) → P (ends_cmp a b x y)
by_ends P a b x y less then_less equal then_greater greater =
    elim (cases_lt a x) [
      | inl h ↦ rw cmp-less (less h)
      | inr h ↦ elim (cases_lt x a) [
        | inl k ↦ rw cmp-greater (greater k)
        | inr k ↦ let e : a ≡ x = omega arith in rw (cmp-equal e) (elim (cases_lt b y) [
          | inl m ↦ rw cmp-less (then_less e m)
          | inr m ↦ elim (cases_lt y b) [
            | inl n ↦ rw cmp-greater (then_greater e n)
            | inr n ↦ let f : b ≡ y = omega arith in rw (cmp-equal f) (equal e f)
          ]
        ])
      ]
    ]

equal_ends : (a b x y : ℕ) → ends_cmp a b x y ≡ Equal → (a ≡ x) × (b ≡ y)
equal_ends a b x y = by_ends (λ o. o ≡ Equal → (a ≡ x) × (b ≡ y)) a b x y (λ _ h. absurd (cc)) (λ _ _ h. absurd (cc)) (λ e f _. (e, f)) (λ _ _ h. absurd (cc)) (λ _ h. absurd (cc))

-- the place of an equal comparison is that of the link
pub found_at : (links : List Link) (x y place : ℕ) → place < length links → HoldsAt (λ (l : Link). ends_cmp l.from l.to x y ≡ Equal) links place → IsLinkAt links x y place
found_at links x y place within h = record {
  within = within;
  from = λ (d : Link). let l : Link = get_or links place d in (equal_ends l.from l.to x y (h d)).0;
  to = λ (d : Link). let l : Link = get_or links place d in (equal_ends l.from l.to x y (h d)).1;
}

-- a link that comes before another one doesn't compare above it
rises : (a b c d x y : ℕ) → (a < c) ⊎ ((a ≡ c) × (b < d)) → ordering_index (ends_cmp a b x y) ≤ ordering_index (ends_cmp c d x y)
rises a b c d x y h =
    let Before : Ordering → Type 0 = λ o. ordering_index o ≤ ordering_index (ends_cmp c d x y) in
    let less : Before Less = omega arith in
    let first : x ≤ c → (x ≡ c → y ≤ d) → 1 ≤ ordering_index (ends_cmp c d x y) =
    λ h k. by_ends (λ o. 1 ≤ ordering_index o) c d x y (λ below. absurd (omega arith)) (λ e below. absurd (omega (arith, k (omega arith)))) (λ _ _. omega arith) (λ _ _. omega arith) (λ _. omega arith) in
    let above : x < c ⊎ ((x ≡ c) × (y < d)) → 2 ≤ ordering_index (ends_cmp c d x y) =
    λ k. by_ends (λ o. 2 ≤ ordering_index o) c d x y (λ below. absurd (elim k [ inl p ↦ omega arith | inr p ↦ omega (arith, p.0) ]))
    (λ e below. absurd (elim k [ inl p ↦ omega arith | inr p ↦ omega (arith, p.0, p.1) ])) (λ e f. absurd (elim k [ inl p ↦ omega arith | inr p ↦ omega (arith, p.0, p.1) ])) (λ _ _. omega arith) (λ _. omega arith) in
    by_ends Before a b x y (λ _. less) (λ _ _. less)
    (λ e f. elim h [ inl p ↦ first (omega arith) (λ q. absurd (omega arith)) | inr p ↦ first (omega (arith, p.0)) (λ q. omega (arith, p.1)) ])
    (λ e f. above (elim h [ inl p ↦ inl (omega arith) | inr p ↦ inr (omega (arith, p.0), omega (arith, p.1)) ]))
    (λ f. above (elim h [ inl p ↦ inl (omega arith) | inr p ↦ inl (omega (arith, p.0)) ]))

pub links_rise : (links : List Link) (x y : ℕ) → AllPairs ComesBefore links → IsNonDecreasingBy (λ (l : Link). ordering_index (ends_cmp l.from l.to x y)) links
links_rise links x y sorted i j d at_most within =
    let a : Link = get_or links i d in
    let b : Link = get_or links j d in
    elim (cases_lt i j) [
      | inl h ↦ rises a.from a.to b.from b.to x y (sorted i j d h within)
      | inr h ↦ let e : i ≡ j = omega arith in subst (λ k. let l : Link = get_or links k d in ordering_index (ends_cmp a.from a.to x y) ≤ ordering_index (ends_cmp l.from l.to x y)) e (omega arith)
    ]

-- where nothing compares equal there is no such link
pub nowhere : (links : List Link) (x y i : ℕ) → IsPartitionPoint (λ (l : Link). ends_cmp l.from l.to x y ≡ Less) (λ (l : Link). ends_cmp l.from l.to x y ≡ Greater) links i
    → (place : ℕ) → IsLinkAt links x y place → ⊥
nowhere links x y i split place at =
    let some : Link = record { from = 0; to = 0; cost = zero_cost; middle = None } in
    let l : Link = get_or links place some in
    let equal : ends_cmp l.from l.to x y ≡ Equal = rw (cmp-equal (at.from some), cmp-equal (at.to some)) refl in
    elim (cases_lt place i) [
      | inl h ↦ let less : ends_cmp l.from l.to x y ≡ Less = split.0 place some (omega arith) h in cc
      | inr h ↦ let greater : ends_cmp l.from l.to x y ≡ Greater = split.1 place some h at.within in cc
    ]
