-- The links of all rows are the arcs of the state, each once.
use Rattle.std.proofs.Common.{ℕ, ◌≡◌, ◌≢◌, ◌<◌, ◌≤◌, ◌⊎◌, ◌↔◌, Bool, true, false, nat_eq, ◌&&◌, List, [], ◌∷◌, Some, length, map, get_or, slice_index, AllPairs, Contains, arith, ap, sym, subst, refl, ◌∙◌, inl, inr}
use Rattle.std.specs.List.{flat_map, range_with_len, IsDistinct}
use Rattle.std.specs.List.Sorted.{IsPermutation}
use Rattle.std.proofs.lemmas.Bool.{cases_Bool, cases_eq, false≢true}
use Rattle.std.proofs.lemmas.Bool.Decides.{nat_tests}
use Rattle.std.proofs.lemmas.Map.Keys.{IsDistinct-IsPermutation}
use Rattle.std.proofs.lemmas.List.Elements.{All-contains, All-from_recursion, recursion_from_All, Contains-append_left, Contains-append_right, Contains-append_cases}
use Rattle.std.proofs.lemmas.List.Kept.{AllPairs-cons}
use Rattle.std.proofs.lemmas.List.Sorted.{Contains-permutation, IsPermutation-sym}
use Rattle.ch_cost.specs.declared.cost.Cost.{Cost}
use Rattle.ch_graph.specs.declared.link.Link.{Link}
use Rattle.ch_graph.specs.Graph.{Graph}
use Rattle.ch_graph.specs.Limits.{bound_of}
use Rattle.ch_graph.specs.declared.version.Version.TheVariants.{Two}
use Rattle.ch_graph.specs.Hierarchy.{ComesBefore}
use Rattle.ch_laws.specs.declared.entry.Entry.{Entry}
use Rattle.ch_laws.specs.Contraction.{Before, IsOver, IsMade}
use Rattle.ch_laws.specs.Orders.{before_not_both}
use Rattle.ch_laws.specs.Members.{contains_first, contains_later, contains_cases, contains-map, contains-mapped, pairs_later}
use Rattle.ch_overlay.specs.Overlay.{Overlay, IsOverlay, row_at, state_of}
use Rattle.ch_overlay.specs.Order.{either_before}
use Rattle.ch_overlay.specs.Ranges.{AllPairs-append, AllPairs-head, contains-range, pairs-map, range-contains, range_with_len-rises}
use Rattle.ch_contract.specs.Finish.{AreRanks, AreLinks, link_out, link_in, row_links, links_below}

-- Lists

record IsOfPart {X Y : Type 0} (f : X → List Y) (xs : List X) (y : Y) : Type 0 where
  of : X
  among : Contains xs of
  part : Contains (f of) y

flat_contains-mapped : {X Y : Type 0} (f : X → List Y) (xs : List X) (y : Y) → Contains (flat_map f xs) y → IsOfPart f xs y
flat_contains-mapped f [] y among = absurd (omega (arith, among.1))
flat_contains-mapped f (x ∷ xs) y among = elim (Contains-append_cases (f x) (flat_map f xs) y among) [
  | inl here ↦ record { of = x; among = contains_first x xs; part = here }
  | inr later ↦ let rest = flat_contains-mapped f xs y later in record { of = rest.of; among = contains_later x xs rest.of rest.among; part = rest.part }
]

contains-flat_map : {X Y : Type 0} (f : X → List Y) (xs : List X) (x : X) (y : Y) → Contains xs x → Contains (f x) y → Contains (flat_map f xs) y
contains-flat_map f [] x y among part = absurd (omega (arith, among.1))
contains-flat_map f (z ∷ zs) x y among part = elim (contains_cases z zs x among) [
  | inl here ↦ Contains-append_left (f z) (flat_map f zs) y (subst (λ w. Contains (f w) y) (sym here) part)
  | inr later ↦ Contains-append_right (f z) (flat_map f zs) y (contains-flat_map f zs x y later part)
]

-- what holds of any two of a part, and of any two of different parts
pub pairs-flat_map : {Y : Type 0} (R : Y → Y → Type 0) (f : ℕ → List Y) (xs : List ℕ) → AllPairs (λ x y. x < y) xs
    → ((x : ℕ) → Contains xs x → AllPairs R (f x))
    → ((x y : ℕ) (a b : Y) → x < y → Contains xs x → Contains xs y → Contains (f x) a → Contains (f y) b → R a b) → AllPairs R (flat_map f xs)
pairs-flat_map R f [] rises within across = λ i j d low high. absurd (omega (arith, high))
pairs-flat_map R f (x ∷ xs) rises within across =
    AllPairs-append R (f x) (flat_map f xs) (within x (contains_first x xs))
    (pairs-flat_map R f xs (pairs_later (λ y z. y < z) x xs rises) (λ y among. within y (contains_later x xs y among)) (λ y z a b less first second. across y z a b less (contains_later x xs y first) (contains_later x xs z second)))
    (λ a b here later.
    let rest = flat_contains-mapped f xs b later in
    across x rest.of a b (All-contains (λ y. x < y) xs rest.of (AllPairs-head (λ y z. y < z) x xs rises) rest.among) (contains_first x xs) (contains_later x xs rest.of rest.among) here rest.part)

-- Links with the same ends

abbrev Same : Link → Link → Type 0
Same a b = (a.from ≡ b.from) × (a.to ≡ b.to)

same : Link → Link → Bool
same a b = nat_eq a.from b.from && nat_eq a.to b.to

same-true : (a b : Link) → Same a b → same a b ≡ true
unfolding same
same-true a b both =
    let from : nat_eq a.from b.from ≡ true = grind (arith, nat_tests, both.0) in
    let to : nat_eq a.to b.to ≡ true = grind (arith, nat_tests, both.1) in
    rw (from, to) refl

same-false : (a b : Link) → (Same a b → ⊥) → same a b ≡ false
unfolding same
same-false a b apart = elim (cases_eq a.from b.from) [
  | inr other ↦ let from : nat_eq a.from b.from ≡ false = grind (arith, nat_tests, other) in rw from refl
  | inl from_same ↦
      let from : nat_eq a.from b.from ≡ true = grind (arith, nat_tests, from_same) in
      let to : nat_eq a.to b.to ≡ false = elim (cases_eq a.to b.to) [
        | inl both ↦ absurd (apart (from_same, both))
        | inr other ↦ grind (arith, nat_tests, other)
      ] in
      rw (from, to) refl
]

same-flips : (a b : Link) → same a b ≡ same b a
same-flips a b = elim (cases_Bool (same a b)) [
  | inl found ↦ found ∙ sym (same-true b a (sym (same_ends a b found).0, sym (same_ends a b found).1))
  | inr missed ↦ missed ∙ sym (same-false b a (λ ends. false≢true (sym missed ∙ same-true a b (sym ends.0, sym ends.1))))
]
  where
    same_ends : (a b : Link) → same a b ≡ true → Same a b
    same_ends a b test = elim (cases_eq a.from b.from) [
      | inr other ↦ absurd (false≢true (sym (same-false a b (λ ends. other ends.0)) ∙ test))
      | inl from ↦ elim (cases_eq a.to b.to) [
        | inr other ↦ absurd (false≢true (sym (same-false a b (λ ends. other ends.1)) ∙ test))
        | inl to ↦ (from, to)
      ]
    ]

distinct-from_pairs : (ls : List Link) → AllPairs (λ a b. Same a b → ⊥) ls → IsDistinct same ls
unfolding IsDistinct
distinct-from_pairs [] apart = tt
distinct-from_pairs (l ∷ ls) apart = (
  recursion_from_All (λ (k : Link). same l k ≡ false) ls (λ i d h. same-false l (get_or ls i d) (AllPairs-head (λ a b. Same a b → ⊥) l ls apart i d h)),
  distinct-from_pairs ls (pairs_later (λ a b. Same a b → ⊥) l ls apart),
)

pairs-from_distinct : (ls : List Link) → IsDistinct same ls → AllPairs (λ a b. Same a b → ⊥) ls
unfolding IsDistinct
pairs-from_distinct [] d = λ i j e low high. absurd (omega (arith, high))
pairs-from_distinct (l ∷ ls) d =
    AllPairs-cons (λ a b. Same a b → ⊥) l ls
    (λ i e h both. false≢true (sym (All-from_recursion (λ (k : Link). same l k ≡ false) ls d.0 i e h) ∙ same-true l (get_or ls i e) both))
    (pairs-from_distinct ls d.1)

-- they stay apart when they change places
pub apart-permutation : (xs ys : List Link) → IsPermutation xs ys → AllPairs (λ a b. Same a b → ⊥) xs → AllPairs (λ a b. Same a b → ⊥) ys
apart-permutation xs ys moved apart = pairs-from_distinct ys (IsDistinct-IsPermutation same same-flips xs ys moved (distinct-from_pairs xs apart))

-- The arcs of a state that is over

-- a link of the row of x: the arc between its ends, one of which is x and doesn't come after the other
record IsRowLink (o : Overlay) (x : ℕ) (l : Link) : Type 0 where
  arc : (state_of o).arc l.from l.to ≡ Some (record { cost = l.cost; middle = l.middle })
  at : ((l.from ≡ x) × (Before o.order l.to x → ⊥)) ⊎ ((l.to ≡ x) × (Before o.order l.from x → ⊥))

module _ (o : Overlay) (is : IsOverlay o) (over : IsOver (state_of o)) where
  row_link : (x : ℕ) (l : Link) → x < length o.rows → Contains (row_links (row_at o.rows x) x) l → IsRowLink o x l
  row_link x l inside among = elim (Contains-append_cases (map (link_out x) (row_at o.rows x).out) (map (link_in x) (row_at o.rows x).inn) l among) [
    | inl out ↦
        let image = contains-mapped (link_out x) (row_at o.rows x).out l out in
        let shown = ((is.rows x inside).out image.0).0 image.1 in
        subst (IsRowLink o x) image.2 (record { arc = shown.0; at = inl (refl, shown.1) })
    | inr inn ↦
        let image = contains-mapped (link_in x) (row_at o.rows x).inn l inn in
        let shown = ((is.rows x inside).inn image.0).0 image.1 in
        subst (IsRowLink o x) image.2 (record { arc = shown.0; at = inr (refl, shown.1) })
  ]

  -- links of two rows have other ends
  rows_apart : (x y : ℕ) (a b : Link) → x < length o.rows → y < length o.rows → x ≢ y → IsRowLink o x a → IsRowLink o y b → Same a b → ⊥
  rows_apart x y a b x_in y_in apart first second both = elim first.at [
    | inl out ↦ elim second.at [
      | inl out_too ↦ apart (sym out.0 ∙ both.0 ∙ out_too.0)
      | inr inn ↦ neither (subst (λ n. Before o.order n x → ⊥) (both.1 ∙ inn.0) out.1) (subst (λ n. Before o.order n y → ⊥) (sym both.0 ∙ out.0) inn.1)
    ]
    | inr inn ↦ elim second.at [
      | inl out ↦ neither (subst (λ n. Before o.order n x → ⊥) (both.0 ∙ out.0) inn.1) (subst (λ n. Before o.order n y → ⊥) (sym both.1 ∙ inn.0) out.1)
      | inr inn_too ↦ apart (sym inn.0 ∙ both.1 ∙ inn_too.0)
    ]
  ]
    where
      neither : (Before o.order y x → ⊥) → (Before o.order x y → ⊥) → ⊥
      neither after before = elim (either_before o.order x y is.once apart (over x x_in) (over y y_in)) [
        | inl less ↦ before less
        | inr more ↦ after more
      ]

  -- links of one row have other ends
  row_apart : (x : ℕ) → x < length o.rows → AllPairs (λ a b. Same a b → ⊥) (row_links (row_at o.rows x) x)
  row_apart x inside =
      let r = row_at o.rows x in
      let row = is.rows x inside in
      AllPairs-append (λ a b. Same a b → ⊥) (map (link_out x) r.out) (map (link_in x) r.inn)
      (pairs-map (λ a b. Same a b → ⊥) (link_out x) r.out (λ i j d low high both. absurd (omega (arith, row.out_rises i j d low high, both.1))))
      (pairs-map (λ a b. Same a b → ⊥) (link_in x) r.inn (λ i j d low high both. absurd (omega (arith, row.inn_rises i j d low high, both.0))))
      (λ a b out inn both.
      let from = contains-mapped (link_out x) r.out a out in
      let to = contains-mapped (link_in x) r.inn b inn in
      let arc = row_link x a inside (Contains-append_left (map (link_out x) r.out) (map (link_in x) r.inn) a out) in
      (is.plain.arcs a.from a.to _ arc.arc).apart (sym (ap (λ (l : Link). l.from) from.2) ∙ ap (λ (l : Link). l.to) to.2 ∙ sym both.1))

  pub links_apart : AllPairs (λ a b. Same a b → ⊥) (links_below o.rows (length o.rows))
  links_apart =
      let n = length o.rows in
      pairs-flat_map (λ a b. Same a b → ⊥) (λ x. row_links (row_at o.rows x) x) (range_with_len 0 n) (range_with_len-rises 0 n)
      (λ x among. row_apart x (range-contains n x among))
      (λ x y a b less first second in_a in_b.
      let x_in = range-contains n x first in
      let y_in = range-contains n y second in
      let apart : x ≢ y = λ same. absurd (omega (arith, less, same)) in
      rows_apart x y a b x_in y_in apart (row_link x a x_in in_a) (row_link y b y_in in_b))

  -- the links are the arcs
  pub links_are : (l : Link) → Contains (links_below o.rows (length o.rows)) l ↔ ((state_of o).arc l.from l.to ≡ Some (record { cost = l.cost; middle = l.middle }))
  links_are l = (there, found)
    where
      there : Contains (links_below o.rows (length o.rows)) l → (state_of o).arc l.from l.to ≡ Some (record { cost = l.cost; middle = l.middle })
      there among =
          let part = flat_contains-mapped (λ x. row_links (row_at o.rows x) x) (range_with_len 0 (length o.rows)) l among in
          (row_link part.of l (range-contains (length o.rows) part.of part.among) part.part).arc

      found : (state_of o).arc l.from l.to ≡ Some (record { cost = l.cost; middle = l.middle }) → Contains (links_below o.rows (length o.rows)) l
      found here =
          let arc = is.plain.arcs l.from l.to _ here in
          let from_in : l.from < length o.rows = arc.from_in in
          let to_in : l.to < length o.rows = arc.to_in in
          let f : ℕ → List Link = λ x. row_links (row_at o.rows x) x in
          elim (either_before o.order l.from l.to is.once arc.apart (over l.from from_in) (over l.to to_in)) [
            | inl less ↦
                let r = row_at o.rows l.from in
                let e : Entry = record { other = l.to; cost = l.cost; middle = l.middle } in
                let entry = ((is.rows l.from from_in).out e).1 (here, λ more. before_not_both less more) in
                contains-flat_map f (range_with_len 0 (length o.rows)) l.from l (contains-range (length o.rows) l.from from_in) (Contains-append_left (map (link_out l.from) r.out) (map (link_in l.from) r.inn) l (contains-map (link_out l.from) r.out e entry))
            | inr more ↦
                let r = row_at o.rows l.to in
                let e : Entry = record { other = l.from; cost = l.cost; middle = l.middle } in
                let entry = ((is.rows l.to to_in).inn e).1 (here, λ less. before_not_both less more) in
                contains-flat_map f (range_with_len 0 (length o.rows)) l.to l (contains-range (length o.rows) l.to to_in) (Contains-append_right (map (link_out l.to) r.out) (map (link_in l.to) r.inn) l (contains-map (link_in l.to) r.inn e entry))
          ]

-- The hierarchy

-- the ranks and the links of the rows make the hierarchy of the state
pub made_of_parts : (o : Overlay) (g : Graph) (ranks : List ℕ) (links : List Link) (bound : Cost) → IsOverlay o → IsOver (state_of o) → AreRanks o ranks → AreLinks o links → bound ≡ bound_of g → IsMade g (state_of o) (record { version = Two; ranks = ranks; links = links; bound = bound })
made_of_parts o g ranks links bound is over ranked linked bound_is = record {
  version = refl;
  nodes = ranked.count;
  ranks = λ k low.
      let x = slice_index o.order k in
      let inside : x < length o.rows = is.plain.in_range k 0 low in
      let by_row : (row_at o.rows x).rank ≡ Some k = ((is.rows x inside).rank k).1 (low, refl) in
      let by_list : (row_at o.rows x).rank ≡ Some (slice_index ranks x) = ranked.each x inside in
      cc;
  sorted = λ i j d low high. before (get_or links i d) (get_or links j d) (linked.no_later i j d low high) (apart-permutation (links_below o.rows (length o.rows)) links linked.all (links_apart o is over) i j d low high);
  links = λ l. (
    λ among. (links_are o is over l).0 (Contains-permutation links (links_below o.rows (length o.rows)) l (IsPermutation-sym (links_below o.rows (length o.rows)) links linked.all) among),
    λ here. Contains-permutation (links_below o.rows (length o.rows)) links l linked.all ((links_are o is over l).1 here),
  );
  bound = bound_is;
}
  where
    before : (a b : Link) → (a.from ≤ b.from) × (a.from ≡ b.from → a.to ≤ b.to) → (Same a b → ⊥) → ComesBefore a b
    before a b no_later apart = elim (cases_eq a.from b.from) [
      | inr other ↦ inl (omega (arith, no_later.0, other))
      | inl from ↦ elim (cases_eq a.to b.to) [
        | inl to ↦ absurd (apart (from, to))
        | inr other ↦ inr (from, omega (arith, no_later.1 from, other))
      ]
    ]
