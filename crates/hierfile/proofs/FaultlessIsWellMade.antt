use Rattle.std.proofs.Common.{ℕ, zero, suc, ◌≡◌, Bool, true, false, cond, not, List, [], ◌∷◌, get_or, Option, None, Some, AllPairs, ◌⊎◌, inl, inr, sym, refl, ap, ◌∙◌, subst, arith, ◌≢◌, ◌-◌, ◌*◌, ◌^◌, ◌<◌, ◌≤◌, ◌==◌, ◌||◌, ◌&&◌, length, take, All, Contains, nat_lt, nat_le, slice_index, slice_get, option_and_then, is_some, ◌+◌, ◌++◌, drop, append_assoc, length-append, IfSome}
use Rattle.std.specs.List.{find, list_any, flat_map}
use Rattle.std.proofs.lemmas.Bool.Decides.{nat_tests}
use Rattle.ch_cost.specs.declared.cost.Cost.{Cost}
use Rattle.ch_cost.specs.Cost.{◌⊕◌, same, cost_of_arcs, length_of, arcs_of}
use Rattle.ch_graph.specs.declared.link.Link.{Link}
use Rattle.ch_graph.specs.Hierarchy.{ComesBefore, IsLinkAt, Hierarchy, IsWellMade, AreHalves, Counts, bound_arcs}
use Rattle.hierfile.specs.declared.error.HierError.TheVariants.{HalfMissing, HalfSum, RankTwice, RankRange, LinkEnds, LinkOrder, LinkWeight, MiddleRange, MiddleRank, TooBig, BoundTooBig, BadMagic}
use Rattle.hierfile.specs.declared.error.HierError.{HierError}
use Rattle.hierfile.specs.Fault.{◌otherwise◌, leads, sum_fault, halves_fault, half_fault, first_along, fault_if, size_fault, rank_test, rank_fault, does_count, has_weight, link_fault, link_fault_at, middle_fault, is_before, is_in_order, cut, is_magic, magic_fault, head_fault, body_fault, first_fault}
use Rattle.hierfile.specs.Bytes.{HasNoneButHalves, NoneBelow, coming, HasNoneSoFar, IsBodyOf}
use Rattle.std.proofs.lemmas.Bool.{cases_lt}
use Rattle.std.proofs.lemmas.Grind.{get_or_default_zero}
use Rattle.std.proofs.lemmas.List.{length-take-le, get_or-take}
use Rattle.std.proofs.lemmas.List.Folds.{list_any_at}
use Rattle.ch_cost.specs.Cost.Laws.{equal-from_same}
use Rattle.ch_cost.specs.Cost.Numbers.{length_of-of_walk, arcs_of-of_walk, length_of-cost_of_arcs, arcs_of-cost_of_arcs, within-from_numbers}
use Rattle.ch_graph.specs.declared.version.Version.{Version}
use Rattle.ch_graph.specs.declared.version.Version.TheVariants.{One, Two}
use Rattle.hierfile.specs.Spelling.{bound_in, magic_of, word, word_in, long_in, version_in, link_bytes, head_bytes, bytes_of}
use Rattle.hierfile.proofs.FaultsOfParts.{first_none, second_none, rank_in, earlier, later, neither, none_below, cut_none, unfound, sizes, head_fault-sizes, nodes-sizes, links-sizes, bound-sizes, drop-sizes}
use Rattle.std.specs.Io.KnownBytes.{Consumes}
use Rattle.std.proofs.KnownBytes.{prepend_known-nil}

-- Links by their ends, and the halves of a link.
pub leads-from : (x y : ℕ) (l : Link) → l.from ≡ x → l.to ≡ y → leads x y l ≡ true
leads-from x y l e f = grind (arith, nat_tests)

pub leads-to : (x y : ℕ) (l : Link) → leads x y l ≡ true → (l.from ≡ x) × (l.to ≡ y)
leads-to x y l h = (first x y l h, second x y l h)
  where
    first : (x y : ℕ) (l : Link) → leads x y l ≡ true → l.from ≡ x
    first x y l h = grind (arith, nat_tests)

    second : (x y : ℕ) (l : Link) → leads x y l ≡ true → l.to ≡ y
    second x y l h = grind (arith, nat_tests)

pub find-at : (x y : ℕ) (ls : List Link) (place : ℕ) (d : Link) → AllPairs ComesBefore ls → IsLinkAt ls x y place → find (leads x y) ls ≡ Some (get_or ls place d)
find-at x y [] place d sorted at = absurd (omega (arith, at.within))
find-at x y (l ∷ ls) zero d sorted at = subst (λ b. cond b (Some l) (find (leads x y) ls) ≡ Some l) (sym (leads-from x y l (at.from d) (at.to d))) refl
find-at x y (l ∷ ls) (suc place) d sorted at =
    let tail : AllPairs ComesBefore ls = λ i j e less within. sorted (suc i) (suc j) e (omega arith) (omega arith) in
    let there : IsLinkAt ls x y place = record { within = omega (arith, at.within); from = at.from; to = at.to } in
    elim (leads x y l) as (λ b. leads x y l ≡ b → cond b (Some l) (find (leads x y) ls) ≡ Some (get_or ls place d)) [
      | true ↦ λ is. absurd (elim (sorted 0 (suc place) d (omega arith) at.within) [
        | inl below ↦ omega (arith, below, (leads-to x y l is).0, at.from d)
        | inr same ↦ omega (arith, same.1, (leads-to x y l is).1, at.to d)
      ])
      | false ↦ λ is. find-at x y ls place d tail there
    ] refl

pub find-none : (x y : ℕ) (ls : List Link) → ((place : ℕ) → IsLinkAt ls x y place → ⊥) → find (leads x y) ls ≡ None
find-none x y [] none = refl
find-none x y (l ∷ ls) none =
    elim (leads x y l) as (λ b. leads x y l ≡ b → cond b (Some l) (find (leads x y) ls) ≡ None) [
      | true ↦ λ is. absurd (none 0 (record { within = omega arith; from = λ d. (leads-to x y l is).0; to = λ d. (leads-to x y l is).1 }))
      | false ↦ λ is. find-none x y ls (λ place at. none (suc place) (record { within = omega (arith, at.within); from = at.from; to = at.to }))
    ] refl

-- The fault of a link's halves

module _ (links : List Link) (l : Link) (m : ℕ) (by_way : l.middle ≡ Some m) where
  -- what is said of the halves by the middle is said of the link
  pub by_middle : (fault : Option HierError) → sum_fault (find (leads l.from m) links) (find (leads m l.to) links) l.cost ≡ fault → half_fault links l ≡ fault
  unfolding half_fault
  by_middle fault is = subst (λ (o : Option ℕ). halves_fault links l.from l.to l.cost o ≡ fault) (sym by_way) is

  pub no_first : ((place : ℕ) → IsLinkAt links l.from m place → ⊥) → half_fault links l ≡ Some HalfMissing
  no_first nowhere = by_middle (Some HalfMissing) (ap (λ (a : Option Link). sum_fault a (find (leads m l.to) links) l.cost) (find-none l.from m links nowhere))

  pub no_second : ((place : ℕ) → IsLinkAt links m l.to place → ⊥) → half_fault links l ≡ Some HalfMissing
  no_second nowhere =
      by_middle (Some HalfMissing) (ap (λ (b : Option Link). sum_fault (find (leads l.from m) links) b l.cost) (find-none m l.to links nowhere) ∙ missing (find (leads l.from m) links))
    where
      missing : (a : Option Link) → sum_fault a None l.cost ≡ Some HalfMissing
      missing None = refl
      missing (Some a) = refl

  pub both_found : AllPairs ComesBefore links → (first second : ℕ) (d : Link) (is_sum : Bool) → IsLinkAt links l.from m first → IsLinkAt links m l.to second → is_sum ≡ same l.cost ((get_or links first d).cost ⊕ (get_or links second d).cost) → half_fault links l ≡ fault_if (not is_sum) HalfSum
  both_found sorted first second d is_sum at_first at_second is =
      let a : Link = get_or links first d in
      let b : Link = get_or links second d in
      by_middle (fault_if (not is_sum) HalfSum)
      (ap (λ (o : Option Link). sum_fault o (find (leads m l.to) links) l.cost) (find-at l.from m links first d sorted at_first)
      ∙ ap (λ (o : Option Link). sum_fault (Some a) o l.cost) (find-at m l.to links second d sorted at_second)
      ∙ ap (λ (e : Bool). fault_if (not e) HalfSum) (sym is))

-- What the tests of halves find: nothing, or one of their two faults.
abbrev pub IsOfHalves : Option HierError → Type 0
IsOfHalves o = (o ≡ None) ⊎ (o ≡ Some HalfMissing) ⊎ (o ≡ Some HalfSum)

pub either_of_halves : (f g : Option HierError) → IsOfHalves f → IsOfHalves g → IsOfHalves (f otherwise g)
either_of_halves None g h k = k
either_of_halves (Some e) g h k = h

sum_of_halves : (a b : Option Link) (cost : Cost) → IsOfHalves (sum_fault a b cost)
sum_of_halves None b cost = inr (inl refl)
sum_of_halves (Some a) None cost = inr (inl refl)
sum_of_halves (Some a) (Some b) cost = if_sum (not (same cost (a.cost ⊕ b.cost)))
  where
    if_sum : (found : Bool) → IsOfHalves (fault_if found HalfSum)
    if_sum true = inr (inr refl)
    if_sum false = inl refl

by_halves : (links : List Link) (x y : ℕ) (cost : Cost) (m : Option ℕ) → IsOfHalves (halves_fault links x y cost m)
by_halves links x y cost None = inl refl
by_halves links x y cost (Some m) = sum_of_halves (find (leads x m) links) (find (leads m y) links) cost

half_of_halves : (links : List Link) (l : Link) → IsOfHalves (half_fault links l)
unfolding half_fault
half_of_halves links l = by_halves links l.from l.to l.cost l.middle

pub along_halves : (links ls : List Link) → IsOfHalves (first_along (half_fault links) ls)
along_halves links [] = inl refl
along_halves links (l ∷ ls) = either_of_halves (half_fault links l) (first_along (half_fault links) ls) (half_of_halves links l) (along_halves links ls)

-- bytes whose fault is such
pub but_halves : (fault_of : List ℕ → Option HierError) (bytes : List ℕ) → IsOfHalves (fault_of bytes) → HasNoneButHalves fault_of bytes
but_halves fault_of bytes (inl none) = inl (inr none)
but_halves fault_of bytes (inr half) = inr half

-- Without faults a hierarchy is well made.
-- a test that found no fault
pub untrue : (b : Bool) (e : HierError) → fault_if b e ≡ None → b ≡ false
untrue true e h = absurd (cc)
untrue false e h = refl

-- Sizes

few : (n k : ℕ) → (nat_lt (2 ^ 25) n || nat_lt (n * (n - 1)) k) ≡ false → n ≤ 2 ^ 25
few n k h = grind (arith, nat_tests)

low : (m b : ℕ) → nat_lt m b ≡ false → b ≤ m
low m b h = grind (arith, nat_tests)

pub few_nodes : (n k b : ℕ) → size_fault n k b ≡ None → n ≤ 2 ^ 25
few_nodes n k b h = few n k (untrue _ TooBig (first_none (fault_if (nat_lt (2 ^ 25) n || nat_lt (n * (n - 1)) k) TooBig) (fault_if (nat_lt ((n - 1) * (2 ^ 32 - 1)) b) BoundTooBig) h))

pub low_bound : (n k b : ℕ) → size_fault n k b ≡ None → b ≤ (n - 1) * (2 ^ 32 - 1)
low_bound n k b h = low ((n - 1) * (2 ^ 32 - 1)) b (untrue _ BoundTooBig (second_none (fault_if (nat_lt (2 ^ 25) n || nat_lt (n * (n - 1)) k) TooBig) (fault_if (nat_lt ((n - 1) * (2 ^ 32 - 1)) b) BoundTooBig) h))

-- Ranks

unlike : (n : ℕ) (before : List ℕ) (rank : ℕ) → rank_test n before rank ≡ None → list_any (λ r. r == rank) before ≡ false
unfolding rank_test
unlike n before rank h = untrue _ RankTwice (second_none (fault_if (nat_le n rank) RankRange) (fault_if (list_any (λ r. r == rank) before) RankTwice) h)

pub equal_tests : (a b : ℕ) → a ≡ b → (a == b) ≡ true
equal_tests a b h = grind (arith, nat_tests)

pub ranks_once : (n : ℕ) (ranks : List ℕ) → NoneBelow (length ranks) (rank_fault n ranks) → AllPairs (λ q r. q ≢ r) ranks
ranks_once n ranks none i j d less within same =
    let first : get_or ranks i d ≡ get_or ranks i 0 = get_or_default_zero ranks i d (omega arith) in
    let second : get_or ranks j d ≡ get_or ranks j 0 = get_or_default_zero ranks j d within in
    let taken : get_or (take j ranks) i 0 ≡ get_or ranks i 0 = get_or-take j ranks i 0 less in
    let no_other : list_any (λ r. r == get_or ranks j 0) (take j ranks) ≡ false = unlike n (take j ranks) (get_or ranks j 0) (none j within) in
    let other : list_any (λ r. r == get_or ranks j 0) (take j ranks) ≡ true =
    list_any_at (λ r. r == get_or ranks j 0) (take j ranks) i 0 (omega (arith, length-take-le j ranks (omega arith))) (equal_tests _ _ (taken ∙ sym first ∙ same ∙ second)) in
    cc

pub ranks_in : (n : ℕ) (ranks : List ℕ) → NoneBelow (length ranks) (rank_fault n ranks) → All (λ r. r < n) ranks
ranks_in n ranks none k d h =
    let in_range : get_or ranks k 0 < n = rank_in n (take k ranks) (get_or ranks k 0) (none k h) in
    let same : get_or ranks k d ≡ get_or ranks k 0 = get_or_default_zero ranks k d h in
    omega arith

-- Links

-- what a link without a fault is
pub record LinkFacts (v : Version) (ranks : List ℕ) (bound : Cost) (earlier : Option Link) (l : Link) : Type 0 where
  pub from_in : l.from < length ranks
  pub to_in : l.to < length ranks
  pub apart : l.from ≢ l.to
  pub ordered : is_in_order earlier l ≡ true
  pub within : length_of l.cost ≤ length_of bound
  pub few_arcs : arcs_of l.cost ≤ arcs_of bound
  pub counts : Counts v l
  pub middle : middle_fault ranks l.from l.to l.middle ≡ None

ends_from : (n a b : ℕ) → (nat_le n a || nat_le n b || a == b) ≡ false → a < n
ends_from n a b h = grind (arith, nat_tests)

ends_to : (n a b : ℕ) → (nat_le n a || nat_le n b || a == b) ≡ false → b < n
ends_to n a b h = grind (arith, nat_tests)

ends_apart : (n a b : ℕ) → (nat_le n a || nat_le n b || a == b) ≡ false → a ≢ b
ends_apart n a b h e = grind (arith, nat_tests)

-- what the test of a cost finds
weighs : (w b a n : ℕ) (e : Bool) → (nat_le w b && nat_le a n && e) ≡ true → w ≤ b
weighs w b a n e h = grind (arith, nat_tests)

has_few : (w b a n : ℕ) (e : Bool) → (nat_le w b && nat_le a n && e) ≡ true → a ≤ n
has_few w b a n e h = grind (arith, nat_tests)

has_count : (w b a n : ℕ) (e : Bool) → (nat_le w b && nat_le a n && e) ≡ true → e ≡ true
has_count w b a n e h = grind (arith, nat_tests)

counted : (v : Version) (l : Link) → does_count v l ≡ true → Counts v l
counted One l h = record { some = has_weight_of (length_of l.cost) (arcs_of l.cost) h; none = has_none (length_of l.cost) (arcs_of l.cost) h }
  where
    has_weight_of : (w a : ℕ) → (nat_lt 0 w && a == 0) ≡ true → 0 < w
    has_weight_of w a h = grind (arith, nat_tests)

    has_none : (w a : ℕ) → (nat_lt 0 w && a == 0) ≡ true → a ≡ 0
    has_none w a h = grind (arith, nat_tests)
counted Two l h = record { some = has_some (arcs_of l.cost) (is_some l.middle) h; one = λ none. has_one (arcs_of l.cost) (is_some l.middle) h (ap is_some none) }
  where
    has_some : (a : ℕ) (m : Bool) → (nat_lt 0 a && (m || a == 1)) ≡ true → 0 < a
    has_some a m h = grind (arith, nat_tests)

    has_one : (a : ℕ) (m : Bool) → (nat_lt 0 a && (m || a == 1)) ≡ true → m ≡ false → a ≡ 1
    has_one a m h none = grind (arith, nat_tests)

not_false : (b : Bool) → not b ≡ false → b ≡ true
not_false true h = refl
not_false false h = absurd (cc)

pub link_facts : (v : Version) (ranks : List ℕ) (bound : Cost) (earlier : Option Link) (l : Link) → link_fault v ranks bound earlier l ≡ None → LinkFacts v ranks bound earlier l
unfolding link_fault has_weight
link_facts v ranks bound earlier l h =
    let n : ℕ = length ranks in
    let ends : Option HierError = fault_if (nat_le n l.from || nat_le n l.to || l.from == l.to) LinkEnds in
    let order : Option HierError = fault_if (not (is_in_order earlier l)) LinkOrder in
    let weight : Option HierError = fault_if (not (has_weight v bound l)) LinkWeight in
    let middle : Option HierError = middle_fault ranks l.from l.to l.middle in
    let three : ends otherwise order otherwise weight ≡ None =
    first_none (ends otherwise order otherwise weight) middle h in
    let two : ends otherwise order ≡ None = first_none (ends otherwise order) weight three in
    let ends_ok = untrue _ LinkEnds (first_none ends order two) in
    let order_ok = untrue _ LinkOrder (second_none ends order two) in
    let weight_ok = not_false (has_weight v bound l) (untrue _ LinkWeight (second_none (ends otherwise order) weight three)) in
    record {
      from_in = ends_from n l.from l.to ends_ok;
      to_in = ends_to n l.from l.to ends_ok;
      apart = ends_apart n l.from l.to ends_ok;
      ordered = not_false (is_in_order earlier l) order_ok;
      within = weighs (length_of l.cost) (length_of bound) (arcs_of l.cost) (arcs_of bound) (does_count v l) weight_ok;
      few_arcs = has_few (length_of l.cost) (length_of bound) (arcs_of l.cost) (arcs_of bound) (does_count v l) weight_ok;
      counts = counted v l (has_count (length_of l.cost) (length_of bound) (arcs_of l.cost) (arcs_of bound) (does_count v l) weight_ok);
      middle = second_none (ends otherwise order otherwise weight) middle h;
    }

pub slice_get-at : (ls : List Link) (k : ℕ) (d : Link) → k < length ls → slice_get ls k ≡ Some (get_or ls k d)
slice_get-at [] k d h = absurd (omega arith)
slice_get-at (l ∷ ls) zero d h = refl
slice_get-at (l ∷ ls) (suc k) d h = slice_get-at ls k d (omega arith)

-- the facts of the link at a place
pub facts_at : (v : Version) (ranks : List ℕ) (bound : Cost) (ls : List Link) (k : ℕ) (d : Link) → k < length ls → link_fault_at v ranks bound ls k ≡ None → LinkFacts v ranks bound (slice_get (take k ls) (k - 1)) (get_or ls k d)
facts_at v ranks bound ls k d h none =
    link_facts v ranks bound (slice_get (take k ls) (k - 1)) (get_or ls k d) (subst (λ (o : Option Link). option_and_then (link_fault v ranks bound (slice_get (take k ls) (k - 1))) o ≡ None) (slice_get-at ls k d h) none)

before-true : (a b : Link) → is_before a b ≡ true → ComesBefore a b
before-true a b h = elim (cases_lt a.from b.from) [
  | inl less ↦ inl less
  | inr more ↦ inr (same a b h more, below a b h more)
]
  where
    same : (a b : Link) → is_before a b ≡ true → b.from ≤ a.from → a.from ≡ b.from
    same a b h more = grind (arith, nat_tests)

    below : (a b : Link) → is_before a b ≡ true → b.from ≤ a.from → a.to < b.to
    below a b h more = grind (arith, nat_tests)

before-trans : (a b c : Link) → ComesBefore a b → ComesBefore b c → ComesBefore a c
before-trans a b c h k = elim h [
  | inl p ↦ elim k [ inl q ↦ inl (omega arith) | inr q ↦ inl (omega (arith, q.0)) ]
  | inr p ↦ elim k [ inl q ↦ inl (omega (arith, p.0)) | inr q ↦ inr (omega (arith, p.0, q.0), omega (arith, p.1, q.1)) ]
]

chain : (ls : List Link) → ((k : ℕ) (d : Link) → suc k < length ls → ComesBefore (get_or ls k d) (get_or ls (suc k) d)) → AllPairs ComesBefore ls
chain ls next i zero d less within = absurd (omega arith)
chain ls next i (suc j) d less within = elim (cases_lt i j) [
  | inl below ↦ before-trans (get_or ls i d) (get_or ls j d) (get_or ls (suc j) d) (chain ls next i j d below (omega arith)) (next j d within)
  | inr at ↦ let e : j ≡ i = omega arith in subst (λ m. ComesBefore (get_or ls m d) (get_or ls (suc j) d)) e (next j d within)
]

pub links_sorted : (v : Version) (ranks : List ℕ) (bound : Cost) (ls : List Link) → NoneBelow (length ls) (link_fault_at v ranks bound ls) → AllPairs ComesBefore ls
links_sorted v ranks bound ls none = chain ls (λ k d within.
    let facts = facts_at v ranks bound ls (suc k) d within (none (suc k) within) in
    let room : k < length (take (suc k) ls) = omega (arith, length-take-le (suc k) ls (omega arith)) in
    let back : suc k - 1 ≡ k = omega arith in
    let earlier : slice_get (take (suc k) ls) (suc k - 1) ≡ Some (get_or ls k d) = ap (slice_get (take (suc k) ls)) back ∙ slice_get-at (take (suc k) ls) k d room ∙ ap (λ (l : Link). Some l) (get_or-take (suc k) ls k d (omega arith)) in
    before-true (get_or ls k d) (get_or ls (suc k) d) (subst (λ (o : Option Link). is_in_order o (get_or ls (suc k) d) ≡ true) earlier facts.ordered))

-- Halves

along_none : (f : Link → Option HierError) (ls : List Link) → first_along f ls ≡ None → (k : ℕ) (d : Link) → k < length ls → f (get_or ls k d) ≡ None
along_none f [] none k d h = absurd (omega arith)
along_none f (l ∷ ls) none zero d h = first_none (f l) (first_along f ls) none
along_none f (l ∷ ls) none (suc k) d h = along_none f ls (second_none (f l) (first_along f ls) none) k d (omega arith)

-- a link of the list with these ends
record IsFound (x y : ℕ) (ls : List Link) (a : Link) : Type 0 where
  among : Contains ls a
  from : a.from ≡ x
  to : a.to ≡ y

find-some : (x y : ℕ) (ls : List Link) (a : Link) → find (leads x y) ls ≡ Some a → IsFound x y ls a
find-some x y [] a h = absurd (cc)
find-some x y (l ∷ ls) a h =
    elim (leads x y l) as (λ b. leads x y l ≡ b → cond b (Some l) (find (leads x y) ls) ≡ Some a → IsFound x y (l ∷ ls) a) [
      | true ↦ λ is here. let same : l ≡ a = cc in subst (λ (r : Link). IsFound x y (l ∷ ls) r) same (record { among = (0, omega arith, refl); from = (leads-to x y l is).0; to = (leads-to x y l is).1 })
      | false ↦ λ is there. let f = find-some x y ls a there in record { among = (suc f.among.0, omega (arith, f.among.1), f.among.2); from = f.from; to = f.to }
    ] refl h

-- two halves that were found and sum
record HaveSum (ls : List Link) (x y m : ℕ) (cost : Cost) : Type 0 where
  one : Link
  other : Link
  one_found : IsFound x m ls one
  other_found : IsFound m y ls other
  sum : cost ≡ one.cost ⊕ other.cost

halves_found : (ls : List Link) (x y m : ℕ) (cost : Cost) (f s : Option Link) → find (leads x m) ls ≡ f → find (leads m y) ls ≡ s → sum_fault f s cost ≡ None → HaveSum ls x y m cost
halves_found ls x y m cost None s p q h = absurd (cc)
halves_found ls x y m cost (Some a) None p q h = absurd (cc)
halves_found ls x y m cost (Some a) (Some b) p q h = record {
  one = a;
  other = b;
  one_found = find-some x m ls a p;
  other_found = find-some m y ls b q;
  sum = equal-from_same cost (a.cost ⊕ b.cost) (not_false _ (untrue _ HalfSum h));
}

middle_low : (r x y : ℕ) → not (nat_lt r x && nat_lt r y) ≡ false → (r < x) × (r < y)
middle_low r x y h = (below_first r x y h, below_second r x y h)
  where
    below_first : (r x y : ℕ) → not (nat_lt r x && nat_lt r y) ≡ false → r < x
    below_first r x y h = grind (arith, nat_tests)

    below_second : (r x y : ℕ) → not (nat_lt r x && nat_lt r y) ≡ false → r < y
    below_second r x y h = grind (arith, nat_tests)

has_halves : (h : Hierarchy) (l : Link) → middle_fault h.ranks l.from l.to l.middle ≡ None → half_fault h.links l ≡ None → (m : ℕ) → l.middle ≡ Some m → (a : Link) × (b : Link) × AreHalves h l m a b
unfolding half_fault
has_halves h l middle half m is =
    let placed : middle_fault h.ranks l.from l.to (Some m) ≡ None =
    subst (λ (o : Option ℕ). middle_fault h.ranks l.from l.to o ≡ None) is middle in
    let summed : sum_fault (find (leads l.from m) h.links) (find (leads m l.to) h.links) l.cost ≡ None =
    subst (λ (o : Option ℕ). halves_fault h.links l.from l.to l.cost o ≡ None) is half in
    let rank : ℕ → ℕ = slice_index h.ranks in
    let low = middle_low (rank m) (rank l.from) (rank l.to) (untrue _ MiddleRank (second_none (fault_if (nat_le (length h.ranks) m) MiddleRange) (fault_if (not (nat_lt (rank m) (rank l.from) && nat_lt (rank m) (rank l.to))) MiddleRank) placed)) in
    let found = halves_found h.links l.from l.to m l.cost _ _ refl refl summed in (
      found.one,
      found.other,
      record {
        first = record { among = found.one_found.among; from = found.one_found.from; to = found.one_found.to };
        second = record { among = found.other_found.among; from = found.other_found.from; to = found.other_found.to };
        sum = found.sum;
        below_from = low.0;
        below_to = low.1;
      },
    )

-- The whole

-- no bound counts more arcs than a walk that repeats no node
arcs_low : (v : Version) (nodes : ℕ) → bound_arcs v nodes ≤ nodes - 1
arcs_low One nodes = omega arith
arcs_low Two nodes = omega arith

pub well_made : (v : Version) (n k b : ℕ) (ranks : List ℕ) (links : List Link) → size_fault n k b ≡ None → length ranks ≡ n → NoneBelow n (rank_fault n ranks) → length links ≡ k → NoneBelow k (link_fault_at v ranks (bound_in v n b) links)
    → first_along (half_fault links) links ≡ None → IsWellMade (record { version = v; ranks = ranks; links = links; bound = bound_in v n b })
well_made v n k b ranks links sizes count_ranks ranks_ok count_links links_ok halves_ok =
    let bound : Cost = bound_in v n b in
    let h : Hierarchy = record { version = v; ranks = ranks; links = links; bound = bound } in
    let greatest : Cost = cost_of_arcs (length ranks - 1) (2 ^ 32 - 1) in
    let all_ranks : NoneBelow (length ranks) (rank_fault n ranks) = λ i less. ranks_ok i (omega arith) in
    let all_links : NoneBelow (length links) (link_fault_at v ranks bound links) = λ i less. links_ok i (omega arith) in
    let most : length_of bound ≤ length_of greatest =
    subst (λ m. m ≤ length_of greatest) (sym (length_of-of_walk b (bound_arcs v n))) (subst (λ m. b ≤ m) (sym (length_of-cost_of_arcs (length ranks - 1) (2 ^ 32 - 1))) (subst (λ m. b ≤ (m - 1) * (2 ^ 32 - 1)) (sym count_ranks) (low_bound n k b sizes))) in
    let arcs : arcs_of bound ≡ bound_arcs v (length ranks) =
    arcs_of-of_walk b (bound_arcs v n) ∙ ap (bound_arcs v) (sym count_ranks) in
    let few : arcs_of bound ≤ length ranks - 1 = subst (λ m. m ≤ length ranks - 1) (sym arcs) (arcs_low v (length ranks)) in
    record {
      few_nodes = subst (λ m. m ≤ 2 ^ 25) (sym count_ranks) (few_nodes n k b sizes);
      bound = within-from_numbers bound greatest most (omega (arith, few, arcs_of-cost_of_arcs (length ranks - 1) (2 ^ 32 - 1)));
      bound_arcs = arcs;
      in_range = subst (λ m. All (λ r. r < m) ranks) (sym count_ranks) (ranks_in n ranks all_ranks);
      once = ranks_once n ranks all_ranks;
      sorted = links_sorted v ranks bound links all_links;
      links = λ i d less.
          let facts = facts_at v ranks bound links i d less (all_links i less) in
          record {
            from_in = facts.from_in;
            to_in = facts.to_in;
            apart = facts.apart;
            counts = facts.counts;
            within = within-from_numbers (get_or links i d).cost bound facts.within facts.few_arcs;
            middle = has_halves h (get_or links i d) facts.middle (along_none (half_fault links) links halves_ok i d less);
          };
    }

-- the same of parts that have other names
pub well_made_of : (v : Version) (n k b : ℕ) (ranks seen : List ℕ) (links tested : List Link) (bound : Cost) → size_fault n k b ≡ None → length ranks ≡ n → NoneBelow n (rank_fault n ranks) → length links ≡ k
    → NoneBelow k (link_fault_at v seen bound links) → first_along (half_fault tested) tested ≡ None → seen ≡ ranks → tested ≡ links → bound ≡ bound_in v n b → IsWellMade (record { version = v; ranks = ranks; links = links; bound = bound })
well_made_of v n k b ranks seen links tested bound sizes count_ranks ranks_ok count_links links_ok halves_ok same_ranks same_links same_bound =
    let at_ranks : NoneBelow k (link_fault_at v ranks bound links) =
    subst (λ (r : List ℕ). NoneBelow k (link_fault_at v r bound links)) same_ranks links_ok in
    let at_bound : NoneBelow k (link_fault_at v ranks (bound_in v n b) links) =
    subst (λ (c : Cost). NoneBelow k (link_fault_at v ranks c links)) same_bound at_ranks in
    let halves : first_along (half_fault links) links ≡ None =
    subst (λ (l : List Link). first_along (half_fault l) l ≡ None) same_links halves_ok in
    subst (λ (c : Cost). IsWellMade (record { version = v; ranks = ranks; links = links; bound = c })) (sym same_bound) (well_made v n k b ranks links sizes count_ranks ranks_ok count_links at_bound halves)

-- The faults of a whole file.
abbrev pub at_magic : List ℕ → ℕ → Option HierError
at_magic bytes k = cut (k + 1) bytes otherwise fault_if (not (is_magic k (slice_index bytes k))) BadMagic

-- a byte of a magic is one at its place
its_byte : (v : Version) (rest : List ℕ) (k : ℕ) → k < 4 → not (is_magic k (slice_index (magic_of v ++ rest) k)) ≡ false
its_byte One rest zero h = refl
its_byte One rest (suc zero) h = refl
its_byte One rest (suc (suc zero)) h = refl
its_byte One rest (suc (suc (suc zero))) h = refl
its_byte Two rest zero h = refl
its_byte Two rest (suc zero) h = refl
its_byte Two rest (suc (suc zero)) h = refl
its_byte Two rest (suc (suc (suc zero))) h = refl
its_byte v rest (suc (suc (suc (suc k)))) h = absurd (omega arith)

length-magic : (v : Version) → length (magic_of v) ≡ 4
length-magic One = refl
length-magic Two = refl

pub magic_none : (v : Version) (rest : List ℕ) → magic_fault (magic_of v ++ rest) ≡ None
magic_none v rest = none_below 4 (at_magic (magic_of v ++ rest)) (λ k less.
    let room : k + 1 ≤ length (magic_of v ++ rest) = omega (arith, less, length-magic v, length-append (magic_of v) rest) in
    neither (cut_none (k + 1) (magic_of v ++ rest) room) (unfound _ BadMagic (its_byte v rest k less)))

-- what follows it, and the version that it names
pub drop-magic : (v : Version) (rest : List ℕ) → drop 4 (magic_of v ++ rest) ≡ rest
drop-magic One rest = refl
drop-magic Two rest = refl

pub version_in-magic : (v : Version) (rest : List ℕ) → version_in (magic_of v ++ rest) ≡ v
version_in-magic One rest = refl
version_in-magic Two rest = refl

-- a fault of the magic
pub first_magic : (bytes : List ℕ) {e : HierError} → magic_fault bytes ≡ Some e → first_fault bytes ≡ Some e
unfolding first_fault
first_magic bytes h = earlier _ (earlier _ h)

-- the faults of what follows a magic
after_magic : Version → List ℕ → Option HierError
after_magic v rest = head_fault rest otherwise body_fault v (word_in rest) (long_in (drop 4 rest)) (long_in (drop 12 rest)) (drop 20 rest)

first_fault-magic : (v : Version) (rest : List ℕ) → first_fault (magic_of v ++ rest) ≡ after_magic v rest
unfolding first_fault after_magic
first_fault-magic v rest =
    let bytes : List ℕ = magic_of v ++ rest in
    ap (λ (o : Option HierError). o otherwise head_fault (drop 4 bytes) otherwise body_fault (version_in bytes) (word_in (drop 4 bytes)) (long_in (drop 4 (drop 4 bytes))) (long_in (drop 12 (drop 4 bytes))) (drop 20 (drop 4 bytes))) (magic_none v rest)
    ∙ ap (λ (w : Version). after_magic w (drop 4 bytes)) (version_in-magic v rest)
    ∙ ap (after_magic v) (drop-magic v rest)

-- a fault of the head
pub first_head : (v : Version) (rest : List ℕ) {e : HierError} → head_fault rest ≡ Some e → first_fault (magic_of v ++ rest) ≡ Some e
unfolding after_magic
first_head v rest h = first_fault-magic v rest ∙ earlier _ h

same_body : (v : Version) {m n k l b c : ℕ} {xs ys : List ℕ} → m ≡ n → k ≡ l → b ≡ c → xs ≡ ys → body_fault v m k b xs ≡ body_fault v n l c ys
same_body v p q r s = cc

pub first_fault-sizes : (v : Version) (n k b : ℕ) (rest : List ℕ) → n < 2 ^ 32 → k < 2 ^ 64 → b < 2 ^ 64 → first_fault ((magic_of v ++ sizes n k b) ++ rest) ≡ size_fault n k b otherwise body_fault v n k b rest
unfolding after_magic
first_fault-sizes v n k b rest fits_n fits_k fits_b =
    let bytes : List ℕ = sizes n k b ++ rest in
    let whole : first_fault ((magic_of v ++ sizes n k b) ++ rest) ≡ first_fault (magic_of v ++ bytes) =
    ap first_fault (append_assoc (magic_of v) (sizes n k b) rest) in
    let body = same_body v (nodes-sizes n k b rest fits_n) (links-sizes n k b rest fits_k) (bound-sizes n k b rest fits_b) (drop-sizes n k b rest) in
    whole ∙ first_fault-magic v bytes ∙ ap (λ (o : Option HierError). o otherwise body_fault v (word_in bytes) (long_in (drop 4 bytes)) (long_in (drop 12 bytes)) (drop 20 bytes)) (head_fault-sizes n k b rest fits_n fits_k fits_b)
    ∙ ap (λ (o : Option HierError). size_fault n k b otherwise o) body

-- a fault of the body
pub first_body : (v : Version) (n k b : ℕ) (rest : List ℕ) {e : HierError} → n < 2 ^ 32 → k < 2 ^ 64 → b < 2 ^ 64 → size_fault n k b ≡ None → body_fault v n k b rest ≡ Some e → first_fault ((magic_of v ++ sizes n k b) ++ rest) ≡ Some e
first_body v n k b rest fits_n fits_k fits_b none is = first_fault-sizes v n k b rest fits_n fits_k fits_b ∙ later none is

-- where what came behind a head has no fault but its end, the whole has none
pub first_so_far : (v : Version) (n k b : ℕ) (rest : List ℕ) → n < 2 ^ 32 → k < 2 ^ 64 → b < 2 ^ 64 → size_fault n k b ≡ None → HasNoneSoFar (body_fault v n k b) rest → HasNoneSoFar first_fault ((magic_of v ++ sizes n k b) ++ rest)
first_so_far v n k b rest fits_n fits_k fits_b none (inl is) = inl (first_body v n k b rest fits_n fits_k fits_b none is)
first_so_far v n k b rest fits_n fits_k fits_b none (inr is) = inr (first_fault-sizes v n k b rest fits_n fits_k fits_b ∙ neither none is)

-- where what was tested behind a head has none but one of the halves of links, the whole has none else
pub first_but_halves : (v : Version) (n k b : ℕ) (rest : List ℕ) → n < 2 ^ 32 → k < 2 ^ 64 → b < 2 ^ 64 → size_fault n k b ≡ None → HasNoneButHalves (body_fault v n k b) rest → HasNoneButHalves first_fault ((magic_of v ++ sizes n k b) ++ rest)
first_but_halves v n k b rest fits_n fits_k fits_b none (inl is) = inl (first_so_far v n k b rest fits_n fits_k fits_b none is)
first_but_halves v n k b rest fits_n fits_k fits_b none (inr (inl is)) = inr (inl (first_body v n k b rest fits_n fits_k fits_b none is))
first_but_halves v n k b rest fits_n fits_k fits_b none (inr (inr is)) = inr (inr (first_body v n k b rest fits_n fits_k fits_b none is))

-- no bytes wait at the start
pub nothing_waits : (waiting : List ℕ) (known : Option (List ℕ)) → waiting ≡ [] → coming waiting known ≡ known
nothing_waits waiting known e = ap (λ l. coming l known) e ∙ prepend_known-nil known

pub same_head : {m n k l b c : ℕ} → m ≡ n → k ≡ l → b ≡ c → sizes m k b ≡ sizes n l c
same_head p q r = cc

-- a head and the rest of a hierarchy
pub spelled_whole : (v : Version) (n k b : ℕ) (h : Hierarchy) (start mid : Option (List ℕ)) → Consumes start mid (magic_of v ++ sizes n k b) → IsBodyOf h v n k b → IfSome mid (λ bytes. bytes ≡ flat_map word h.ranks ++ flat_map (link_bytes v) h.links)
    → IfSome start (λ bytes. bytes ≡ bytes_of h)
unfolding head_bytes
spelled_whole v n k b h None mid taken body rest = tt
spelled_whole v n k b h (Some xs) None taken body rest = absurd taken
spelled_whole v n k b h (Some xs) (Some ys) taken body rest =
    let ranks : List ℕ = flat_map word h.ranks in
    let links : List ℕ = flat_map (link_bytes v) h.links in
    let head : List ℕ = magic_of v ++ sizes (length h.ranks) (length h.links) (length_of h.bound) in
    taken ∙ ap (λ l. (magic_of v ++ sizes n k b) ++ l) rest ∙ ap (λ (l : List ℕ). (magic_of v ++ l) ++ (ranks ++ links)) (same_head (sym body.ranks) (sym body.links) (sym body.bound))
    ∙ sym (append_assoc head ranks links)
    ∙ ap (λ (w : Version). head_bytes w (length h.ranks) (length h.links) h.bound ++ ranks ++ flat_map (link_bytes w) h.links) (sym body.version)
