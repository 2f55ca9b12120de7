-- The spelling of a well made hierarchy has no fault.
use Rattle.std.proofs.Common.{ℕ, zero, suc, ◌≡◌, ◌≢◌, ◌-◌, ◌*◌, ◌^◌, ◌<◌, ◌≤◌, ◌==◌, ◌||◌, ◌&&◌, not, Bool, true, false, List, [], ◌∷◌, ◌++◌, length, get_or, take, Option, None, Some, All, AllPairs, inl, inr, sym, refl, ap, ◌∙◌, subst, arith, append-nil, append_assoc, nat_lt, nat_le, slice_index, slice_get, option_and_then, is_some}
use Rattle.std.specs.List.{list_any, find, flat_map}
use Rattle.std.proofs.lemmas.Bool.Decides.{nat_tests}
use Rattle.std.proofs.lemmas.Grind.{get_or_default_zero}
use Rattle.std.proofs.lemmas.List.{length-take-le, get_or-take, get_or_default}
use Rattle.std.proofs.lemmas.List.Folds.{list_any_none}
use Rattle.ch_cost.specs.declared.cost.Cost.{Cost}
use Rattle.ch_cost.specs.Cost.{zero_cost, ◌⊕◌, cost_of_arcs, length_of, arcs_of, same}
use Rattle.ch_cost.specs.Cost.Laws.{same-from_equal}
use Rattle.ch_cost.specs.Cost.Numbers.{length_of-cost_of_arcs, lengths-from_within, arcs-from_within}
use Rattle.ch_graph.specs.declared.link.Link.{Link}
use Rattle.ch_graph.specs.declared.version.Version.{Version}
use Rattle.ch_graph.specs.declared.version.Version.TheVariants.{One, Two}
use Rattle.ch_graph.specs.Hierarchy.{Hierarchy, IsWellMade, IsLinkWellMade, Counts, IsLink, IsLinkAt, ComesBefore}
use Rattle.hierfile.specs.declared.error.HierError.{HierError}
use Rattle.hierfile.specs.declared.error.HierError.TheVariants.{LinkEnds, LinkOrder, LinkWeight, MiddleRange, MiddleRank, HalfSum, TooBig, BoundTooBig, RankRange, RankTwice}
use Rattle.hierfile.specs.Spelling.{magic_of, word, link_bytes, head_bytes, bound_in, bytes_of}
use Rattle.hierfile.specs.Fault.{size_fault, rank_test, rank_fault, does_count, has_weight, link_fault, link_fault_at, middle_fault, is_before, is_in_order, half_fault, halves_fault, sum_fault, leads, first_along, body_fault, first_fault}
use Rattle.hierfile.specs.Bytes.{NoneBelow}
use Rattle.hierfile.proofs.FaultsOfParts.{neither, unfound, sizes}
use Rattle.hierfile.proofs.FaultlessIsWellMade.{find-at, slice_get-at, first_fault-sizes}
use Rattle.hierfile.proofs.BodyFaults.{body_after_links, few_links, few_enough}
use Rattle.hierfile.proofs.OneSpelling.{bound_fits, bound_is, links_fit}

-- Sizes

not_above : (m n p k : ℕ) → n ≤ m → k ≤ p → (nat_lt m n || nat_lt p k) ≡ false
not_above m n p k h low = grind (arith, nat_tests)

not_below : (m b : ℕ) → b ≤ m → nat_lt m b ≡ false
not_below m b h = grind (arith, nat_tests)

size_none : (n k b : ℕ) → n ≤ 2 ^ 25 → k ≤ n * (n - 1) → b ≤ (n - 1) * (2 ^ 32 - 1) → size_fault n k b ≡ None
size_none n k b few_nodes few low =
    neither (unfound _ TooBig (not_above (2 ^ 25) n (n * (n - 1)) k few_nodes few)) (unfound _ BoundTooBig (not_below ((n - 1) * (2 ^ 32 - 1)) b low))

bound_low : (h : Hierarchy) → IsWellMade h → length_of h.bound ≤ (length h.ranks - 1) * (2 ^ 32 - 1)
bound_low h made =
    subst (λ m. length_of h.bound ≤ m) (length_of-cost_of_arcs (length h.ranks - 1) (2 ^ 32 - 1)) (lengths-from_within h.bound (cost_of_arcs (length h.ranks - 1) (2 ^ 32 - 1)) made.bound)

-- a well made hierarchy's numbers
sizes_none : (h : Hierarchy) → IsWellMade h → size_fault (length h.ranks) (length h.links) (length_of h.bound) ≡ None
sizes_none h made = size_none (length h.ranks) (length h.links) (length_of h.bound) made.few_nodes (few_links h made) (bound_low h made)

-- Ranks

not_high : (n r : ℕ) → r < n → nat_le n r ≡ false
not_high n r h = grind (arith, nat_tests)

unequal : (a b : ℕ) → a ≢ b → (a == b) ≡ false
unequal a b apart = grind (arith, nat_tests)

rank_none : (n : ℕ) (before : List ℕ) (rank : ℕ) → rank < n → list_any (λ r. r == rank) before ≡ false → rank_test n before rank ≡ None
unfolding rank_test
rank_none n before rank h new = neither (unfound _ RankRange (not_high n rank h)) (unfound _ RankTwice new)

-- none of the ranks before this one is the same
is_new : (ranks : List ℕ) (k : ℕ) → AllPairs (λ q r. q ≢ r) ranks → k < length ranks → list_any (λ r. r == get_or ranks k 0) (take k ranks) ≡ false
is_new ranks k once less = list_any_none (λ r. r == get_or ranks k 0) (take k ranks) (λ i d within.
    let low : i < k = omega (arith, within, length-take-le k ranks (omega arith)) in
    let same : get_or (take k ranks) i d ≡ get_or ranks i d = get_or-take k ranks i d low in
    let given : get_or ranks i d ≡ get_or ranks i 0 = get_or_default_zero ranks i d (omega arith) in
    unequal _ _ (λ e. once i k 0 low less (sym given ∙ sym same ∙ e)))

ranks_none : (h : Hierarchy) → IsWellMade h → NoneBelow (length h.ranks) (rank_fault (length h.ranks) h.ranks)
ranks_none h made k less = rank_none (length h.ranks) (take k h.ranks) (get_or h.ranks k 0) (made.in_range k 0 less) (is_new h.ranks k made.once less)

-- Links

ends_fine : (n a b : ℕ) → a < n → b < n → a ≢ b → (nat_le n a || nat_le n b || a == b) ≡ false
ends_fine n a b h k apart = grind (arith, nat_tests)

some_or_one : (m : Option ℕ) (a : ℕ) → (m ≡ None → a ≡ 1) → (is_some m || a == 1) ≡ true
some_or_one None a one = let is : a ≡ 1 = one refl in grind (arith, nat_tests)
some_or_one (Some m) a one = refl

-- a link that counts what the version wants
count_fine : (v : Version) (l : Link) → Counts v l → does_count v l ≡ true
count_fine One l counts = weighs (length_of l.cost) (arcs_of l.cost) counts.some counts.none
  where
    weighs : (w a : ℕ) → 0 < w → a ≡ 0 → (nat_lt 0 w && a == 0) ≡ true
    weighs w a some none = grind (arith, nat_tests)
count_fine Two l counts = goes (arcs_of l.cost) (is_some l.middle || arcs_of l.cost == 1) counts.some (some_or_one l.middle (arcs_of l.cost) counts.one)
  where
    goes : (a : ℕ) (e : Bool) → 0 < a → e ≡ true → (nat_lt 0 a && e) ≡ true
    goes a e some is = grind (arith, nat_tests)

numbers_fine : (w b a n : ℕ) (e : Bool) → w ≤ b → a ≤ n → e ≡ true → (nat_le w b && nat_le a n && e) ≡ true
numbers_fine w b a n e h k is = grind (arith, nat_tests)

weight_fine : (v : Version) (bound : Cost) (l : Link) → length_of l.cost ≤ length_of bound → arcs_of l.cost ≤ arcs_of bound → Counts v l → has_weight v bound l ≡ true
unfolding has_weight
weight_fine v bound l within few counts = numbers_fine (length_of l.cost) (length_of bound) (arcs_of l.cost) (arcs_of bound) (does_count v l) within few (count_fine v l counts)

false_from_true : (b : Bool) → b ≡ true → not b ≡ false
false_from_true true h = refl
false_from_true false h = absurd (cc)

link_none : (v : Version) (ranks : List ℕ) (bound : Cost) (earlier : Option Link) (l : Link) → l.from < length ranks → l.to < length ranks → l.from ≢ l.to → is_in_order earlier l ≡ true
    → has_weight v bound l ≡ true → middle_fault ranks l.from l.to l.middle ≡ None → link_fault v ranks bound earlier l ≡ None
unfolding link_fault
link_none v ranks bound earlier l from_in to_in apart ordered weighs middle =
    neither (neither (neither (unfound _ LinkEnds (ends_fine (length ranks) l.from l.to from_in to_in apart)) (unfound _ LinkOrder (false_from_true _ ordered)))
    (unfound _ LinkWeight (false_from_true _ weighs))) middle

before_test : (a b : Link) → ComesBefore a b → is_before a b ≡ true
before_test a b before = elim before [ inl h ↦ by_from a b h | inr h ↦ by_to a b h.0 h.1 ]
  where
    by_from : (a b : Link) → a.from < b.from → is_before a b ≡ true
    by_from a b h = grind (arith, nat_tests)

    by_to : (a b : Link) → a.from ≡ b.from → a.to < b.to → is_before a b ≡ true
    by_to a b h k = grind (arith, nat_tests)

ordered_at : (ls : List Link) (k : ℕ) (d : Link) → AllPairs ComesBefore ls → k < length ls → is_in_order (slice_get (take k ls) (k - 1)) (get_or ls k d) ≡ true
ordered_at ls zero d sorted less = refl
ordered_at ls (suc k) d sorted less =
    let room : k < length (take (suc k) ls) = omega (arith, length-take-le (suc k) ls (omega arith)) in
    let back : suc k - 1 ≡ k = omega arith in
    let earlier : slice_get (take (suc k) ls) (suc k - 1) ≡ Some (get_or ls k d) = ap (slice_get (take (suc k) ls)) back ∙ slice_get-at (take (suc k) ls) k d room ∙ ap (λ (l : Link). Some l) (get_or-take (suc k) ls k d (omega arith)) in
    subst (λ (o : Option Link). is_in_order o (get_or ls (suc k) d) ≡ true) (sym earlier) (before_test (get_or ls k d) (get_or ls (suc k) d) (sorted k (suc k) d (omega arith) less))

middle_low : (r x y : ℕ) → r < x → r < y → not (nat_lt r x && nat_lt r y) ≡ false
middle_low r x y h k = grind (arith, nat_tests)

middle_none : (h : Hierarchy) (l : Link) (o : Option ℕ) → l.middle ≡ o → IsWellMade h → IsLinkWellMade h l → middle_fault h.ranks l.from l.to o ≡ None
middle_none h l None is made fine = refl
middle_none h l (Some m) is made fine =
    let halves = fine.middle m is in
    let half : Link = halves.0 in
    let among = halves.2.first.among in
    let of_list : IsLinkWellMade h half = subst (IsLinkWellMade h) among.2 (made.links among.0 half among.1) in
    let low : m < length h.ranks = omega (arith, halves.2.first.to, of_list.to_in) in
    let rank : ℕ → ℕ = slice_index h.ranks in
    neither (unfound _ MiddleRange (not_high (length h.ranks) m low)) (unfound _ MiddleRank (middle_low (rank m) (rank l.from) (rank l.to) halves.2.below_from halves.2.below_to))

link_none_at : (h : Hierarchy) (k : ℕ) (d : Link) → IsWellMade h → k < length h.links → link_fault h.version h.ranks h.bound (slice_get (take k h.links) (k - 1)) (get_or h.links k d) ≡ None
link_none_at h k d made less =
    let l : Link = get_or h.links k d in
    let fine : IsLinkWellMade h l = made.links k d less in
    let weighs : has_weight h.version h.bound l ≡ true = weight_fine h.version h.bound l (lengths-from_within l.cost h.bound fine.within) (arcs-from_within l.cost h.bound fine.within) fine.counts in
    link_none h.version h.ranks h.bound (slice_get (take k h.links) (k - 1)) l fine.from_in fine.to_in fine.apart (ordered_at h.links k d made.sorted less) weighs (middle_none h l l.middle refl made fine)

links_none : (h : Hierarchy) → IsWellMade h → NoneBelow (length h.links) (link_fault_at h.version h.ranks h.bound h.links)
links_none h made k less =
    let d : Link = record { from = 0; to = 0; cost = zero_cost; middle = None } in
    let earlier : Option Link = slice_get (take k h.links) (k - 1) in
    subst (λ (o : Option Link). option_and_then (link_fault h.version h.ranks h.bound earlier) o ≡ None) (sym (slice_get-at h.links k d less)) (link_none_at h k d made less)

-- Halves

-- the link between two nodes is the one that is found
found_link : (h : Hierarchy) (x y : ℕ) (l : Link) → IsWellMade h → IsLink h x y l → find (leads x y) h.links ≡ Some l
found_link h x y l made is =
    let place : ℕ = is.among.0 in
    let here : get_or h.links place l ≡ l = is.among.2 in
    let there : (d : Link) → get_or h.links place d ≡ l = λ d. get_or_default h.links place d l is.among.1 ∙ here in
    let at : IsLinkAt h.links x y place = record { within = is.among.1; from = λ d. ap (λ (r : Link). r.from) (there d) ∙ is.from; to = λ d. ap (λ (r : Link). r.to) (there d) ∙ is.to } in
    find-at x y h.links place l made.sorted at ∙ ap (λ (r : Link). Some r) here

sum_none : (a b : Link) (cost : Cost) (f s : Option Link) → f ≡ Some a → s ≡ Some b → cost ≡ a.cost ⊕ b.cost → sum_fault f s cost ≡ None
sum_none a b cost f s p q sum =
    let equal : same cost (a.cost ⊕ b.cost) ≡ true = same-from_equal cost (a.cost ⊕ b.cost) sum in
    subst (λ (o : Option Link). sum_fault o s cost ≡ None) (sym p) (subst (λ (o : Option Link). sum_fault (Some a) o cost ≡ None) (sym q) (unfound _ HalfSum (false_from_true _ equal)))

halves_none : (h : Hierarchy) (l : Link) (o : Option ℕ) → l.middle ≡ o → IsWellMade h → IsLinkWellMade h l → halves_fault h.links l.from l.to l.cost o ≡ None
halves_none h l None is made fine = refl
halves_none h l (Some m) is made fine =
    let halves = fine.middle m is in
    sum_none halves.0 halves.1 l.cost _ _ (found_link h l.from m halves.0 made halves.2.first) (found_link h m l.to halves.1 made halves.2.second) halves.2.sum

half_none : (h : Hierarchy) (l : Link) → IsWellMade h → IsLinkWellMade h l → half_fault h.links l ≡ None
unfolding half_fault
half_none h l made fine = halves_none h l l.middle refl made fine

none_along : (f : Link → Option HierError) (ls : List Link) → All (λ l. f l ≡ None) ls → first_along f ls ≡ None
none_along f [] all = refl
none_along f (l ∷ ls) all = neither (all 0 l (omega arith)) (none_along f ls (λ k d less. all (suc k) d (omega arith)))

-- The whole

body : Hierarchy → List ℕ
body h = flat_map word h.ranks ++ flat_map (link_bytes h.version) h.links

body_none : (h : Hierarchy) → IsWellMade h → body_fault h.version (length h.ranks) (length h.links) (length_of h.bound) (body h) ≡ None
unfolding body
body_none h made =
    let v : Version = h.version in
    let n : ℕ = length h.ranks in
    let k : ℕ = length h.links in
    let b : ℕ = length_of h.bound in
    let links : NoneBelow k (link_fault_at v h.ranks (bound_in v n b) h.links) =
    subst (λ (c : Cost). NoneBelow k (link_fault_at v h.ranks c h.links)) (sym (bound_is h made)) (links_none h made) in
    let halves : first_along (half_fault h.links) h.links ≡ None =
    none_along (half_fault h.links) h.links (λ i d less. half_none h (get_or h.links i d) made (made.links i d less)) in
    ap (body_fault v n k b) (sym (append-nil (body h))) ∙ body_after_links v n k b h.ranks h.links [] (omega (arith, made.few_nodes)) refl (ranks_none h made) refl (links_fit h made) links ∙ neither halves refl

pub no_fault : (h : Hierarchy) → IsWellMade h → first_fault (bytes_of h) ≡ None
unfolding body head_bytes
no_fault h made =
    let n : ℕ = length h.ranks in
    let k : ℕ = length h.links in
    let b : ℕ = length_of h.bound in
    ap first_fault (append_assoc (magic_of h.version ++ sizes n k b) (flat_map word h.ranks) (flat_map (link_bytes h.version) h.links))
    ∙ first_fault-sizes h.version n k b (body h) (omega (arith, made.few_nodes)) (few_enough h made) (omega (arith, bound_fits h made)) ∙ neither (sizes_none h made) (body_none h made)
