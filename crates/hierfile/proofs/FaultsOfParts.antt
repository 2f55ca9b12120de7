use Rattle.std.proofs.Common.{ℕ, zero, suc, ◌≡◌, ◌≢◌, ◌+◌, ◌<◌, ◌≤◌, Bool, true, false, List, ◌++◌, length, Option, None, Some, Result, Ok, Err, sym, refl, subst, arith, inl, inr, length-append, IfSome, OnErr, ◌-◌, ◌*◌, ◌^◌, [], ◌∷◌, drop, ap, ◌∙◌, add-one, append_assoc, zero-add, All, get_or, take, ◌==◌, append-nil}
use Rattle.std.specs.Io.KnownBytes.{Consumes}
use Rattle.std.proofs.lemmas.Bool.{cases_lt, le-leb}
use Rattle.std.proofs.lemmas.Bool.Decides.{nat_tests}
use Rattle.hierfile.specs.declared.error.HierError.{HierError}
use Rattle.hierfile.specs.declared.error.HierError.TheVariants.{OutOfMemory, Read, BadMagic, Truncated, TooBig, BoundTooBig, RankRange, RankTwice, LinkEnds, LinkOrder, LinkWeight, MiddleRange, MiddleRank, HalfMissing, HalfSum, Trailing}
use Rattle.hierfile.specs.Fault.{◌otherwise◌, fault_if, first_below, cut, rank_test, rank_fault, ranks_fault, size_fault, head_fault}
use Rattle.hierfile.specs.Bytes.{OfBytes, IsFaultOf, NoneBelow, AreTold, IsWritable}
use Rattle.std.proofs.lemmas.List.{drop-drop, take-append-le, get_or_append_left}
use Rattle.std.proofs.lemmas.Nat.{mul-le, from_be_bytes-to_be_bytes_4, from_be_bytes-to_be_bytes_8}
use Rattle.std.proofs.Math.Nat.{mul-suc}
use Rattle.std.specs.List.{flat_map, list_any}
use Rattle.ch_cost.specs.declared.cost.Cost.{Cost}
use Rattle.ch_cost.specs.Cost.{length_of, arcs_of, of_walk}
use Rattle.ch_cost.specs.Cost.Numbers.{of_walk-numbers}
use Rattle.ch_graph.specs.declared.link.Link.{Link}
use Rattle.ch_graph.specs.declared.version.Version.{Version}
use Rattle.ch_graph.specs.declared.version.Version.TheVariants.{One, Two}
use Rattle.hierfile.specs.Spelling.{word, long, arcs_bytes, arcs_size, link_bytes, link_size, middle_number, middle_in, word_in, long_in, arcs_in, link_in, words_in, links_in}
use Rattle.std.proofs.lemmas.Grind.{get_or_default_zero}
use Rattle.std.proofs.lemmas.List.Elements.{All-push}
use Rattle.std.proofs.Math.Seq.{get_or-append_seam, take-append_seam}

-- How faults of parts are faults of the whole.
-- Parts and the whole

pub later : {f g : Option HierError} {e : HierError} → f ≡ None → g ≡ Some e → f otherwise g ≡ Some e
later {f} {g} {e} is h = subst (λ (o : Option HierError). o otherwise g ≡ Some e) (sym is) h

pub earlier : {f : Option HierError} (g : Option HierError) {e : HierError} → f ≡ Some e → f otherwise g ≡ Some e
earlier {f} g {e} is = subst (λ (o : Option HierError). o otherwise g ≡ Some e) (sym is) refl

pub neither : {f g : Option HierError} → f ≡ None → g ≡ None → f otherwise g ≡ None
neither {f} {g} is h = subst (λ (o : Option HierError). o otherwise g ≡ None) (sym is) h

pub first_none : (f g : Option HierError) → f otherwise g ≡ None → f ≡ None
first_none None g h = refl
first_none (Some e) g h = absurd (cc)

pub second_none : (f g : Option HierError) → f otherwise g ≡ None → g ≡ None
second_none None g h = h
second_none (Some e) g h = absurd (cc)

pub none_below : (n : ℕ) (fault_at : ℕ → Option HierError) → NoneBelow n fault_at → first_below n fault_at ≡ None
none_below zero fault_at h = refl
none_below (suc n) fault_at h = neither (none_below n fault_at (λ k less. h k (omega arith))) (h n (omega arith))

pub below_none : (n : ℕ) (fault_at : ℕ → Option HierError) → first_below n fault_at ≡ None → NoneBelow n fault_at
below_none zero fault_at h k less = absurd (omega arith)
below_none (suc n) fault_at h k less = elim (cases_lt k n) [
  | inl l ↦ below_none n fault_at (first_none (first_below n fault_at) (fault_at n) h) k l
  | inr g ↦ let e : n ≡ k = omega arith in subst (λ m. fault_at m ≡ None) e (second_none (first_below n fault_at) (fault_at n) h)
]

pub first_at : (n i : ℕ) (fault_at : ℕ → Option HierError) {e : HierError} → i < n → NoneBelow i fault_at → fault_at i ≡ Some e → first_below n fault_at ≡ Some e
first_at zero i fault_at {e} less before is = absurd (omega arith)
first_at (suc n) i fault_at {e} less before is = elim (cases_lt i n) [
  | inl l ↦ earlier (fault_at n) (first_at n i fault_at l before is)
  | inr g ↦ let same : i ≡ n = omega arith in later (none_below n fault_at (subst (λ m. NoneBelow m fault_at) same before)) (subst (λ m. fault_at m ≡ Some e) same is)
]

-- a test that finds nothing
pub unfound : (b : Bool) (e : HierError) → b ≡ false → fault_if b e ≡ None
unfound true e h = absurd (cc)
unfound false e h = refl

-- Missing bytes

pub cut_short : (n : ℕ) (bytes : List ℕ) → length bytes < n → cut n bytes ≡ Some Truncated
cut_short n bytes h = grind (arith, nat_tests)

pub cut_none : (n : ℕ) (bytes : List ℕ) → n ≤ length bytes → cut n bytes ≡ None
cut_none n bytes h = grind (arith, nat_tests)

pub cut_says : (n : ℕ) (bytes : List ℕ) (e : HierError) → cut n bytes ≡ Some e → (length bytes < n) × (e ≡ Truncated)
cut_says n bytes e is = elim (cases_lt (length bytes) n) [
  | inl h ↦ let short : cut n bytes ≡ Some Truncated = cut_short n bytes h in (h, cc)
  | inr h ↦ let none : cut n bytes ≡ None = cut_none n bytes h in absurd (cc)
]

pub none_cut : (n : ℕ) (bytes : List ℕ) → cut n bytes ≡ None → n ≤ length bytes
none_cut n bytes is = elim (cases_lt (length bytes) n) [
  | inl h ↦ let short : cut n bytes ≡ Some Truncated = cut_short n bytes h in absurd (cc)
  | inr h ↦ h
]

-- bytes that are too few behind others are too few with them
pub cut_behind : (m n : ℕ) (front bytes : List ℕ) {e : HierError} → length front + n ≤ m → cut n bytes ≡ Some e → cut m (front ++ bytes) ≡ Some e
cut_behind m n front bytes {e} h is =
    let says = cut_says n bytes e is in
    subst (λ (x : HierError). cut m (front ++ bytes) ≡ Some x) (sym says.1) (cut_short m (front ++ bytes) (omega (arith, says.0, length-append front bytes)))

-- Refusals

pub of_bytes-map : (e : HierError) {P Q : Type 0} → (P → Q) → OfBytes e P → OfBytes e Q
of_bytes-map OutOfMemory f h = tt
of_bytes-map Read f h = tt
of_bytes-map BadMagic f h = f h
of_bytes-map Truncated f h = f h
of_bytes-map TooBig f h = f h
of_bytes-map BoundTooBig f h = f h
of_bytes-map RankRange f h = f h
of_bytes-map RankTwice f h = f h
of_bytes-map LinkEnds f h = f h
of_bytes-map LinkOrder f h = f h
of_bytes-map LinkWeight f h = f h
of_bytes-map MiddleRange f h = f h
of_bytes-map MiddleRank f h = f h
of_bytes-map HalfMissing f h = f h
of_bytes-map HalfSum f h = f h
of_bytes-map Trailing f h = f h

pub of_bytes : (e : HierError) {P : Type 0} → P → OfBytes e P
of_bytes e h = of_bytes-map e {P = Unit {0}} (λ _. h) (nothing e)
  where
    nothing : (e : HierError) → OfBytes e (Unit {0})
    nothing OutOfMemory = tt
    nothing Read = tt
    nothing e = tt

known_behind : (front : List ℕ) (P Q : List ℕ → Type 0) (old new : Option (List ℕ)) → Consumes old new front → ((rest : List ℕ) → P rest → Q (front ++ rest)) → IfSome new P → IfSome old Q
known_behind front P Q None new h f p = tt
known_behind front P Q (Some xs) None h f p = absurd h
known_behind front P Q (Some xs) (Some ys) h f p = subst Q (sym h) (f ys p)

-- a fault of the bytes behind these is one of them all
pub behind : (front : List ℕ) (f g : List ℕ → Option HierError) (old new : Option (List ℕ)) (e : HierError) → Consumes old new front → ((rest : List ℕ) → f rest ≡ Some e → g (front ++ rest) ≡ Some e)
    → IsFaultOf f new e → IsFaultOf g old e
behind front f g old new e h step = of_bytes-map e (known_behind front (λ rest. f rest ≡ Some e) (λ known. g known ≡ Some e) old new h step)

-- a fault that a test found in these
pub found : (front : List ℕ) (g : List ℕ → Option HierError) (old new : Option (List ℕ)) (e : HierError) {P : Type 0} → Consumes old new front → (P → (rest : List ℕ) → g (front ++ rest) ≡ Some e) → OfBytes e P → IsFaultOf g old e
found front g old new e {P} h step = of_bytes-map e (λ p. known_behind front (λ _. P) (λ known. g known ≡ Some e) old new h (λ rest q. step q rest) (everywhere new p))
  where
    everywhere : (known : Option (List ℕ)) → P → IfSome known (λ _. P)
    everywhere None p = tt
    everywhere (Some xs) p = p

-- what a `?` propagates
pub where_err : {T E : Type 0} (r : Result T E) {P : Type 0} → P → OnErr r P
where_err (Ok x) h = tt
where_err (Err e) h = h

pub memory_is_no_read : OutOfMemory ≡ Read → ⊥
memory_is_no_read is = cc

-- no test finds out of memory
pub finds_no_memory : (b : Bool) (e : HierError) → e ≢ OutOfMemory → fault_if b e ≢ Some OutOfMemory
finds_no_memory true e other is = other (cc)
finds_no_memory false e other is = cc

pub neither_memory : (f g : Option HierError) → f ≢ Some OutOfMemory → g ≢ Some OutOfMemory → f otherwise g ≢ Some OutOfMemory
neither_memory None g h k = k
neither_memory (Some e) g h k = h

pub read_is_no_memory : Read ≡ OutOfMemory → ⊥
read_is_no_memory is = cc

pub truncated_is_no_memory : Truncated ≡ OutOfMemory → ⊥
truncated_is_no_memory is = cc

pub magic_is_no_memory : BadMagic ≡ OutOfMemory → ⊥
magic_is_no_memory is = cc

pub truncated_is_no_read : Truncated ≡ Read → ⊥
truncated_is_no_read is = cc

pub magic_is_no_read : BadMagic ≡ Read → ⊥
magic_is_no_read is = cc

pub missing_is_no_read : HalfMissing ≡ Read → ⊥
missing_is_no_read is = cc

pub sum_is_no_read : HalfSum ≡ Read → ⊥
sum_is_no_read is = cc

-- What spelled bytes say.
pub length-word : (n : ℕ) → length (word n) ≡ 4
unfolding word
length-word n = refl

pub length-long : (n : ℕ) → length (long n) ≡ 8
unfolding long
length-long n = refl

pub drop-word : (n : ℕ) (rest : List ℕ) → drop 4 (word n ++ rest) ≡ rest
unfolding word
drop-word n rest = refl

pub word_in-word : (n : ℕ) (rest : List ℕ) → n < 2 ^ 32 → word_in (word n ++ rest) ≡ n
unfolding word word_in
word_in-word n rest h = from_be_bytes-to_be_bytes_4 n h

middle_in-number : (m : Option ℕ) → IfSome m (λ n. n < 2 ^ 32 - 1) → middle_in (middle_number m) ≡ m
middle_in-number None h = refl
middle_in-number (Some n) h = grind (arith, nat_tests, h)

abbrev made : ℕ → ℕ → Cost → Option ℕ → Link
made a b c m = record { from = a; to = b; cost = c; middle = m }

same_link : (l : Link) {a b : ℕ} {c : Cost} {m : Option ℕ} → a ≡ l.from → b ≡ l.to → c ≡ l.cost → m ≡ l.middle → made a b c m ≡ l
same_link l {a} {b} {c} {m} p q r s =
    ap (λ (x : ℕ). made x b c m) p ∙ ap (λ (x : ℕ). made l.from x c m) q ∙ ap (λ (x : Cost). made l.from l.to x m) r ∙ ap (λ (x : Option ℕ). made l.from l.to l.cost x) s

-- the arcs of a link

arcs_in-bytes : (v : Version) (n : ℕ) (rest : List ℕ) → AreTold v n → arcs_in v (arcs_bytes v n ++ rest) ≡ n
arcs_in-bytes One n rest told = sym told
arcs_in-bytes Two n rest told = word_in-word n rest told

drop-arcs : (v : Version) (n : ℕ) (rest : List ℕ) → drop (arcs_size v) (arcs_bytes v n ++ rest) ≡ rest
drop-arcs One n rest = refl
drop-arcs Two n rest = drop-word n rest

pub length-arcs : (v : Version) (n : ℕ) → length (arcs_bytes v n) ≡ arcs_size v
length-arcs One n = refl
length-arcs Two n = length-word n

-- the bytes of a link behind its weight
behind_weight : (v : Version) (l : Link) (rest : List ℕ) → drop 16 (link_bytes v l ++ rest) ≡ arcs_bytes v (arcs_of l.cost) ++ (word (middle_number l.middle) ++ rest)
unfolding link_bytes word long
behind_weight v l rest = append_assoc (arcs_bytes v (arcs_of l.cost)) (word (middle_number l.middle)) rest

behind_arcs : (v : Version) (l : Link) (rest : List ℕ) → drop (16 + arcs_size v) (link_bytes v l ++ rest) ≡ word (middle_number l.middle) ++ rest
behind_arcs v l rest = sym (drop-drop (arcs_size v) 16 (link_bytes v l ++ rest)) ∙ ap (drop (arcs_size v)) (behind_weight v l rest) ∙ drop-arcs v (arcs_of l.cost) (word (middle_number l.middle) ++ rest)

-- its numbers
from-bytes : (v : Version) (l : Link) (rest : List ℕ) → l.from < 2 ^ 32 → word_in (link_bytes v l ++ rest) ≡ l.from
unfolding link_bytes word long word_in
from-bytes v l rest h = from_be_bytes-to_be_bytes_4 l.from h

to-bytes : (v : Version) (l : Link) (rest : List ℕ) → l.to < 2 ^ 32 → word_in (drop 4 (link_bytes v l ++ rest)) ≡ l.to
unfolding link_bytes word long word_in
to-bytes v l rest h = from_be_bytes-to_be_bytes_4 l.to h

length-bytes : (v : Version) (l : Link) (rest : List ℕ) → length_of l.cost < 2 ^ 64 → long_in (drop 8 (link_bytes v l ++ rest)) ≡ length_of l.cost
unfolding link_bytes word long long_in
length-bytes v l rest h = from_be_bytes-to_be_bytes_8 (length_of l.cost) h

pub link_in-bytes : (v : Version) (l : Link) (rest : List ℕ) → IsWritable v l → link_in v (link_bytes v l ++ rest) ≡ l
unfolding link_in
link_in-bytes v l rest h =
    let bytes : List ℕ = link_bytes v l ++ rest in
    let end : List ℕ = word (middle_number l.middle) ++ rest in
    let arcs : arcs_in v (drop 16 bytes) ≡ arcs_of l.cost =
    ap (arcs_in v) (behind_weight v l rest) ∙ arcs_in-bytes v (arcs_of l.cost) end h.arcs in
    let cost : of_walk (long_in (drop 8 bytes)) (arcs_in v (drop 16 bytes)) ≡ l.cost =
    ap (λ (n : ℕ). of_walk n (arcs_in v (drop 16 bytes))) (length-bytes v l rest h.cost) ∙ ap (λ (n : ℕ). of_walk (length_of l.cost) n) arcs ∙ of_walk-numbers l.cost in
    let fits : middle_number l.middle < 2 ^ 32 = number_fits l.middle h.middle in
    let middle : middle_in (word_in (drop (16 + arcs_size v) bytes)) ≡ l.middle =
    ap (λ b. middle_in (word_in b)) (behind_arcs v l rest) ∙ ap middle_in (word_in-word (middle_number l.middle) rest fits) ∙ middle_in-number l.middle h.middle in
    same_link l (from-bytes v l rest h.from) (to-bytes v l rest h.to) cost middle
  where
    number_fits : (m : Option ℕ) → IfSome m (λ n. n < 2 ^ 32 - 1) → middle_number m < 2 ^ 32
    number_fits None h = omega arith
    number_fits (Some n) h = omega (arith, h)

pub length-link_bytes : (v : Version) (l : Link) → length (link_bytes v l) ≡ link_size v
unfolding link_bytes word long
length-link_bytes One l = refl
length-link_bytes Two l = refl

pub drop-link_bytes : (v : Version) (l : Link) (rest : List ℕ) → drop (link_size v) (link_bytes v l ++ rest) ≡ rest
unfolding link_bytes word long
drop-link_bytes One l rest = refl
drop-link_bytes Two l rest = refl

-- this many links, and one more
pub one_more : (v : Version) (n : ℕ) → link_size v * (n + 1) ≡ link_size v * n + link_size v
one_more v n = ap (λ m. link_size v * m) (add-one n) ∙ mul-suc (link_size v) n

pub at_most : (v : Version) (m n : ℕ) → m ≤ n → link_size v * m ≤ link_size v * n
at_most v m n less = mul-le (link_size v) m (link_size v) n (omega arith) less

-- lists of them

pub words_in-front : (n m : ℕ) (ns rest : List ℕ) → n ≡ length ns + m → All (λ x. x < 2 ^ 32) ns → words_in n (flat_map word ns ++ rest) ≡ ns ++ words_in m rest
words_in-front n m [] rest e h = ap (λ k. words_in k rest) (e ∙ zero-add m)
words_in-front zero m (x ∷ ns) rest e h = absurd (omega arith)
words_in-front (suc n) m (x ∷ ns) rest e h =
    let more : List ℕ = flat_map word ns ++ rest in
    let parts : (word x ++ flat_map word ns) ++ rest ≡ word x ++ more = append_assoc (word x) (flat_map word ns) rest in
    let fewer : n ≡ length ns + m = omega arith in
    let all : All (λ y. y < 2 ^ 32) ns = λ k d less. h (suc k) d (omega arith) in
    ap (words_in (suc n)) parts ∙ first (word_in-word x more (h 0 0 (omega arith))) (ap (words_in n) (drop-word x more) ∙ words_in-front n m ns rest fewer all)
  where
    first : {a b : ℕ} {xs ys : List ℕ} → a ≡ b → xs ≡ ys → a ∷ xs ≡ b ∷ ys
    first p q = cc

pub links_in-front : (v : Version) (n m : ℕ) (ls : List Link) (rest : List ℕ) → n ≡ length ls + m → All (IsWritable v) ls → links_in v n (flat_map (link_bytes v) ls ++ rest) ≡ ls ++ links_in v m rest
links_in-front v n m [] rest e h = ap (λ k. links_in v k rest) (e ∙ zero-add m)
links_in-front v zero m (l ∷ ls) rest e h = absurd (omega arith)
links_in-front v (suc n) m (l ∷ ls) rest e h =
    let more : List ℕ = flat_map (link_bytes v) ls ++ rest in
    let parts : (link_bytes v l ++ flat_map (link_bytes v) ls) ++ rest ≡ link_bytes v l ++ more =
    append_assoc (link_bytes v l) (flat_map (link_bytes v) ls) rest in
    let fewer : n ≡ length ls + m = omega arith in
    let all : All (IsWritable v) ls = λ k d less. h (suc k) d (omega arith) in
    ap (links_in v (suc n)) parts ∙ first (link_in-bytes v l more (h 0 l (omega arith))) (ap (links_in v n) (drop-link_bytes v l more) ∙ links_in-front v n m ls rest fewer all)
  where
    first : {a b : Link} {xs ys : List Link} → a ≡ b → xs ≡ ys → a ∷ xs ≡ b ∷ ys
    first p q = cc

pub length-words : (ns : List ℕ) → length (flat_map word ns) ≡ 4 * length ns
length-words [] = refl
length-words (x ∷ ns) = omega (arith, length-append (word x) (flat_map word ns), length-word x, length-words ns)

pub length-links : (v : Version) (ls : List Link) → length (flat_map (link_bytes v) ls) ≡ link_size v * length ls
length-links v [] = omega arith
length-links v (l ∷ ls) =
    omega (arith, length-append (link_bytes v l) (flat_map (link_bytes v) ls), length-link_bytes v l, length-links v ls, mul-suc (link_size v) (length ls))

-- Faults among ranks that were read.
out_of_range : (n : ℕ) (before : List ℕ) (rank : ℕ) → n ≤ rank → rank_test n before rank ≡ None → ⊥
unfolding rank_test
out_of_range n before rank more =
    subst (λ (b : Bool). fault_if b RankRange otherwise fault_if (list_any (λ r. r == rank) before) RankTwice ≡ None → ⊥) (sym (le-leb n rank more)) (λ h. absurd (cc))

-- a rank without a fault is in range
pub rank_in : (n : ℕ) (before : List ℕ) (rank : ℕ) → rank_test n before rank ≡ None → rank < n
rank_in n before rank h = elim (cases_lt rank n) [
  | inl less ↦ less
  | inr more ↦ absurd (out_of_range n before rank more h)
]

-- more ranks behind don't change a fault
pub rank_fault-front : (n k : ℕ) (ranks more : List ℕ) → k < length ranks → rank_fault n (ranks ++ more) k ≡ rank_fault n ranks k
rank_fault-front n k ranks more h =
    let front : take k (ranks ++ more) ≡ take k ranks = take-append-le k ranks more (omega arith) in
    let at : get_or (ranks ++ more) k 0 ≡ get_or ranks k 0 = get_or_append_left ranks more 0 k h in
    cc

pub rank_fault-next : (n rank : ℕ) (ranks : List ℕ) → rank_fault n (ranks ++ rank ∷ []) (length ranks) ≡ rank_test n ranks rank
rank_fault-next n rank ranks =
    let front : take (length ranks) (ranks ++ rank ∷ []) ≡ ranks = take-append_seam ranks (rank ∷ []) in
    let at : get_or (ranks ++ rank ∷ []) (length ranks) 0 ≡ rank = get_or-append_seam ranks rank [] 0 in
    cc

-- one more without a fault
pub none-push : (n rank i : ℕ) (ranks : List ℕ) → length ranks ≡ i → NoneBelow i (rank_fault n ranks) → rank_test n ranks rank ≡ None → NoneBelow (i + 1) (rank_fault n (ranks ++ rank ∷ []))
none-push n rank i ranks len before is k h = elim (cases_lt k i) [
  | inl less ↦ rank_fault-front n k ranks (rank ∷ []) (omega arith) ∙ before k less
  | inr more ↦ let here : length ranks ≡ k = omega arith in subst (λ m. rank_fault n (ranks ++ rank ∷ []) m ≡ None) here (rank_fault-next n rank ranks ∙ is)
]

-- ranks without faults fit their bytes
pub all_small : (n : ℕ) (ranks : List ℕ) → n < 2 ^ 32 → NoneBelow (length ranks) (rank_fault n ranks) → All (λ r. r < 2 ^ 32) ranks
all_small n ranks fits none k d h =
    let in_range : get_or ranks k 0 < n = rank_in n (take k ranks) (get_or ranks k 0) (none k h) in
    let same : get_or ranks k d ≡ get_or ranks k 0 = get_or_default_zero ranks k d h in
    omega arith

-- the fault of the bytes at a place of a rank
abbrev pub at_rank : ℕ → List ℕ → ℕ → Option HierError
at_rank n bytes k = cut (4 * (k + 1)) bytes otherwise rank_fault n (words_in n bytes) k

spelled : (n : ℕ) (ranks rest : List ℕ) → length ranks ≤ n → All (λ r. r < 2 ^ 32) ranks → (k : ℕ) → k < length ranks → at_rank n (flat_map word ranks ++ rest) k ≡ rank_fault n ranks k
spelled n ranks rest h fits k less =
    let bytes : List ℕ = flat_map word ranks ++ rest in
    let long : length bytes ≡ 4 * length ranks + length rest =
    length-append (flat_map word ranks) rest ∙ ap (λ m. m + length rest) (length-words ranks) in
    let whole : cut (4 * (k + 1)) bytes ≡ None = cut_none (4 * (k + 1)) bytes (omega arith) in
    let words = words_in-front n (n - length ranks) ranks rest (omega arith) fits in
    subst (λ (o : Option HierError). o otherwise rank_fault n (words_in n bytes) k ≡ rank_fault n ranks k) (sym whole)
    (ap (λ (l : List ℕ). rank_fault n l k) words ∙ rank_fault-front n k ranks (words_in (n - length ranks) rest) less)

-- these ranks have none, so neither do the bytes at their places
none_spelled : (n i : ℕ) (ranks rest : List ℕ) → length ranks ≤ n → i ≤ length ranks → All (λ r. r < 2 ^ 32) ranks → NoneBelow i (rank_fault n ranks) → NoneBelow i (at_rank n (flat_map word ranks ++ rest))
none_spelled n i ranks rest h k fits none m less = spelled n ranks rest h fits m (omega arith) ∙ none m less

-- the bytes end within the next rank
pub ranks_cut : (n : ℕ) (ranks rest : List ℕ) (e : HierError) → n < 2 ^ 32 → length ranks < n → NoneBelow (length ranks) (rank_fault n ranks) → cut 4 rest ≡ Some e → ranks_fault n (flat_map word ranks ++ rest) ≡ Some e
ranks_cut n ranks rest e fits h none is =
    let small = all_small n ranks fits none in
    let short : length (flat_map word ranks) + 4 ≤ 4 * (length ranks + 1) = omega (arith, length-words ranks) in
    first_at n (length ranks) (at_rank n (flat_map word ranks ++ rest)) h (none_spelled n (length ranks) ranks rest (omega arith) (omega arith) small none)
    (earlier _ (cut_behind (4 * (length ranks + 1)) 4 (flat_map word ranks) rest short is))

-- they end behind a rank, and more are wanted
pub ranks_so_far : (n : ℕ) (ranks : List ℕ) → n < 2 ^ 32 → length ranks < n → NoneBelow (length ranks) (rank_fault n ranks) → ranks_fault n (flat_map word ranks) ≡ Some Truncated
ranks_so_far n ranks fits h none = ap (ranks_fault n) (sym (append-nil (flat_map word ranks))) ∙ ranks_cut n ranks [] Truncated fits h none refl

-- the next rank has a fault
pub ranks_stop : (n rank : ℕ) (ranks rest : List ℕ) (e : HierError) → n < 2 ^ 32 → rank < 2 ^ 32 → length ranks < n → NoneBelow (length ranks) (rank_fault n ranks) → rank_test n ranks rank ≡ Some e
    → ranks_fault n (flat_map word (ranks ++ rank ∷ []) ++ rest) ≡ Some e
ranks_stop n rank ranks rest e fits small h none is =
    let longer : List ℕ = ranks ++ rank ∷ [] in
    let count : length longer ≡ length ranks + 1 = length-append ranks (rank ∷ []) in
    let all : All (λ r. r < 2 ^ 32) longer = All-push (λ r. r < 2 ^ 32) ranks rank (all_small n ranks fits none) small in
    let before : NoneBelow (length ranks) (rank_fault n longer) =
    λ k less. rank_fault-front n k ranks (rank ∷ []) less ∙ none k less in
    first_at n (length ranks) (at_rank n (flat_map word longer ++ rest)) h (none_spelled n (length ranks) longer rest (omega arith) (omega arith) all before)
    (spelled n longer rest (omega arith) all (length ranks) (omega arith) ∙ rank_fault-next n rank ranks ∙ is)

-- no rank has a fault
pub ranks_none : (n : ℕ) (ranks rest : List ℕ) → n < 2 ^ 32 → length ranks ≡ n → NoneBelow n (rank_fault n ranks) → ranks_fault n (flat_map word ranks ++ rest) ≡ None
ranks_none n ranks rest fits len none =
    let whole : NoneBelow (length ranks) (rank_fault n ranks) = λ k less. none k (omega arith) in
    none_below n (at_rank n (flat_map word ranks ++ rest)) (none_spelled n n ranks rest (omega arith) (omega arith) (all_small n ranks fits whole) none)

-- What the bytes of a head say.
-- the numbers of a head
abbrev pub sizes : ℕ → ℕ → ℕ → List ℕ
sizes nodes links bound = word nodes ++ long links ++ long bound

pub length-sizes : (n k b : ℕ) → length (sizes n k b) ≡ 20
unfolding word long
length-sizes n k b = refl

pub drop-sizes : (n k b : ℕ) (rest : List ℕ) → drop 20 (sizes n k b ++ rest) ≡ rest
unfolding word long
drop-sizes n k b rest = refl

pub nodes-sizes : (n k b : ℕ) (rest : List ℕ) → n < 2 ^ 32 → word_in (sizes n k b ++ rest) ≡ n
unfolding word long word_in
nodes-sizes n k b rest h = from_be_bytes-to_be_bytes_4 n h

pub links-sizes : (n k b : ℕ) (rest : List ℕ) → k < 2 ^ 64 → long_in (drop 4 (sizes n k b ++ rest)) ≡ k
unfolding word long long_in
links-sizes n k b rest h = from_be_bytes-to_be_bytes_8 k h

pub bound-sizes : (n k b : ℕ) (rest : List ℕ) → b < 2 ^ 64 → long_in (drop 12 (sizes n k b ++ rest)) ≡ b
unfolding word long long_in
bound-sizes n k b rest h = from_be_bytes-to_be_bytes_8 b h

same_sizes : {m n k l b c : ℕ} → m ≡ n → k ≡ l → b ≡ c → size_fault m k b ≡ size_fault n l c
same_sizes p q r = cc

pub head_fault-sizes : (n k b : ℕ) (rest : List ℕ) → n < 2 ^ 32 → k < 2 ^ 64 → b < 2 ^ 64 → head_fault (sizes n k b ++ rest) ≡ size_fault n k b
head_fault-sizes n k b rest fits_n fits_k fits_b =
    let whole : cut 20 (sizes n k b ++ rest) ≡ None =
    cut_none 20 (sizes n k b ++ rest) (omega (arith, length-append (sizes n k b) rest, length-sizes n k b)) in
    subst (λ (o : Option HierError). o otherwise size_fault (word_in (sizes n k b ++ rest)) (long_in (drop 4 (sizes n k b ++ rest))) (long_in (drop 12 (sizes n k b ++ rest))) ≡ size_fault n k b) (sym whole)
    (same_sizes (nodes-sizes n k b rest fits_n) (links-sizes n k b rest fits_k) (bound-sizes n k b rest fits_b))

-- a head that ends too early
pub head_cut : (n : ℕ) (front rest : List ℕ) {e : HierError} → length front + n ≤ 20 → cut n rest ≡ Some e → head_fault (front ++ rest) ≡ Some e
head_cut n front rest h is = earlier _ (cut_behind 20 n front rest h is)

-- no test of the numbers finds out of memory
pub size_no_memory : (n k b : ℕ) → size_fault n k b ≢ Some OutOfMemory
size_no_memory n k b = neither_memory _ _ (finds_no_memory _ TooBig (λ is. cc)) (finds_no_memory _ BoundTooBig (λ is. cc))
