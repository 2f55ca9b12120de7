use Rattle.std.proofs.Common.{ℕ, ◌≡◌, ◌*◌, ◌^◌, ◌<◌, List, [], ◌++◌, length, drop, Option, None, Some, All, inl, inr, subst, sym, refl, ap, ◌∙◌, arith, append_assoc, append-nil, nat_lt, zero, suc, ◌≢◌, ◌+◌, ◌-◌, ◌≤◌, ◌∷◌, get_or, AllPairs, min}
use Rattle.std.specs.List.{flat_map}
use Rattle.std.proofs.lemmas.List.{length-drop}
use Rattle.std.proofs.Math.Seq.{drop-append_seam}
use Rattle.ch_graph.specs.declared.link.Link.{Link}
use Rattle.ch_graph.specs.declared.version.Version.{Version}
use Rattle.hierfile.specs.declared.error.HierError.{HierError}
use Rattle.hierfile.specs.declared.error.HierError.TheVariants.{Trailing}
use Rattle.hierfile.specs.Spelling.{word, link_bytes, link_size, bound_in, words_in, links_in}
use Rattle.hierfile.specs.Fault.{◌otherwise◌, fault_if, rank_fault, ranks_fault, link_fault_at, links_fault, half_fault, first_along, end_fault, body_fault}
use Rattle.hierfile.specs.Bytes.{HasNoneButHalves, IsCutOrWhole, NoneBelow, IsWritable}
use Rattle.hierfile.proofs.FaultsOfParts.{earlier, words_in-front, links_in-front, length-words, length-links, ranks_none, all_small}
use Rattle.hierfile.proofs.FaultlessIsWellMade.{IsOfHalves, along_halves, but_halves, either_of_halves}
use Rattle.hierfile.proofs.LinkFaults.{links_none}
use Rattle.std.proofs.lemmas.Nat.{mul-le}
use Rattle.ch_graph.specs.Hierarchy.{Hierarchy, IsWellMade, ComesBefore}

-- The faults of what follows a head.
-- a fault of the ranks
pub body_ranks : (v : Version) (n k b : ℕ) (bytes : List ℕ) {e : HierError} → ranks_fault n bytes ≡ Some e → body_fault v n k b bytes ≡ Some e
unfolding body_fault
body_ranks v n k b bytes h = earlier _ (earlier _ (earlier _ h))

pub drop-words : (n : ℕ) (ranks rest : List ℕ) → length ranks ≡ n → drop (4 * n) (flat_map word ranks ++ rest) ≡ rest
drop-words n ranks rest len = ap (λ m. drop m (flat_map word ranks ++ rest)) (ap (λ m. 4 * m) (sym len) ∙ sym (length-words ranks)) ∙ drop-append_seam (flat_map word ranks) rest

drop-links : (v : Version) (k : ℕ) (links : List Link) (rest : List ℕ) → length links ≡ k → drop (link_size v * k) (flat_map (link_bytes v) links ++ rest) ≡ rest
drop-links v k links rest len = ap (λ m. drop m (flat_map (link_bytes v) links ++ rest)) (ap (λ m. link_size v * m) (sym len) ∙ sym (length-links v links)) ∙ drop-append_seam (flat_map (link_bytes v) links) rest

pub words-all : (n : ℕ) (ranks rest : List ℕ) → length ranks ≡ n → All (λ r. r < 2 ^ 32) ranks → words_in n (flat_map word ranks ++ rest) ≡ ranks
words-all n ranks rest len small = words_in-front n 0 ranks rest (omega arith) small ∙ append-nil ranks

pub links-all : (v : Version) (k : ℕ) (links : List Link) (rest : List ℕ) → length links ≡ k → All (IsWritable v) links → links_in v k (flat_map (link_bytes v) links ++ rest) ≡ links
links-all v k links rest len fits = links_in-front v k 0 links rest (omega arith) fits ∙ append-nil links

-- what is left of a body's fault where its ranks have none
after_ranks : Version → ℕ → ℕ → ℕ → List ℕ → List ℕ → Option HierError
after_ranks v n k b ranks rest = links_fault v ranks (bound_in v n b) k rest otherwise first_along (half_fault (links_in v k rest)) (links_in v k rest) otherwise end_fault (drop (link_size v * k) rest)

body_after_ranks : (v : Version) (n k b : ℕ) (ranks rest : List ℕ) → n < 2 ^ 32 → length ranks ≡ n → NoneBelow n (rank_fault n ranks) → body_fault v n k b (flat_map word ranks ++ rest) ≡ after_ranks v n k b ranks rest
unfolding body_fault after_ranks
body_after_ranks v n k b ranks rest fits len none =
    let bytes : List ℕ = flat_map word ranks ++ rest in
    let small : All (λ r. r < 2 ^ 32) ranks = all_small n ranks fits (λ i less. none i (omega arith)) in
    rw (ranks_none n ranks rest fits len none, drop-words n ranks rest len, words-all n ranks rest len small) refl

-- a fault of the links
pub body_links : (v : Version) (n k b : ℕ) (ranks rest : List ℕ) {e : HierError} → n < 2 ^ 32 → length ranks ≡ n → NoneBelow n (rank_fault n ranks) → links_fault v ranks (bound_in v n b) k rest ≡ Some e
    → body_fault v n k b (flat_map word ranks ++ rest) ≡ Some e
unfolding after_ranks
body_links v n k b ranks rest fits len none is = body_after_ranks v n k b ranks rest fits len none ∙ earlier _ (earlier _ is)

pub body_after_links : (v : Version) (n k b : ℕ) (ranks : List ℕ) (links : List Link) (rest : List ℕ) → n < 2 ^ 32 → length ranks ≡ n → NoneBelow n (rank_fault n ranks)
    → length links ≡ k → All (IsWritable v) links → NoneBelow k (link_fault_at v ranks (bound_in v n b) links)
    → body_fault v n k b ((flat_map word ranks ++ flat_map (link_bytes v) links) ++ rest) ≡ first_along (half_fault links) links otherwise end_fault rest
unfolding after_ranks
body_after_links v n k b ranks links rest fits len none count writable links_ok =
    let bytes : List ℕ = flat_map (link_bytes v) links ++ rest in
    ap (body_fault v n k b) (append_assoc (flat_map word ranks) (flat_map (link_bytes v) links) rest) ∙ body_after_ranks v n k b ranks bytes fits len none
    ∙ rw (links_none v ranks (bound_in v n b) k links rest writable count links_ok, drop-links v k links rest count, links-all v k links rest count writable) refl

-- the ranks and the links have no fault, and nothing follows them
pub body_so_far : (v : Version) (n k b : ℕ) (ranks : List ℕ) (links : List Link) → n < 2 ^ 32 → length ranks ≡ n → NoneBelow n (rank_fault n ranks)
    → length links ≡ k → All (IsWritable v) links → NoneBelow k (link_fault_at v ranks (bound_in v n b) links)
    → HasNoneButHalves (body_fault v n k b) (flat_map word ranks ++ flat_map (link_bytes v) links)
body_so_far v n k b ranks links fits len none count writable links_ok =
    let bytes : List ℕ = flat_map word ranks ++ flat_map (link_bytes v) links in
    let is = ap (body_fault v n k b) (sym (append-nil bytes)) ∙ body_after_links v n k b ranks links [] fits len none count writable links_ok in
    but_halves (body_fault v n k b) bytes (subst IsOfHalves (sym is) (either_of_halves (first_along (half_fault links) links) (end_fault []) (along_halves links links) (inl refl)))

-- the same by the fault of the links
body_whole : (v : Version) (n k b : ℕ) (ranks rest : List ℕ) → n < 2 ^ 32 → length ranks ≡ n → NoneBelow n (rank_fault n ranks) → length rest ≡ link_size v * k → links_fault v ranks (bound_in v n b) k rest ≡ None
    → IsOfHalves (body_fault v n k b (flat_map word ranks ++ rest))
unfolding after_ranks
body_whole v n k b ranks rest fits len none size links_ok =
    let links : List Link = links_in v k rest in
    let left : length (drop (link_size v * k) rest) ≡ 0 = omega (arith, length-drop (link_size v * k) rest, size) in
    let end : end_fault (drop (link_size v * k) rest) ≡ None = ap (λ m. fault_if (nat_lt 0 m) Trailing) left in
    subst IsOfHalves (sym (body_after_ranks v n k b ranks rest fits len none))
    (either_of_halves _ (end_fault (drop (link_size v * k) rest)) (either_of_halves (links_fault v ranks (bound_in v n b) k rest) (first_along (half_fault links) links) (inl links_ok) (along_halves links links)) (inl end))

pub body_tested : (v : Version) (n k b : ℕ) (ranks rest : List ℕ) → n < 2 ^ 32 → length ranks ≡ n → NoneBelow n (rank_fault n ranks) → IsCutOrWhole (link_size v * k) (links_fault v ranks (bound_in v n b) k) rest
    → HasNoneButHalves (body_fault v n k b) (flat_map word ranks ++ rest)
body_tested v n k b ranks rest fits len none (inl cut) = inl (inl (body_links v n k b ranks rest fits len none cut))
body_tested v n k b ranks rest fits len none (inr whole) = but_halves (body_fault v n k b) (flat_map word ranks ++ rest) (body_whole v n k b ranks rest fits len none whole.0 whole.1)

-- Links in rising order are at most one for each pair of different nodes.
-- the place of a node among those other than x
slot : ℕ → ℕ → ℕ
slot x y = y - min 1 (y - x)

slot-low : (m x y : ℕ) → x ≤ m → y ≤ m → x ≢ y → slot x y < m
unfolding slot
slot-low m x y h k apart = omega arith

slot-rises : (x y z : ℕ) → x ≢ y → x ≢ z → y < z → slot x y < slot x z
unfolding slot
slot-rises x y z apart other less = omega arith

-- the place of a link among those that may be, where each node has this many others
place : ℕ → Link → ℕ
place m l = l.from * m + slot l.from l.to

row : (m a b p : ℕ) → a < b → p < m → a * m + p < b * m
row m a b p h less =
    let rows : (a + 1) * m ≤ b * m = mul-le (a + 1) m b m (omega arith) (omega arith) in
    omega arith

-- a link between two different nodes of the first m + 1
record IsBetween (m : ℕ) (l : Link) : Type 0 where
  from_in : l.from ≤ m
  to_in : l.to ≤ m
  apart : l.from ≢ l.to

place-low : (m : ℕ) (l : Link) → IsBetween m l → place m l < (m + 1) * m
unfolding place
place-low m l is = row m l.from (m + 1) (slot l.from l.to) (omega (arith, is.from_in)) (slot-low m l.from l.to is.from_in is.to_in is.apart)

same_row : (m x y a b : ℕ) → x ≡ a → x ≢ y → a ≢ b → y < b → x * m + slot x y < a * m + slot a b
same_row m x y a b e apart other less = rw (e) (omega (arith, slot-rises a y b (λ s. apart (omega arith)) other less))

place-rises : (m : ℕ) (l r : Link) → IsBetween m l → IsBetween m r → ComesBefore l r → place m l < place m r
unfolding place
place-rises m l r is are before = elim before [
  | inl less ↦ omega (arith, row m l.from r.from (slot l.from l.to) less (slot-low m l.from l.to is.from_in is.to_in is.apart))
  | inr same ↦ same_row m l.from l.to r.from r.to same.0 is.apart are.apart same.1
]

-- each link's place is at least its index
place-at : (m : ℕ) (ls : List Link) → AllPairs ComesBefore ls → All (IsBetween m) ls → (k : ℕ) (d : Link) → k < length ls → k ≤ place m (get_or ls k d)
place-at m ls sorted all zero d less = omega arith
place-at m ls sorted all (suc k) d less =
    omega (arith, place-at m ls sorted all k d (omega arith), place-rises m (get_or ls k d) (get_or ls (suc k) d) (all k d (omega arith)) (all (suc k) d less) (sorted k (suc k) d (omega arith) less))

few_between : (m : ℕ) (ls : List Link) → AllPairs ComesBefore ls → All (IsBetween m) ls → length ls ≤ (m + 1) * m
few_between m [] sorted all = omega arith
few_between m (l ∷ ls) sorted all =
    omega (arith, place-at m (l ∷ ls) sorted all (length ls) l (omega arith), place-low m (get_or (l ∷ ls) (length ls) l) (all (length ls) l (omega arith)))

between : (h : Hierarchy) (m : ℕ) → IsWellMade h → length h.ranks ≡ m + 1 → All (IsBetween m) h.links
between h m made e k d less =
    let fine = made.links k d less in
    record { from_in = omega (arith, fine.from_in); to_in = omega (arith, fine.to_in); apart = fine.apart }

none_at_all : (h : Hierarchy) → IsWellMade h → length h.ranks ≡ 0 → (ls : List Link) → All (λ l. l.from < length h.ranks) ls → length ls ≡ 0
none_at_all h made e [] all = omega arith
none_at_all h made e (l ∷ ls) all = absurd (omega (arith, all 0 l (omega arith)))

few_for : (h : Hierarchy) (n : ℕ) → IsWellMade h → length h.ranks ≡ n → length h.links ≤ n * (n - 1)
few_for h zero made e = omega (arith, none_at_all h made e h.links (λ k d less. (made.links k d less).from_in))
few_for h (suc m) made e =
    let few : length h.links ≤ (m + 1) * m = few_between m h.links made.sorted (between h m made (omega arith)) in
    let rows : (m + 1) * m ≤ suc m * (suc m - 1) = mul-le (m + 1) m (suc m) (suc m - 1) (omega arith) (omega arith) in
    omega arith

-- a well made hierarchy has at most one link for each pair of different nodes
pub few_links : (h : Hierarchy) → IsWellMade h → length h.links ≤ length h.ranks * (length h.ranks - 1)
few_links h made = few_for h (length h.ranks) made (omega arith)

-- and eight bytes hold how many there are
pub few_enough : (h : Hierarchy) → IsWellMade h → length h.links < 2 ^ 64
few_enough h made =
    let few : length h.links ≤ length h.ranks * (length h.ranks - 1) = few_links h made in
    let most : length h.ranks * (length h.ranks - 1) ≤ 2 ^ 25 * 2 ^ 25 =
    mul-le (length h.ranks) (length h.ranks - 1) (2 ^ 25) (2 ^ 25) made.few_nodes (omega (arith, made.few_nodes)) in
    omega arith
