use Rattle.std.proofs.Common.{ℕ, ◌≡◌, ◌-◌, ◌*◌, ◌^◌, ◌<◌, ◌≤◌, List, [], ◌++◌, length, get_or, drop, Option, None, Some, All, sym, refl, ap, ◌∙◌, subst, arith, append_assoc, append-nil, IfSome, zero, suc, ◌+◌, ◌==◌, true, false, cond, ◌∷◌, take, length-drop, ◌||◌, not, add-one, nat_lt, slice_index, if◌then◌else◌}
use Rattle.std.specs.List.{flat_map}
use Rattle.ch_cost.specs.declared.cost.Cost.{Cost}
use Rattle.ch_cost.specs.Cost.{length_of, arcs_of, of_walk, cost_of_arcs}
use Rattle.ch_cost.specs.Cost.Numbers.{of_walk-numbers, length_of-cost_of_arcs, arcs_of-cost_of_arcs, lengths-from_within, arcs-from_within, length_of-of_walk, arcs_of-of_walk}
use Rattle.ch_graph.specs.declared.link.Link.{Link}
use Rattle.ch_graph.specs.declared.version.Version.{Version}
use Rattle.ch_graph.specs.declared.version.Version.TheVariants.{One, Two}
use Rattle.ch_graph.specs.Hierarchy.{Hierarchy, IsWellMade, IsLinkWellMade, Counts, bound_arcs}
use Rattle.hierfile.specs.Spelling.{magic_of, word, word_in, long_in, version_in, link_bytes, head_bytes, bound_in, words_in, links_in, bytes_of, long, arcs_bytes, arcs_size, link_size, middle_number, middle_in, arcs_in, link_in, stem}
use Rattle.hierfile.specs.Bytes.{AreTold, IsWritable, NoneBelow}
use Rattle.hierfile.proofs.FaultsOfParts.{sizes, nodes-sizes, links-sizes, bound-sizes, drop-sizes, first_none, second_none, below_none, none_cut, at_rank}
use Rattle.hierfile.proofs.BodyFaults.{words-all, links-all, drop-words, few_enough}
use Rattle.hierfile.proofs.FaultlessIsWellMade.{drop-magic, version_in-magic, untrue, well_made, at_magic, same_head}
use Rattle.std.specs.Int.{w32, w64, from_be_bytes}
use Rattle.std.proofs.lemmas.Bool.Decides.{nat_tests}
use Rattle.std.proofs.lemmas.List.{take-append-drop, drop-drop, nil_from_length}
use Rattle.std.proofs.lemmas.List.Elements.{All-drop}
use Rattle.std.proofs.lemmas.Nat.{be_bytes_4, be_bytes_8}
use Rattle.std.proofs.Math.Nat.{mul-suc}
use Rattle.hierfile.proofs.PartAfterPart.{first_four, first_eight, four_fit, eight_fit}
use Rattle.hierfile.specs.declared.error.HierError.{HierError}
use Rattle.hierfile.specs.declared.error.HierError.TheVariants.{BadMagic, Trailing}
use Rattle.hierfile.specs.Fault.{◌otherwise◌, fault_if, cut, is_magic, magic_fault, head_fault, size_fault, rank_fault, ranks_fault, link_fault_at, links_fault, half_fault, first_along, end_fault, body_fault, first_fault}
use Rattle.hierfile.specs.Laws.{IsSpelling}
use Rattle.hierfile.proofs.LinkFaults.{at_link}

-- A well made hierarchy is determined by its bytes.
-- bounds fit eight bytes
pub bound_fits : (h : Hierarchy) → IsWellMade h → length_of h.bound < 2 ^ 57
bound_fits h made =
    let most : length_of h.bound ≤ (length h.ranks - 1) * (2 ^ 32 - 1) = subst (λ m. length_of h.bound ≤ m) (length_of-cost_of_arcs (length h.ranks - 1) (2 ^ 32 - 1)) (lengths-from_within h.bound (cost_of_arcs (length h.ranks - 1) (2 ^ 32 - 1)) made.bound) in
    omega (arith, most, made.few_nodes)

-- and their arcs four
arcs_fit : (h : Hierarchy) → IsWellMade h → arcs_of h.bound ≤ 2 ^ 25
arcs_fit h made =
    let greatest : Cost = cost_of_arcs (length h.ranks - 1) (2 ^ 32 - 1) in
    omega (arith, arcs-from_within h.bound greatest made.bound, arcs_of-cost_of_arcs (length h.ranks - 1) (2 ^ 32 - 1), made.few_nodes)

-- the bound is determined by its length
pub bound_is : (h : Hierarchy) → IsWellMade h → bound_in h.version (length h.ranks) (length_of h.bound) ≡ h.bound
bound_is h made = ap (λ (n : ℕ). of_walk (length_of h.bound) n) (sym made.bound_arcs) ∙ of_walk-numbers h.bound

middle_fits : (h : Hierarchy) (l : Link) (o : Option ℕ) → l.middle ≡ o → IsWellMade h → IsLinkWellMade h l → IfSome o (λ m. m < 2 ^ 32 - 1)
middle_fits h l None is made fine = tt
middle_fits h l (Some m) is made fine =
    let halves = fine.middle m is in
    let half : Link = halves.0 in
    let among = halves.2.first.among in
    let of_list : IsLinkWellMade h half = subst (IsLinkWellMade h) among.2 (made.links among.0 half among.1) in
    omega (arith, halves.2.first.to, of_list.to_in, made.few_nodes)

-- arcs that a version counts, and few, fit the bytes that they have in it
arcs_told : (v : Version) (l : Link) → Counts v l → arcs_of l.cost < 2 ^ 32 → AreTold v (arcs_of l.cost)
arcs_told One l counts few = counts.none
arcs_told Two l counts few = few

-- links fit their bytes
pub links_fit : (h : Hierarchy) → IsWellMade h → All (IsWritable h.version) h.links
links_fit h made k d less =
    let l : Link = get_or h.links k d in
    let fine : IsLinkWellMade h l = made.links k d less in
    record {
      from = omega (arith, fine.from_in, made.few_nodes);
      to = omega (arith, fine.to_in, made.few_nodes);
      cost = omega (arith, lengths-from_within l.cost h.bound fine.within, bound_fits h made);
      arcs = arcs_told h.version l fine.counts (omega (arith, arcs-from_within l.cost h.bound fine.within, arcs_fit h made));
      middle = middle_fits h l l.middle refl made fine;
    }

-- ranks fit theirs
pub ranks_fit : (h : Hierarchy) → IsWellMade h → All (λ r. r < 2 ^ 32) h.ranks
ranks_fit h made k d less = omega (arith, made.in_range k d less, made.few_nodes)

-- a spelling as its magic, the numbers of its head, and what follows
abbrev body : Hierarchy → List ℕ
body h = flat_map word h.ranks ++ flat_map (link_bytes h.version) h.links

abbrev numbers : Hierarchy → List ℕ
numbers h = sizes (length h.ranks) (length h.links) (length_of h.bound)

pub parts : (h : Hierarchy) → bytes_of h ≡ magic_of h.version ++ (numbers h ++ body h)
unfolding head_bytes
parts h = append_assoc (magic_of h.version ++ numbers h) (flat_map word h.ranks) (flat_map (link_bytes h.version) h.links) ∙ append_assoc (magic_of h.version) (numbers h) (body h)

version_of : (h : Hierarchy) → version_in (bytes_of h) ≡ h.version
version_of h = ap version_in (parts h) ∙ version_in-magic h.version (numbers h ++ body h)

tail_of : (h : Hierarchy) → drop 4 (bytes_of h) ≡ numbers h ++ body h
tail_of h = ap (drop 4) (parts h) ∙ drop-magic h.version (numbers h ++ body h)

nodes_of : (h : Hierarchy) → IsWellMade h → word_in (drop 4 (bytes_of h)) ≡ length h.ranks
nodes_of h made = ap word_in (tail_of h) ∙ nodes-sizes (length h.ranks) (length h.links) (length_of h.bound) (body h) (omega (arith, made.few_nodes))

count_of : (h : Hierarchy) → IsWellMade h → long_in (drop 4 (drop 4 (bytes_of h))) ≡ length h.links
count_of h made = ap (λ l. long_in (drop 4 l)) (tail_of h) ∙ links-sizes (length h.ranks) (length h.links) (length_of h.bound) (body h) (few_enough h made)

bound_of : (h : Hierarchy) → IsWellMade h → long_in (drop 12 (drop 4 (bytes_of h))) ≡ length_of h.bound
bound_of h made = ap (λ l. long_in (drop 12 l)) (tail_of h) ∙ bound-sizes (length h.ranks) (length h.links) (length_of h.bound) (body h) (omega (arith, bound_fits h made))

body_of : (h : Hierarchy) → drop 20 (drop 4 (bytes_of h)) ≡ body h
body_of h = ap (drop 20) (tail_of h) ∙ drop-sizes (length h.ranks) (length h.links) (length_of h.bound) (body h)

ranks_of : (h : Hierarchy) (n : ℕ) → IsWellMade h → length h.ranks ≡ n → words_in n (body h) ≡ h.ranks
ranks_of h n made e = words-all n h.ranks (flat_map (link_bytes h.version) h.links) e (ranks_fit h made)

links_of : (h : Hierarchy) (n k : ℕ) → IsWellMade h → length h.ranks ≡ n → length h.links ≡ k → links_in h.version k (drop (4 * n) (body h)) ≡ h.links
links_of h n k made e f =
    let links : List ℕ = flat_map (link_bytes h.version) h.links in
    ap (links_in h.version k) (drop-words n h.ranks links e ∙ sym (append-nil links)) ∙ links-all h.version k h.links [] f (links_fit h made)

abbrev made_of : Version → List ℕ → List Link → Cost → Hierarchy
made_of v r l b = record { version = v; ranks = r; links = l; bound = b }

same : (g h : Hierarchy) → g.version ≡ h.version → g.ranks ≡ h.ranks → g.links ≡ h.links → g.bound ≡ h.bound → g ≡ h
same g h v p q r =
    ap (λ (x : Version). made_of x g.ranks g.links g.bound) v ∙ ap (λ (x : List ℕ). made_of h.version x g.links g.bound) p
    ∙ ap (λ (x : List Link). made_of h.version h.ranks x g.bound) q ∙ ap (λ (x : Cost). made_of h.version h.ranks h.links x) r

pub one_spelling : (g h : Hierarchy) → IsWellMade g → IsWellMade h → bytes_of g ≡ bytes_of h → g ≡ h
one_spelling g h made_g made_h e =
    let version : g.version ≡ h.version = sym (version_of g) ∙ ap version_in e ∙ version_of h in
    let nodes : length g.ranks ≡ length h.ranks =
    sym (nodes_of g made_g) ∙ ap (λ l. word_in (drop 4 l)) e ∙ nodes_of h made_h in
    let count : length g.links ≡ length h.links =
    sym (count_of g made_g) ∙ ap (λ l. long_in (drop 4 (drop 4 l))) e ∙ count_of h made_h in
    let bodies : body g ≡ body h = sym (body_of g) ∙ ap (λ l. drop 20 (drop 4 l)) e ∙ body_of h in
    let n : ℕ = length h.ranks in
    let k : ℕ = length h.links in
    let ranks : g.ranks ≡ h.ranks = sym (ranks_of g n made_g nodes) ∙ ap (words_in n) bodies ∙ ranks_of h n made_h refl in
    let links : g.links ≡ h.links =
    sym (links_of g n k made_g nodes count) ∙ ap (λ (v : Version). links_in v k (drop (4 * n) (body g))) version ∙ ap (λ l. links_in h.version k (drop (4 * n) l)) bodies ∙ links_of h n k made_h refl refl in
    let lengths : length_of g.bound ≡ length_of h.bound =
    sym (bound_of g made_g) ∙ ap (λ l. long_in (drop 12 (drop 4 l))) e ∙ bound_of h made_h in
    let bounds : bound_in g.version (length g.ranks) (length_of g.bound) ≡ bound_in h.version n (length_of h.bound) =
    ap (λ (v : Version). bound_in v (length g.ranks) (length_of g.bound)) version ∙ ap (λ m. bound_in h.version m (length_of g.bound)) nodes ∙ ap (bound_in h.version n) lengths in
    same g h version ranks links (sym (bound_is g made_g) ∙ bounds ∙ bound_is h made_h)

-- What bytes say, spelled again, is these bytes.
abbrev pub AreBytes : List ℕ → Type 0
AreBytes bytes = All (λ b. b < 2 ^ 8) bytes

pub behind_bytes : (n : ℕ) (bytes : List ℕ) → AreBytes bytes → AreBytes (drop n bytes)
behind_bytes n bytes all = All-drop (λ b. b < 2 ^ 8) n bytes all

first_word : (bytes : List ℕ) → 4 ≤ length bytes → AreBytes bytes → word (word_in bytes) ≡ take 4 bytes
unfolding word word_in
first_word w room all =
    let at : (i : ℕ) → i < 4 → get_or w i 0 < 256 = λ i less. all i 0 (omega arith) in
    be_bytes_4 (get_or w 0 0 ∷ get_or w 1 0 ∷ get_or w 2 0 ∷ get_or w 3 0 ∷ []) (from_be_bytes w32 w) refl
    (four_fit (get_or w 0 0) (get_or w 1 0) (get_or w 2 0) (get_or w 3 0) (at 0 (omega arith)) (at 1 (omega arith)) (at 2 (omega arith)) (at 3 (omega arith))) refl
    ∙ sym (first_four w room)

first_long : (bytes : List ℕ) → 8 ≤ length bytes → AreBytes bytes → long (long_in bytes) ≡ take 8 bytes
unfolding long long_in
first_long w room all =
    let at : (i : ℕ) → i < 8 → get_or w i 0 < 256 = λ i less. all i 0 (omega arith) in
    be_bytes_8 (get_or w 0 0 ∷ get_or w 1 0 ∷ get_or w 2 0 ∷ get_or w 3 0 ∷ get_or w 4 0 ∷ get_or w 5 0 ∷ get_or w 6 0 ∷ get_or w 7 0 ∷ []) (from_be_bytes w64 w) refl
    (eight_fit (get_or w 0 0) (get_or w 1 0) (get_or w 2 0) (get_or w 3 0) (get_or w 4 0) (get_or w 5 0) (get_or w 6 0) (get_or w 7 0)
    (at 0 (omega arith)) (at 1 (omega arith)) (at 2 (omega arith)) (at 3 (omega arith)) (at 4 (omega arith)) (at 5 (omega arith)) (at 6 (omega arith)) (at 7 (omega arith))) refl
    ∙ sym (first_eight w room)

-- a number in front, before bytes that are behind it
word_front : (n : ℕ) (bytes rest : List ℕ) → n + 4 ≤ length bytes → AreBytes bytes → drop (n + 4) bytes ≡ rest → word (word_in (drop n bytes)) ++ rest ≡ drop n bytes
word_front n bytes rest room all e =
    let b : List ℕ = drop n bytes in
    let is : word (word_in b) ≡ take 4 b = first_word b (omega (arith, length-drop n bytes)) (behind_bytes n bytes all) in
    ap (λ l. l ++ rest) is ∙ ap (λ l. take 4 b ++ l) (sym e ∙ sym (drop-drop 4 n bytes)) ∙ take-append-drop 4 b

long_front : (n : ℕ) (bytes rest : List ℕ) → n + 8 ≤ length bytes → AreBytes bytes → drop (n + 8) bytes ≡ rest → long (long_in (drop n bytes)) ++ rest ≡ drop n bytes
long_front n bytes rest room all e =
    let b : List ℕ = drop n bytes in
    let is : long (long_in b) ≡ take 8 b = first_long b (omega (arith, length-drop n bytes)) (behind_bytes n bytes all) in
    ap (λ l. l ++ rest) is ∙ ap (λ l. take 8 b ++ l) (sym e ∙ sym (drop-drop 8 n bytes)) ∙ take-append-drop 8 b

three : (a b c rest : List ℕ) → ((a ++ b) ++ c) ++ rest ≡ a ++ (b ++ (c ++ rest))
three a b c rest = append_assoc (a ++ b) c rest ∙ append_assoc a b (c ++ rest)

-- the numbers of a head
pub respelled_sizes : (bytes : List ℕ) → 20 ≤ length bytes → AreBytes bytes → sizes (word_in bytes) (long_in (drop 4 bytes)) (long_in (drop 12 bytes)) ++ drop 20 bytes ≡ bytes
respelled_sizes bytes room all =
    let a : List ℕ = word (word_in bytes) in
    let b : List ℕ = long (long_in (drop 4 bytes)) in
    three a b (long (long_in (drop 12 bytes))) (drop 20 bytes)
    ∙ ap (λ l. a ++ (b ++ l)) (long_front 12 bytes (drop 20 bytes) (omega arith) all refl)
    ∙ ap (λ l. a ++ l) (long_front 4 bytes (drop 12 bytes) (omega arith) all refl)
    ∙ word_front 0 bytes (drop 4 bytes) (omega arith) all refl

number_in-middle : (m : ℕ) → middle_number (middle_in m) ≡ m
number_in-middle m =
    elim (m == 2 ^ 32 - 1) as (λ b. (m == 2 ^ 32 - 1) ≡ b → middle_number (cond b None (Some m)) ≡ m) [
      | true ↦ λ is. same m is
      | false ↦ λ is. refl
    ] refl
  where
    same : (m : ℕ) → (m == 2 ^ 32 - 1) ≡ true → 2 ^ 32 - 1 ≡ m
    same m is = grind (arith, nat_tests)

four : (a b c d rest : List ℕ) → (((a ++ b) ++ c) ++ d) ++ rest ≡ a ++ (b ++ (c ++ (d ++ rest)))
four a b c d rest = append_assoc ((a ++ b) ++ c) d rest ∙ three a b c (d ++ rest)

-- the arcs of a link
arcs_front : (v : Version) (bytes : List ℕ) → link_size v ≤ length bytes → AreBytes bytes → arcs_bytes v (arcs_in v (drop 16 bytes)) ++ drop (16 + arcs_size v) bytes ≡ drop 16 bytes
arcs_front One bytes room all = refl
arcs_front Two bytes room all = word_front 16 bytes (drop 20 bytes) (omega arith) all refl

-- a link
respelled_link : (v : Version) (bytes : List ℕ) → link_size v ≤ length bytes → AreBytes bytes → link_bytes v (link_in v bytes) ++ drop (link_size v) bytes ≡ bytes
unfolding link_bytes link_in
respelled_link v bytes room all =
    let behind : List ℕ = drop (link_size v) bytes in
    let at : ℕ = 16 + arcs_size v in
    let a : List ℕ = word (word_in bytes) in
    let b : List ℕ = word (word_in (drop 4 bytes)) in
    let c : List ℕ = long (long_in (drop 8 bytes)) in
    let d : List ℕ = arcs_bytes v (arcs_in v (drop 16 bytes)) in
    let cost : Cost = of_walk (long_in (drop 8 bytes)) (arcs_in v (drop 16 bytes)) in
    let end : List ℕ = word (middle_number (middle_in (word_in (drop at bytes)))) in
    let length : long (length_of cost) ≡ c =
    ap long (length_of-of_walk (long_in (drop 8 bytes)) (arcs_in v (drop 16 bytes))) in
    let arcs : arcs_bytes v (arcs_of cost) ≡ d =
    ap (arcs_bytes v) (arcs_of-of_walk (long_in (drop 8 bytes)) (arcs_in v (drop 16 bytes))) in
    let middle : end ≡ word (word_in (drop at bytes)) = ap word (number_in-middle (word_in (drop at bytes))) in
    let last : drop (at + 4) bytes ≡ behind = let whole : at + 4 ≡ link_size v = omega arith in ap (λ n. drop n bytes) whole in
    ap (λ l. ((((a ++ b) ++ l) ++ arcs_bytes v (arcs_of cost)) ++ end) ++ behind) length
    ∙ ap (λ l. ((((a ++ b) ++ c) ++ l) ++ end) ++ behind) arcs
    ∙ ap (λ l. ((((a ++ b) ++ c) ++ d) ++ l) ++ behind) middle
    ∙ append_assoc (((a ++ b) ++ c) ++ d) (word (word_in (drop at bytes))) behind
    ∙ ap (λ l. (((a ++ b) ++ c) ++ d) ++ l) (word_front at bytes behind (omega arith) all last)
    ∙ four a b c d (drop at bytes)
    ∙ ap (λ l. a ++ (b ++ (c ++ l))) (arcs_front v bytes room all)
    ∙ ap (λ l. a ++ (b ++ l)) (long_front 8 bytes (drop 16 bytes) (omega arith) all refl)
    ∙ ap (λ l. a ++ l) (word_front 4 bytes (drop 8 bytes) (omega arith) all refl)
    ∙ word_front 0 bytes (drop 4 bytes) (omega arith) all refl

-- Lists of them

pub length-words_in : (n : ℕ) (bytes : List ℕ) → length (words_in n bytes) ≡ n
length-words_in zero bytes = refl
length-words_in (suc n) bytes = omega (arith, length-words_in n (drop 4 bytes))

pub length-links_in : (v : Version) (n : ℕ) (bytes : List ℕ) → length (links_in v n bytes) ≡ n
length-links_in v zero bytes = refl
length-links_in v (suc n) bytes = omega (arith, length-links_in v n (drop (link_size v) bytes))

behind : (m n total : ℕ) (bytes : List ℕ) → total ≡ m + n → drop total bytes ≡ drop n (drop m bytes)
behind m n total bytes e = ap (λ k. drop k bytes) e ∙ sym (drop-drop n m bytes)

pub respelled_words : (n : ℕ) (bytes : List ℕ) → 4 * n ≤ length bytes → AreBytes bytes → flat_map word (words_in n bytes) ++ drop (4 * n) bytes ≡ bytes
respelled_words zero bytes room all = refl
respelled_words (suc n) bytes room all =
    let w : List ℕ = word (word_in bytes) in
    let more : List ℕ = drop 4 bytes in
    let words : List ℕ = flat_map word (words_in n more) in
    append_assoc w words (drop (4 * suc n) bytes)
    ∙ ap (λ l. w ++ (words ++ l)) (behind 4 (4 * n) (4 * suc n) bytes (omega arith))
    ∙ ap (λ l. w ++ l) (respelled_words n more (omega (arith, length-drop 4 bytes)) (behind_bytes 4 bytes all))
    ∙ word_front 0 bytes more (omega arith) all refl

pub respelled_links : (v : Version) (n : ℕ) (bytes : List ℕ) → link_size v * n ≤ length bytes → AreBytes bytes → flat_map (link_bytes v) (links_in v n bytes) ++ drop (link_size v * n) bytes ≡ bytes
respelled_links v zero bytes room all = let none : link_size v * 0 ≡ 0 = omega arith in ap (λ n. drop n bytes) none
respelled_links v (suc n) bytes room all =
    let size : ℕ = link_size v in
    let l : List ℕ = link_bytes v (link_in v bytes) in
    let more : List ℕ = drop size bytes in
    let links : List ℕ = flat_map (link_bytes v) (links_in v n more) in
    let whole : size * suc n ≡ size + size * n = omega (arith, mul-suc size n) in
    append_assoc l links (drop (size * suc n) bytes)
    ∙ ap (λ r. l ++ (links ++ r)) (behind size (size * n) (size * suc n) bytes whole)
    ∙ ap (λ r. l ++ r) (respelled_links v n more (omega (arith, whole, length-drop size bytes)) (behind_bytes size bytes all))
    ∙ respelled_link v bytes (omega (arith, whole)) all

-- Bytes without a fault spell a well made hierarchy.
-- The magic

-- each byte is that of some magic
byte_of_magic : (bytes : List ℕ) (k : ℕ) → k < 4 → magic_fault bytes ≡ None → not (is_magic k (slice_index bytes k)) ≡ false
byte_of_magic bytes k less none =
    let here : at_magic bytes k ≡ None = below_none 4 (at_magic bytes) none k less in
    untrue _ BadMagic (second_none (cut (k + 1) bytes) (fault_if (not (is_magic k (slice_index bytes k))) BadMagic) here)

-- where the magics have the same byte it is this one, and else one of both
same_byte : (a b : ℕ) → not (a == b || a == b) ≡ false → a ≡ b
same_byte a b h = grind (arith, nat_tests)

other_byte : (a b c : ℕ) → not (a == b || a == c) ≡ false → (a == b) ≡ false → a ≡ c
other_byte a b c h other = grind (arith, nat_tests)

equal_byte : (a b : ℕ) → (a == b) ≡ true → a ≡ b
equal_byte a b h = grind (arith, nat_tests)

-- the last byte is that of the version that it names
last_byte : (a : ℕ) → not (is_magic 3 a) ≡ false → a ≡ slice_index (magic_of (if a == slice_index (magic_of One) 3 then One else Two)) 3
last_byte a h =
    elim (a == slice_index (magic_of One) 3) as (λ b. (a == slice_index (magic_of One) 3) ≡ b → a ≡ slice_index (magic_of (if b then One else Two)) 3) [
      | true ↦ λ is. equal_byte a (slice_index (magic_of One) 3) is
      | false ↦ λ is. other_byte a (slice_index (magic_of One) 3) (slice_index (magic_of Two) 3) h is
    ] refl

four_bytes : (bytes : List ℕ) → magic_fault bytes ≡ None → 4 ≤ length bytes
four_bytes bytes none =
    let here : at_magic bytes 3 ≡ None = below_none 4 (at_magic bytes) none 3 (omega arith) in
    none_cut 4 bytes (first_none (cut 4 bytes) (fault_if (not (is_magic 3 (slice_index bytes 3))) BadMagic) here)

-- the magic of a version, by its bytes
bytes_of_magic : (v : Version) → stem ++ slice_index (magic_of v) 3 ∷ [] ≡ magic_of v
bytes_of_magic One = refl
bytes_of_magic Two = refl

same_four : {a b c d e f g h : ℕ} → a ≡ e → b ≡ f → c ≡ g → d ≡ h → a ∷ b ∷ c ∷ d ∷ [] ≡ e ∷ f ∷ g ∷ h ∷ []
same_four p q r s = cc

begins : (bytes : List ℕ) → magic_fault bytes ≡ None → magic_of (version_in bytes) ++ drop 4 bytes ≡ bytes
begins bytes none =
    let byte : (k : ℕ) → k < 4 → not (is_magic k (slice_index bytes k)) ≡ false =
    λ k less. byte_of_magic bytes k less none in
    let first : (k : ℕ) → ℕ = slice_index stem in
    let four : take 4 bytes ≡ magic_of (version_in bytes) =
    first_four bytes (four_bytes bytes none)
    ∙ same_four (same_byte (slice_index bytes 0) (first 0) (byte 0 (omega arith))) (same_byte (slice_index bytes 1) (first 1) (byte 1 (omega arith))) (same_byte (slice_index bytes 2) (first 2) (byte 2 (omega arith))) (last_byte (slice_index bytes 3) (byte 3 (omega arith)))
    ∙ bytes_of_magic (version_in bytes) in
    ap (λ l. l ++ drop 4 bytes) (sym four) ∙ take-append-drop 4 bytes

-- Ranks and links

module _ (n : ℕ) (bytes : List ℕ) (none : ranks_fault n bytes ≡ None) where
  rank_at : NoneBelow n (at_rank n bytes)
  rank_at = below_none n (at_rank n bytes) none

  pub no_rank : NoneBelow n (rank_fault n (words_in n bytes))
  no_rank k less = second_none (cut (4 * (k + 1)) bytes) (rank_fault n (words_in n bytes) k) (rank_at k less)

  cut_at_rank : (k : ℕ) → k < n → 4 * (k + 1) ≤ length bytes
  cut_at_rank k less = none_cut (4 * (k + 1)) bytes (first_none (cut (4 * (k + 1)) bytes) (rank_fault n (words_in n bytes) k) (rank_at k less))

module _ (v : Version) (ranks : List ℕ) (bound : Cost) (n : ℕ) (bytes : List ℕ) (none : links_fault v ranks bound n bytes ≡ None) where
  link_at : NoneBelow n (at_link v ranks bound n bytes)
  link_at = below_none n (at_link v ranks bound n bytes) none

  pub no_link : NoneBelow n (link_fault_at v ranks bound (links_in v n bytes))
  no_link k less = second_none (cut (link_size v * (k + 1)) bytes) (link_fault_at v ranks bound (links_in v n bytes) k) (link_at k less)

  cut_at_link : (k : ℕ) → k < n → link_size v * (k + 1) ≤ length bytes
  cut_at_link k less = none_cut (link_size v * (k + 1)) bytes (first_none (cut (link_size v * (k + 1)) bytes) (link_fault_at v ranks bound (links_in v n bytes) k) (link_at k less))

-- the last of them is there, so all are
all_words : (n : ℕ) (bytes : List ℕ) → ((k : ℕ) → k < n → 4 * (k + 1) ≤ length bytes) → 4 * n ≤ length bytes
all_words zero bytes each = omega arith
all_words (suc n) bytes each = omega (arith, each n (omega arith))

all_links : (v : Version) (n : ℕ) (bytes : List ℕ) → ((k : ℕ) → k < n → link_size v * (k + 1) ≤ length bytes) → link_size v * n ≤ length bytes
all_links v zero bytes each = omega arith
all_links v (suc n) bytes each = subst (λ m. link_size v * m ≤ length bytes) (add-one n) (each n (omega arith))

ends : (bytes : List ℕ) → end_fault bytes ≡ None → bytes ≡ []
ends bytes none = nil_from_length bytes (no_more (length bytes) (untrue _ Trailing none))
  where
    no_more : (n : ℕ) → nat_lt 0 n ≡ false → n ≡ 0
    no_more n h = grind (arith, nat_tests)

-- The whole

-- bytes behind a head, whose parts have no fault
record AreFaultless (v : Version) (n k b : ℕ) (bytes : List ℕ) : Type 0 where
  sizes : size_fault n k b ≡ None
  ranks : ranks_fault n bytes ≡ None
  links : links_fault v (words_in n bytes) (bound_in v n b) k (drop (4 * n) bytes) ≡ None
  halves : first_along (half_fault (links_in v k (drop (4 * n) bytes))) (links_in v k (drop (4 * n) bytes)) ≡ None
  end : end_fault (drop (link_size v * k) (drop (4 * n) bytes)) ≡ None

faultless_body : (v : Version) (n k b : ℕ) (bytes : List ℕ) → size_fault n k b ≡ None → body_fault v n k b bytes ≡ None → AreFaultless v n k b bytes
unfolding body_fault
faultless_body v n k b bytes sizes none =
    let rest : List ℕ = drop (4 * n) bytes in
    let ranks : Option HierError = ranks_fault n bytes in
    let links : Option HierError = links_fault v (words_in n bytes) (bound_in v n b) k rest in
    let halves : Option HierError = first_along (half_fault (links_in v k rest)) (links_in v k rest) in
    let end : Option HierError = end_fault (drop (link_size v * k) rest) in
    let three : ranks otherwise links otherwise halves ≡ None =
    first_none (ranks otherwise links otherwise halves) end none in
    let two : ranks otherwise links ≡ None = first_none (ranks otherwise links) halves three in
    record { sizes = sizes; ranks = first_none ranks links two; links = second_none ranks links two; halves = second_none (ranks otherwise links) halves three; end = second_none (ranks otherwise links otherwise halves) end none }

-- the hierarchy that bytes of this many nodes and links say
said : Version → ℕ → ℕ → ℕ → List ℕ → Hierarchy
said v n k b bytes = record { version = v; ranks = words_in n bytes; links = links_in v k (drop (4 * n) bytes); bound = bound_in v n b }

said_well : (v : Version) (n k b : ℕ) (bytes : List ℕ) → AreFaultless v n k b bytes → IsWellMade (said v n k b bytes)
unfolding said
said_well v n k b bytes is =
    let rest : List ℕ = drop (4 * n) bytes in
    well_made v n k b (words_in n bytes) (links_in v k rest) is.sizes (length-words_in n bytes) (no_rank n bytes is.ranks) (length-links_in v k rest) (no_link v (words_in n bytes) (bound_in v n b) k rest is.links) is.halves

-- its ranks and links are spelled by the bytes
said_body : (v : Version) (n k b : ℕ) (bytes : List ℕ) → AreBytes bytes → AreFaultless v n k b bytes → flat_map word (said v n k b bytes).ranks ++ flat_map (link_bytes v) (said v n k b bytes).links ≡ bytes
unfolding said
said_body v n k b bytes all is =
    let rest : List ℕ = drop (4 * n) bytes in
    let ranks : List ℕ = flat_map word (words_in n bytes) in
    let links : List ℕ = flat_map (link_bytes v) (links_in v k rest) in
    let words_room : 4 * n ≤ length bytes = all_words n bytes (cut_at_rank n bytes is.ranks) in
    let links_room : link_size v * k ≤ length rest =
    all_links v k rest (cut_at_link v (words_in n bytes) (bound_in v n b) k rest is.links) in
    let whole_links : links ≡ rest = sym (append-nil links) ∙ ap (λ l. links ++ l) (sym (ends (drop (link_size v * k) rest) is.end)) ∙ respelled_links v k rest links_room (behind_bytes (4 * n) bytes all) in
    ap (λ l. ranks ++ l) whole_links ∙ respelled_words n bytes words_room all

said_sizes : (v : Version) (n k b : ℕ) (bytes : List ℕ) → sizes (length (said v n k b bytes).ranks) (length (said v n k b bytes).links) (length_of (said v n k b bytes).bound) ≡ sizes n k b
unfolding said
said_sizes v n k b bytes = same_head (length-words_in n bytes) (length-links_in v k (drop (4 * n) bytes)) (length_of-of_walk b (bound_arcs v n))

-- its spelling as the magic, the numbers of the head, and what follows
said_parts : (v : Version) (n k b : ℕ) (bytes : List ℕ)
    → bytes_of (said v n k b bytes) ≡ magic_of v ++ (sizes (length (said v n k b bytes).ranks) (length (said v n k b bytes).links) (length_of (said v n k b bytes).bound) ++ (flat_map word (said v n k b bytes).ranks ++ flat_map (link_bytes v) (said v n k b bytes).links))
unfolding said
said_parts v n k b bytes = parts (said v n k b bytes)

spelled : (v : Version) (n k b : ℕ) (head bytes rest : List ℕ) → magic_of v ++ head ≡ bytes → sizes n k b ++ rest ≡ head → AreBytes rest → AreFaultless v n k b rest → bytes ≡ bytes_of (said v n k b rest)
spelled v n k b head bytes rest begin numbers all is =
    let h : Hierarchy = said v n k b rest in
    sym begin ∙ ap (λ l. magic_of v ++ l) (sym numbers)
    ∙ ap (λ l. magic_of v ++ (l ++ rest)) (sym (said_sizes v n k b rest))
    ∙ ap (λ l. magic_of v ++ (sizes (length h.ranks) (length h.links) (length_of h.bound) ++ l)) (sym (said_body v n k b rest all is))
    ∙ sym (said_parts v n k b rest)

pub is_spelling : (bytes : List ℕ) → All (λ b. b < 2 ^ 8) bytes → first_fault bytes ≡ None → IsSpelling bytes
unfolding first_fault
is_spelling bytes all none =
    let v : Version = version_in bytes in
    let head : List ℕ = drop 4 bytes in
    let n : ℕ = word_in head in
    let k : ℕ = long_in (drop 4 head) in
    let b : ℕ = long_in (drop 12 head) in
    let rest : List ℕ = drop 20 head in
    let two : magic_fault bytes otherwise head_fault head ≡ None =
    first_none (magic_fault bytes otherwise head_fault head) (body_fault v n k b rest) none in
    let first : magic_fault bytes ≡ None = first_none (magic_fault bytes) (head_fault head) two in
    let second : head_fault head ≡ None = second_none (magic_fault bytes) (head_fault head) two in
    let room : 20 ≤ length head = none_cut 20 head (first_none (cut 20 head) (size_fault n k b) second) in
    let of_head : AreBytes head = behind_bytes 4 bytes all in
    let is : AreFaultless v n k b rest = faultless_body v n k b rest (second_none (cut 20 head) (size_fault n k b) second) (second_none (magic_fault bytes otherwise head_fault head) (body_fault v n k b rest) none) in
    (said v n k b rest, said_well v n k b rest is, spelled v n k b head bytes rest (begins bytes first) (respelled_sizes head room of_head) (behind_bytes 20 head of_head) is)
