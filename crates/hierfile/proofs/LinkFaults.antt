-- Faults among links that were read.
use Rattle.std.proofs.Common.{ℕ, zero, suc, ◌≡◌, ◌≢◌, ◌+◌, ◌-◌, ◌*◌, ◌<◌, ◌≤◌, List, [], ◌∷◌, ◌++◌, length, take, Option, None, Some, All, inl, inr, sym, refl, ap, ◌∙◌, subst, arith, append-nil, length-append}
use Rattle.std.specs.List.{flat_map, slice_get}
use Rattle.std.specs.Option.{option_and_then}
use Rattle.std.proofs.lemmas.Bool.{cases_lt}
use Rattle.std.proofs.lemmas.List.{take-append-le}
use Rattle.std.proofs.lemmas.List.Elements.{All-push}
use Rattle.std.proofs.Math.Seq.{take-append_seam}
use Rattle.ch_cost.specs.declared.cost.Cost.{Cost}
use Rattle.ch_graph.specs.declared.link.Link.{Link}
use Rattle.ch_graph.specs.declared.version.Version.{Version}
use Rattle.hierfile.specs.declared.error.HierError.{HierError}
use Rattle.hierfile.specs.declared.error.HierError.TheVariants.{OutOfMemory, Truncated, LinkEnds, LinkOrder, LinkWeight, MiddleRange, MiddleRank}
use Rattle.hierfile.specs.Spelling.{link_bytes, link_size, links_in}
use Rattle.hierfile.specs.Fault.{◌otherwise◌, cut, middle_fault, link_fault, link_fault_at, links_fault}
use Rattle.hierfile.specs.Bytes.{IsCutOrWhole, NoneBelow, IsWritable}
use Rattle.hierfile.proofs.FaultsOfParts.{earlier, first_at, none_below, cut_behind, cut_none, cut_short, finds_no_memory, neither_memory, links_in-front, length-links, one_more, at_most}

slice_get-front : (ls more : List Link) (k : ℕ) → k < length ls → slice_get (ls ++ more) k ≡ slice_get ls k
slice_get-front [] more k h = absurd (omega arith)
slice_get-front (l ∷ ls) more zero h = refl
slice_get-front (l ∷ ls) more (suc k) h = slice_get-front ls more k (omega arith)

slice_get-next : (ls : List Link) (l : Link) → slice_get (ls ++ l ∷ []) (length ls) ≡ Some l
slice_get-next [] l = refl
slice_get-next (x ∷ ls) l = slice_get-next ls l

link_fault-front : (v : Version) (ranks : List ℕ) (bound : Cost) (k : ℕ) (ls more : List Link) → k < length ls → link_fault_at v ranks bound (ls ++ more) k ≡ link_fault_at v ranks bound ls k
link_fault-front v ranks bound k ls more h =
    let front : take k (ls ++ more) ≡ take k ls = take-append-le k ls more (omega arith) in
    let at : slice_get (ls ++ more) k ≡ slice_get ls k = slice_get-front ls more k h in
    ap (λ (o : Option Link). option_and_then (link_fault v ranks bound (slice_get (take k (ls ++ more)) (k - 1))) o) at ∙ ap (λ (t : List Link). option_and_then (link_fault v ranks bound (slice_get t (k - 1))) (slice_get ls k)) front

pub link_fault-next : (v : Version) (ranks : List ℕ) (bound : Cost) (ls : List Link) (l : Link) → link_fault_at v ranks bound (ls ++ l ∷ []) (length ls) ≡ link_fault v ranks bound (slice_get ls (length ls - 1)) l
link_fault-next v ranks bound ls l =
    let k : ℕ = length ls in
    ap (λ (o : Option Link). option_and_then (link_fault v ranks bound (slice_get (take k (ls ++ l ∷ [])) (k - 1))) o) (slice_get-next ls l) ∙ ap (λ (t : List Link). link_fault v ranks bound (slice_get t (k - 1)) l) (take-append_seam ls (l ∷ []))

-- one more without a fault
pub none-push : (v : Version) (ranks : List ℕ) (bound : Cost) (l : Link) (i : ℕ) (ls : List Link) → length ls ≡ i → NoneBelow i (link_fault_at v ranks bound ls) → link_fault v ranks bound (slice_get ls (length ls - 1)) l ≡ None → NoneBelow (i + 1) (link_fault_at v ranks bound (ls ++ l ∷ []))
none-push v ranks bound l i ls len before is k h = elim (cases_lt k i) [
  | inl less ↦ link_fault-front v ranks bound k ls (l ∷ []) (omega arith) ∙ before k less
  | inr more ↦ let here : length ls ≡ k = omega arith in subst (λ m. link_fault_at v ranks bound (ls ++ l ∷ []) m ≡ None) here (link_fault-next v ranks bound ls l ∙ is)
]

-- the fault of the bytes at a place of a link
abbrev pub at_link : Version → List ℕ → Cost → ℕ → List ℕ → ℕ → Option HierError
at_link v ranks bound n bytes k = cut (link_size v * (k + 1)) bytes otherwise link_fault_at v ranks bound (links_in v n bytes) k

spelled : (v : Version) (ranks : List ℕ) (bound : Cost) (n : ℕ) (ls : List Link) (rest : List ℕ) → length ls ≤ n → All (IsWritable v) ls → (k : ℕ) → k < length ls → at_link v ranks bound n (flat_map (link_bytes v) ls ++ rest) k ≡ link_fault_at v ranks bound ls k
spelled v ranks bound n ls rest h fits k less =
    let bytes : List ℕ = flat_map (link_bytes v) ls ++ rest in
    let long : length bytes ≡ link_size v * length ls + length rest =
    length-append (flat_map (link_bytes v) ls) rest ∙ ap (λ m. m + length rest) (length-links v ls) in
    let within : link_size v * (k + 1) ≤ link_size v * length ls = at_most v (k + 1) (length ls) (omega arith) in
    let whole : cut (link_size v * (k + 1)) bytes ≡ None = cut_none (link_size v * (k + 1)) bytes (omega arith) in
    let links = links_in-front v n (n - length ls) ls rest (omega arith) fits in
    subst (λ (o : Option HierError). o otherwise link_fault_at v ranks bound (links_in v n bytes) k ≡ link_fault_at v ranks bound ls k) (sym whole)
    (ap (λ (l : List Link). link_fault_at v ranks bound l k) links ∙ link_fault-front v ranks bound k ls (links_in v (n - length ls) rest) less)

none_spelled : (v : Version) (ranks : List ℕ) (bound : Cost) (n i : ℕ) (ls : List Link) (rest : List ℕ) → length ls ≤ n → i ≤ length ls → All (IsWritable v) ls → NoneBelow i (link_fault_at v ranks bound ls)
    → NoneBelow i (at_link v ranks bound n (flat_map (link_bytes v) ls ++ rest))
none_spelled v ranks bound n i ls rest h k fits none m less = spelled v ranks bound n ls rest h fits m (omega arith) ∙ none m less

-- the bytes end within the next link
pub links_cut : (v : Version) (ranks : List ℕ) (bound : Cost) (n : ℕ) (ls : List Link) (rest : List ℕ) (e : HierError) → All (IsWritable v) ls → length ls < n → NoneBelow (length ls) (link_fault_at v ranks bound ls) → cut (link_size v) rest ≡ Some e
    → links_fault v ranks bound n (flat_map (link_bytes v) ls ++ rest) ≡ Some e
links_cut v ranks bound n ls rest e fits h none is =
    let short : length (flat_map (link_bytes v) ls) + link_size v ≤ link_size v * (length ls + 1) =
    omega (arith, length-links v ls, one_more v (length ls)) in
    first_at n (length ls) (at_link v ranks bound n (flat_map (link_bytes v) ls ++ rest)) h (none_spelled v ranks bound n (length ls) ls rest (omega arith) (omega arith) fits none)
    (earlier _ (cut_behind (link_size v * (length ls + 1)) (link_size v) (flat_map (link_bytes v) ls) rest short is))

-- the next link has a fault
pub links_stop : (v : Version) (ranks : List ℕ) (bound : Cost) (n : ℕ) (l : Link) (ls : List Link) (rest : List ℕ) (e : HierError) → All (IsWritable v) ls → IsWritable v l → length ls < n → NoneBelow (length ls) (link_fault_at v ranks bound ls)
    → link_fault v ranks bound (slice_get ls (length ls - 1)) l ≡ Some e → links_fault v ranks bound n (flat_map (link_bytes v) (ls ++ l ∷ []) ++ rest) ≡ Some e
links_stop v ranks bound n l ls rest e fits small h none is =
    let longer : List Link = ls ++ l ∷ [] in
    let count : length longer ≡ length ls + 1 = length-append ls (l ∷ []) in
    let all : All (IsWritable v) longer = All-push (IsWritable v) ls l fits small in
    let before : NoneBelow (length ls) (link_fault_at v ranks bound longer) =
    λ k less. link_fault-front v ranks bound k ls (l ∷ []) less ∙ none k less in
    first_at n (length ls) (at_link v ranks bound n (flat_map (link_bytes v) longer ++ rest)) h (none_spelled v ranks bound n (length ls) longer rest (omega arith) (omega arith) all before)
    (spelled v ranks bound n longer rest (omega arith) all (length ls) (omega arith) ∙ link_fault-next v ranks bound ls l ∙ is)

-- no link has a fault
pub links_none : (v : Version) (ranks : List ℕ) (bound : Cost) (n : ℕ) (ls : List Link) (rest : List ℕ) → All (IsWritable v) ls → length ls ≡ n → NoneBelow n (link_fault_at v ranks bound ls) → links_fault v ranks bound n (flat_map (link_bytes v) ls ++ rest) ≡ None
links_none v ranks bound n ls rest fits len none =
    none_below n (at_link v ranks bound n (flat_map (link_bytes v) ls ++ rest)) (none_spelled v ranks bound n n ls rest (omega arith) (omega arith) fits none)

-- they end behind a link
pub links_so_far : (v : Version) (ranks : List ℕ) (bound : Cost) (n i : ℕ) (ls : List Link) → All (IsWritable v) ls → length ls ≡ i → i ≤ n → NoneBelow i (link_fault_at v ranks bound ls) → IsCutOrWhole (link_size v * n) (links_fault v ranks bound n) (flat_map (link_bytes v) ls)
links_so_far v ranks bound n i ls fits len most none =
    let bytes : List ℕ = flat_map (link_bytes v) ls in
    let whole : links_fault v ranks bound n bytes ≡ links_fault v ranks bound n (bytes ++ []) =
    ap (links_fault v ranks bound n) (sym (append-nil bytes)) in
    elim (cases_lt i n) [
      | inl less ↦ inl (whole ∙ links_cut v ranks bound n ls [] Truncated fits (omega (arith, len, less)) (subst (λ m. NoneBelow m (link_fault_at v ranks bound ls)) (sym len) none) (cut_short (link_size v) [] (omega arith)))
      | inr more ↦ let all : length ls ≡ n = omega (arith, len, more, most) in
          let none : NoneBelow n (link_fault_at v ranks bound ls) =
          subst (λ m. NoneBelow m (link_fault_at v ranks bound ls)) (sym len ∙ all) none in
          inr (length-links v ls ∙ ap (λ m. link_size v * m) all, whole ∙ links_none v ranks bound n ls [] fits all none)
    ]

-- no test of a link finds out of memory
middle_no_memory : (ranks : List ℕ) (x y : ℕ) (m : Option ℕ) → middle_fault ranks x y m ≢ Some OutOfMemory
middle_no_memory ranks x y None = λ is. cc
middle_no_memory ranks x y (Some m) = neither_memory _ _ (finds_no_memory _ MiddleRange (λ is. cc)) (finds_no_memory _ MiddleRank (λ is. cc))

pub link_no_memory : (v : Version) (ranks : List ℕ) (bound : Cost) (earlier : Option Link) (l : Link) → link_fault v ranks bound earlier l ≢ Some OutOfMemory
unfolding link_fault
link_no_memory v ranks bound earlier l =
    neither_memory _ _ (neither_memory _ _ (neither_memory _ _ (finds_no_memory _ LinkEnds (λ is. cc)) (finds_no_memory _ LinkOrder (λ is. cc))) (finds_no_memory _ LinkWeight (λ is. cc)))
    (middle_no_memory ranks l.from l.to l.middle)
