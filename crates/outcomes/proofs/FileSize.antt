-- The size of a hierarchy's file, and where the text of what it has breaks off.
use Rattle.std.proofs.Common.{ℕ, ◌≡◌, ◌+◌, ◌*◌, List, [], ◌∷◌, ◌++◌, length, refl, sym, ap, ◌∙◌, arith, length-append, ◌<◌, take, Option, Some, None, subst, IfSome}
use Rattle.std.specs.List.{flat_map}
use Rattle.std.proofs.Math.Nat.{mul-suc}
use Rattle.std.specs.Io.KnownBytes.{Appends, Keeps}
use Rattle.std.proofs.Math.Seq.{take-append_seam}
use Rattle.ch_cost.specs.declared.cost.Cost.{Cost}
use Rattle.ch_graph.specs.declared.link.Link.{Link}
use Rattle.ch_graph.specs.declared.version.Version.{Version}
use Rattle.ch_graph.specs.declared.version.Version.TheVariants.{One, Two}
use Rattle.ch_graph.specs.Hierarchy.{Hierarchy, version_number, IsWellMade}
use Rattle.hierfile.specs.Spelling.{word, long, head_bytes, link_bytes, link_size, bytes_of}
use Rattle.hierfile.specs.Bytes.{IsFaultOf}
use Rattle.hierfile.specs.Fault.{first_fault}
use Rattle.hierfile.specs.declared.error.HierError.{HierError}
use Rattle.counted_io.specs.Handing.{HandsOnPart}
use Rattle.outcomes.specs.Causes.{file_case, of_hierarchy}
use Rattle.outcomes.specs.Info.{Informs, RefusesInfo, info}

-- How many bytes the file of a hierarchy has.

length-word : (n : ℕ) → length (word n) ≡ 4
unfolding word
length-word n = refl

length-head : (v : Version) (nodes links : ℕ) (bound : Cost) → length (head_bytes v nodes links bound) ≡ 24
unfolding head_bytes word long
length-head One nodes links bound = refl
length-head Two nodes links bound = refl

length-link : (v : Version) (l : Link) → length (link_bytes v l) ≡ link_size v
unfolding link_bytes word long
length-link One l = refl
length-link Two l = refl

length-words : (ranks : List ℕ) → length (flat_map word ranks) ≡ 4 * length ranks
length-words [] = refl
length-words (rank ∷ ranks) = omega (arith, length-append (word rank) (flat_map word ranks), length-word rank, length-words ranks)

length-links : (v : Version) (links : List Link) → length (flat_map (link_bytes v) links) ≡ link_size v * length links
length-links v [] = omega arith
length-links v (l ∷ links) =
    omega (arith, length-append (link_bytes v l) (flat_map (link_bytes v) links), length-link v l, length-links v links, mul-suc (link_size v) (length links))

length-bytes : (h : Hierarchy) → length (bytes_of h) ≡ 24 + 4 * length h.ranks + link_size h.version * length h.links
length-bytes h =
    let head : List ℕ = head_bytes h.version (length h.ranks) (length h.links) h.bound in
    let ranks : List ℕ = flat_map word h.ranks in
    let links : List ℕ = flat_map (link_bytes h.version) h.links in
    let parts : length (head ++ ranks) + length links ≡ 24 + 4 * length h.ranks + link_size h.version * length h.links =
    omega (arith, length-append head ranks, length-head h.version (length h.ranks) (length h.links) h.bound, length-words h.ranks, length-links h.version h.links) in
    length-append (head ++ ranks) links ∙ parts

-- a link by the number of the version
link_by : (v : Version) → 16 + 4 * version_number v ≡ link_size v
link_by One = refl
link_by Two = refl

-- the numbers of nodes and links, and the version, are those of the hierarchy
pub size : (h : Hierarchy) {nodes number links : ℕ} → nodes ≡ length h.ranks → number ≡ version_number h.version → links ≡ length h.links → 24 + 4 * nodes + (16 + 4 * number) * links ≡ length (bytes_of h)
size h {number} {links} p q r =
    let link : 16 + 4 * number ≡ link_size h.version = ap (λ (n : ℕ). 16 + 4 * n) q ∙ link_by h.version in
    ap (λ (n : ℕ). 24 + 4 * n + (16 + 4 * number) * links) p ∙ ap (λ (n : ℕ). 24 + 4 * length h.ranks + n * links) link
    ∙ ap (λ (n : ℕ). 24 + 4 * length h.ranks + link_size h.version * n) r ∙ sym (length-bytes h)

-- A file that was refused, and a write of what one has that broke off.

pub refused : (e : HierError) (file old new : Option (List ℕ)) → IsFaultOf first_fault file e → Keeps old new → RefusesInfo file old new (of_hierarchy e)
refused e file old new fault keeps = file_case e (RefusesInfo file old new) keeps (refl, keeps) (λ own. (own (IfSome file (λ bytes. first_fault bytes ≡ Some e)) fault, keeps))

first_part : {old new : Option (List ℕ)} {text : List ℕ} {written : ℕ} → HandsOnPart old new text 0 written → (written < length text) × Appends old new (take written text)
first_part {old} {new} {text} {written} h =
    let taken : List ℕ = h.first.taken in
    let parts : text ≡ taken ++ h.rest = h.first.parts in
    let count : written ≡ length taken = omega (arith, h.first.counted) in
    let same : take written text ≡ taken =
    ap (λ (n : ℕ). take n text) count ∙ (ap (λ (l : List ℕ). take (length taken) l) parts ∙ take-append_seam taken h.rest) in
    (omega (arith, count, ap (λ (l : List ℕ). length l) parts, length-append taken h.rest, h.some), subst (λ (l : List ℕ). Appends old new l) (sym same) h.first.given)

pub breaks : (file : Option (List ℕ)) {old new : Option (List ℕ)} {h : Hierarchy} {text : List ℕ} {from written : ℕ} → IsWellMade h → IfSome file (λ bytes. bytes ≡ bytes_of h) → text ≡ info h → from ≡ 0 → HandsOnPart old new text from written
    → IfSome file (λ bytes. (text : List ℕ) × Informs bytes text × (written < length text) × Appends old new (take written text))
breaks None made spelled tells begins part = tt
breaks (Some bytes) {old} {new} {h} {text} {written} made spelled tells begins part =
    let first = first_part (subst (λ (n : ℕ). HandsOnPart old new text n written) begins part) in
    (text, record { hierarchy = h; made = made; spelled = spelled; tells = tells }, first.0, first.1)
