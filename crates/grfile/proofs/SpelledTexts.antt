-- What is read of a text is what its lines say, and what its lines say is read.
use Rattle.std.proofs.Common.{ℕ, ◌≡◌, ◌+◌, ◌-◌, ◌^◌, ◌<◌, ◌≤◌, true, false, not, if◌then◌else◌, ◌&&◌, eqb, ltb, List, [], ◌∷◌, length, drop, map, Some, None, Result, Ok, All, codes, arith, refl, ap, sym, subst, ◌∙◌}
use Rattle.std.specs.Prelude.{filter}
use Rattle.std.specs.List.{AllByRecursion, AllZip}
use Rattle.std.specs.Result.{IfOk}
use Rattle.std.specs.Str.{bytes_eq}
use Rattle.std.proofs.lemmas.Bool.{cond_both, cond-true, cond-false, ltb-false, le-ltb, eqb-true, eqb-false, eq-eqb, ne_eqb, and_parts, or_parts, or_from}
use Rattle.std.proofs.lemmas.Result.{IfOk-weaker}
use Rattle.std.proofs.lemmas.List.Elements.{All-from_recursion, recursion_from_All}
use Rattle.std.proofs.lemmas.Slice.Eq.{bytes_eq-Decides}
use Rattle.ch_cost.specs.Cost.Laws.{weight-from, weight_fits}
use Rattle.ch_graph.specs.Graph.{Graph}
use Rattle.ch_graph.specs.Limits.{IsRoad, IsGraph}
use Rattle.ch_graph.specs.declared.road.Road.{Road}
use Rattle.grfile.specs.declared.error.GrError.{GrError}
use Rattle.grfile.specs.declared.error.GrErrorKind.TheVariants.{UnknownLine, NoProblemLine, SecondProblemLine, NotANumber, ArcCount}
use Rattle.grfile.specs.declared.kind.LineKind.{LineKind}
use Rattle.grfile.specs.declared.kind.LineKind.TheVariants.{Skipped, Problem, Entry, Unknown}
use Rattle.grfile.specs.declared.form.Size.{Size}
use Rattle.text_lines.specs.Fields.{fields_of}
use Rattle.text_lines.specs.Lines.{lines_of}
use Rattle.text_lines.specs.Numbers.{number_of}
use Rattle.grfile.specs.Letters.{letter_a, letter_q}
use Rattle.grfile.specs.Outcome.{◌>>=◌, fault, next_line}
use Rattle.grfile.specs.Outcome.Laws.{bind_ok, test_ok}
use Rattle.grfile.specs.Pairs.Laws.{below}
use Rattle.grfile.specs.Grammar.{Grammar, Listing, kind_of, number_in, entries_after, listing_after}
use Rattle.grfile.specs.Roads.{graph_grammar, graph_size, size_in_range, road_of, is_outside}
use Rattle.grfile.specs.Pairs.{pair_grammar, pairs_size, count_in_range, pair_of}
use Rattle.best_routes.specs.BestRoutes.{IsPair, LineSays, SpellsGraph, SpellsPairs, counted_lines, graph_lines, is_counted, pair_lines}

-- Lines that count

-- what the kind of a line says of its fields
abbrev IsOfKind : ℕ → List (List ℕ) → LineKind → Type 0
IsOfKind letter fields Skipped = is_counted fields ≡ false
IsOfKind letter fields Unknown = is_counted fields ≡ true
IsOfKind letter fields Problem = (is_counted fields ≡ true) × (fields ≡ codes "p" ∷ drop 1 fields)
IsOfKind letter fields Entry = (is_counted fields ≡ true) × (fields ≡ (letter ∷ []) ∷ drop 1 fields)

of_kind : (letter : ℕ) (fields : List (List ℕ)) → IsOfKind letter fields (kind_of letter fields)
of_kind letter [] = refl
of_kind letter ([] ∷ more) = refl
of_kind letter ((b ∷ []) ∷ more) = cond_both (eqb b 99) Skipped (if eqb b 112 then Problem else if eqb b letter then Entry else Unknown) (IsOfKind letter ((b ∷ []) ∷ more)) (λ is. ap not is)
    (λ other. cond_both (eqb b 112) Problem (if eqb b letter then Entry else Unknown) (IsOfKind letter ((b ∷ []) ∷ more)) (λ is. (ap not other, ap (λ (a : ℕ). (a ∷ []) ∷ more) (eqb-true b 112 is)))
    (λ _. cond_both (eqb b letter) Entry Unknown (IsOfKind letter ((b ∷ []) ∷ more)) (λ is. (ap not other, ap (λ (a : ℕ). (a ∷ []) ∷ more) (eqb-true b letter is))) (λ _. ap not other)))
of_kind letter ((b ∷ c ∷ bs) ∷ more) = cond_both (eqb b 99) Skipped Unknown (IsOfKind letter ((b ∷ c ∷ bs) ∷ more)) (λ is. ap not is) (λ other. ap not other)

-- the fields of each of these lines that counts
abbrev counted : List (List ℕ) → List (List (List ℕ))
counted lines = filter is_counted (map fields_of lines)

counted_skip : (line : List ℕ) (lines : List (List ℕ)) → is_counted (fields_of line) ≡ false → counted (line ∷ lines) ≡ counted lines
counted_skip line lines is = cond-false (is_counted (fields_of line)) (fields_of line ∷ counted lines) (counted lines) is

counted_more : (line : List ℕ) (lines : List (List ℕ)) → is_counted (fields_of line) ≡ true → counted (line ∷ lines) ≡ fields_of line ∷ counted lines
counted_more line lines is = cond-true (is_counted (fields_of line)) (fields_of line ∷ counted lines) (counted lines) is

-- Entries: `Says` is what the fields of a line have to be for an entry

module _ {E : Type 0} (grammar : Grammar E) (size : Size) (Says : E → List (List ℕ) → Type 0) where
  abbrev Entries : ℕ → List (List (List ℕ)) → List E → Type 0
  Entries left rows entries = (length entries ≡ left) × AllZip Says entries rows

  -- what is read is said
  module _ (each : (n : ℕ) (more : List (List ℕ)) → IfOk (grammar.entry_of size n more) (λ entry. Says entry ((grammar.letter ∷ []) ∷ more))) where
    entries_said : (left n : ℕ) (lines : List (List ℕ)) → IfOk (entries_after grammar size left n lines) (Entries left (counted lines))
    unfolding entries_after
    entries_said left n [] = cond_both (eqb left 0) (Ok []) (fault ArcCount n) (λ r. IfOk r (Entries left [])) (λ none. (sym (eqb-true left 0 none), tt)) (λ _. tt)
    entries_said left n (line ∷ lines) = elim (kind_of grammar.letter (fields_of line)) as (λ k. IsOfKind grammar.letter (fields_of line) k → IfOk (elim k [
      | Skipped ↦ entries_after grammar size left (next_line n) lines
      | Unknown ↦ fault UnknownLine (next_line n)
      | Problem ↦ fault SecondProblemLine (next_line n)
      | Entry ↦ if eqb left 0 then fault ArcCount (next_line n) else (grammar.entry_of size (next_line n) (drop 1 (fields_of line)) >>= (λ entry. entries_after grammar size (left - 1) (next_line n) lines >>= (λ entries. Ok (entry ∷ entries))))
    ]) (Entries left (counted (line ∷ lines)))) [
      | Skipped ↦ λ skipped. subst (λ rows. IfOk (entries_after grammar size left (next_line n) lines) (Entries left rows)) (sym (counted_skip line lines skipped)) (entries_said left (next_line n) lines)
      | Unknown ↦ λ _. tt
      | Problem ↦ λ _. tt
      | Entry ↦ λ is. test_ok (eqb left 0) (record { kind = ArcCount; line = next_line n })
          (grammar.entry_of size (next_line n) (drop 1 (fields_of line)) >>=
          (λ entry. entries_after grammar size (left - 1) (next_line n) lines >>= (λ entries. Ok (entry ∷ entries)))) (Entries left (counted (line ∷ lines)))
          (λ some. bind_ok (grammar.entry_of size (next_line n) (drop 1 (fields_of line)))
          (λ entry. entries_after grammar size (left - 1) (next_line n) lines >>= (λ entries. Ok (entry ∷ entries)))
          (λ entry. Says entry ((grammar.letter ∷ []) ∷ drop 1 (fields_of line))) (Entries left (counted (line ∷ lines)))
          (each (next_line n) (drop 1 (fields_of line)))
          (λ entry says. bind_ok (entries_after grammar size (left - 1) (next_line n) lines) (λ entries. Ok (entry ∷ entries))
          (Entries (left - 1) (counted lines)) (Entries left (counted (line ∷ lines))) (entries_said (left - 1) (next_line n) lines)
          (λ entries rest. let full = eqb-false left 0 some in
          (omega (arith, rest.0), subst (λ rows. AllZip Says (entry ∷ entries) rows) (sym (counted_more line lines is.0)) (subst (λ fields. Says entry fields) (sym is.1) says, rest.1)))))
    ] (of_kind grammar.letter (fields_of line))

  -- and what is said is read
  module _ (back : (n : ℕ) (entry : E) (fields : List (List ℕ)) → Says entry fields → (kind_of grammar.letter fields ≡ Entry) × (grammar.entry_of size n (drop 1 fields) ≡ Ok entry)) where
    -- the first of these lines says the first entry
    record First (entries : List E) (fields : List (List ℕ)) (rows : List (List (List ℕ))) : Type 0 where
      entry : E
      others : List E
      are : entries ≡ entry ∷ others
      says : Says entry fields
      rest : AllZip Says others rows

    first : (entries : List E) (fields : List (List ℕ)) (rows : List (List (List ℕ))) → AllZip Says entries (fields ∷ rows) → First entries fields rows
    first [] fields rows say = absurd say
    first (entry ∷ entries) fields rows say = record { entry = entry; others = entries; are = refl; says = say.0; rest = say.1 }

    entries_read : (left n : ℕ) (entries : List E) (lines : List (List ℕ)) → length entries ≡ left → AllZip Says entries (counted lines) → entries_after grammar size left n lines ≡ Ok entries
    unfolding entries_after
    entries_read left n [] [] full say = cond-true (eqb left 0) (Ok []) (fault ArcCount n) (eq-eqb left 0 (sym full))
    entries_read left n (entry ∷ entries) [] full say = absurd say
    entries_read left n entries (line ∷ lines) full say = elim (kind_of grammar.letter (fields_of line)) as (λ k. kind_of grammar.letter (fields_of line) ≡ k → IsOfKind grammar.letter (fields_of line) k → ◌≡◌ {A = Result (List E) GrError} (elim k [
      | Skipped ↦ entries_after grammar size left (next_line n) lines
      | Unknown ↦ fault UnknownLine (next_line n)
      | Problem ↦ fault SecondProblemLine (next_line n)
      | Entry ↦ if eqb left 0 then fault ArcCount (next_line n) else (grammar.entry_of size (next_line n) (drop 1 (fields_of line)) >>= (λ entry. entries_after grammar size (left - 1) (next_line n) lines >>= (λ entries. Ok (entry ∷ entries))))
    ]) (Ok entries)) [
      | Skipped ↦ λ kind is. entries_read left (next_line n) entries lines full (subst (λ rows. AllZip Says entries rows) (counted_skip line lines is) say)
      | Unknown ↦ λ kind is. let it = said_first is in
          let other = (back 0 it.entry (fields_of line) it.says).0 in
          absurd (cc)
      | Problem ↦ λ kind is. let it = said_first is.0 in
          let other = (back 0 it.entry (fields_of line) it.says).0 in
          absurd (cc)
      | Entry ↦ λ kind is. let it = said_first is.0 in
          let long : length (it.entry ∷ it.others) ≡ left = ap length (sym it.are) ∙ full in
          cond-false (eqb left 0) (fault ArcCount (next_line n)) _ (ne_eqb left 0 (λ none. omega (arith, none, long)))
          ∙ ap (λ r. r >>= (λ entry. entries_after grammar size (left - 1) (next_line n) lines >>= (λ entries. Ok (entry ∷ entries)))) (back (next_line n) it.entry (fields_of line) it.says).1
          ∙ ap (λ r. r >>= (λ entries. Ok (it.entry ∷ entries))) (entries_read (left - 1) (next_line n) it.others lines (omega (arith, long)) it.rest)
          ∙ ap (λ (all : List E). Ok all) (sym it.are)
    ] refl (of_kind grammar.letter (fields_of line))
      where
        said_first : is_counted (fields_of line) ≡ true → First entries (fields_of line) (counted lines)
        said_first is = first entries (fields_of line) (counted lines) (subst (λ rows. AllZip Says entries rows) (counted_more line lines is) say)

-- A whole text: `Opens` is what the fields of the problem line have to be

module _ {E : Type 0} (grammar : Grammar E) (Opens : Size → List (List ℕ) → Type 0) (Says : Size → E → List (List ℕ) → Type 0) where
  -- these fields of lines say the listing
  abbrev IsSaid : Listing E → List (List (List ℕ)) → Type 0
  IsSaid listing [] = ⊥
  IsSaid listing (head ∷ rows) = Opens listing.size head × Entries grammar listing.size (Says listing.size) listing.size.entries rows listing.entries

  module _ (opens : (n : ℕ) (more : List (List ℕ)) → IfOk (grammar.size_of n more) (λ size. Opens size (codes "p" ∷ more)))
      (each : (size : Size) (n : ℕ) (more : List (List ℕ)) → IfOk (grammar.entry_of size n more) (λ entry. Says size entry ((grammar.letter ∷ []) ∷ more))) where
    listing_said : (n : ℕ) (lines : List (List ℕ)) → IfOk (listing_after grammar n lines) (λ listing. IsSaid listing (counted lines))
    unfolding listing_after
    listing_said n [] = tt
    listing_said n (line ∷ lines) = elim (kind_of grammar.letter (fields_of line)) as (λ k. IsOfKind grammar.letter (fields_of line) k → IfOk (elim k [
      | Skipped ↦ listing_after grammar (next_line n) lines
      | Unknown ↦ fault UnknownLine (next_line n)
      | Problem ↦ grammar.size_of (next_line n) (drop 1 (fields_of line)) >>= (λ size. entries_after grammar size size.entries (next_line n) lines >>= (λ entries. Ok (record { size = size; entries = entries })))
      | Entry ↦ fault NoProblemLine (next_line n)
    ]) (λ listing. IsSaid listing (counted (line ∷ lines)))) [
      | Skipped ↦ λ skipped. subst (λ rows. IfOk (listing_after grammar (next_line n) lines) (λ listing. IsSaid listing rows)) (sym (counted_skip line lines skipped)) (listing_said (next_line n) lines)
      | Unknown ↦ λ _. tt
      | Problem ↦ λ is. bind_ok (grammar.size_of (next_line n) (drop 1 (fields_of line)))
          (λ size. entries_after grammar size size.entries (next_line n) lines >>= (λ entries. Ok (record { size = size; entries = entries })))
          (λ size. Opens size (codes "p" ∷ drop 1 (fields_of line))) (λ listing. IsSaid listing (counted (line ∷ lines)))
          (opens (next_line n) (drop 1 (fields_of line)))
          (λ size open_so. bind_ok (entries_after grammar size size.entries (next_line n) lines) (λ entries. Ok (record { size = size; entries = entries }))
          (Entries grammar size (Says size) size.entries (counted lines)) (λ listing. IsSaid listing (counted (line ∷ lines)))
          (entries_said grammar size (Says size) (each size) size.entries (next_line n) lines)
          (λ entries all. subst (λ rows. IsSaid (record { size = size; entries = entries }) rows) (sym (counted_more line lines is.0))
          (subst (λ fields. Opens size fields) (sym is.1) open_so, all)))
      | Entry ↦ λ _. tt
    ] (of_kind grammar.letter (fields_of line))

  module _ (opened : (n : ℕ) (size : Size) (fields : List (List ℕ)) → Opens size fields → (kind_of grammar.letter fields ≡ Problem) × (grammar.size_of n (drop 1 fields) ≡ Ok size))
      (back : (size : Size) (n : ℕ) (entry : E) (fields : List (List ℕ)) → Says size entry fields → (kind_of grammar.letter fields ≡ Entry) × (grammar.entry_of size n (drop 1 fields) ≡ Ok entry)) where
    listing_read : (n : ℕ) (lines : List (List ℕ)) (listing : Listing E) → IsSaid listing (counted lines) → listing_after grammar n lines ≡ Ok listing
    unfolding listing_after
    listing_read n [] listing said = absurd said
    listing_read n (line ∷ lines) listing said = elim (kind_of grammar.letter (fields_of line)) as (λ k. kind_of grammar.letter (fields_of line) ≡ k → IsOfKind grammar.letter (fields_of line) k → ◌≡◌ {A = Result (Listing E) GrError} (elim k [
      | Skipped ↦ listing_after grammar (next_line n) lines
      | Unknown ↦ fault UnknownLine (next_line n)
      | Problem ↦ grammar.size_of (next_line n) (drop 1 (fields_of line)) >>= (λ size. entries_after grammar size size.entries (next_line n) lines >>= (λ entries. Ok (record { size = size; entries = entries })))
      | Entry ↦ fault NoProblemLine (next_line n)
    ]) (Ok listing)) [
      | Skipped ↦ λ kind is. listing_read (next_line n) lines listing (subst (λ rows. IsSaid listing rows) (counted_skip line lines is) said)
      | Unknown ↦ λ kind is. let other = (opened 0 listing.size (fields_of line) (first is).0).0 in absurd (cc)
      | Problem ↦ λ kind is. let it = first is.0 in
          ap (λ r. r >>= (λ size. entries_after grammar size size.entries (next_line n) lines >>= (λ entries. Ok (record { size = size; entries = entries })))) (opened (next_line n) listing.size (fields_of line) it.0).1
          ∙ ap (λ r. r >>= (λ entries. Ok (record { size = listing.size; entries = entries }))) (entries_read grammar listing.size (Says listing.size) (back listing.size) listing.size.entries (next_line n) listing.entries lines it.1.0 it.1.1)
      | Entry ↦ λ kind is. let other = (opened 0 listing.size (fields_of line) (first is.0).0).0 in absurd (cc)
    ] refl (of_kind grammar.letter (fields_of line))
      where
        first : is_counted (fields_of line) ≡ true → IsSaid listing (fields_of line ∷ counted lines)
        first is = subst (λ rows. IsSaid listing rows) (counted_more line lines is) said

-- Numbers of fields

number_said : (line : ℕ) (field : List ℕ) → IfOk (number_in line field) (λ n. number_of field ≡ Some n)
number_said line field = elim (number_of field) as (λ o. IfOk {T = ℕ} {E = GrError} (elim o [ Some n ↦ Ok n | None ↦ fault NotANumber line ]) (λ n. o ≡ Some n)) [
  | Some n ↦ refl
  | None ↦ tt
]

number_read : (line : ℕ) (field : List ℕ) (n : ℕ) → number_of field ≡ Some n → number_in line field ≡ Ok n
number_read line field n is = rw (is, number_in) refl

-- one more of two lists that are the same
and_same : {A : Type 0} {x y : A} {xs ys : List A} → x ≡ y → xs ≡ ys → x ∷ xs ≡ y ∷ ys
and_same {y = y} {xs} is rest = ap (λ z. z ∷ xs) is ∙ ap (λ zs. y ∷ zs) rest

each_spelled : (fields : List (List ℕ)) (numbers : List ℕ) → map number_of fields ≡ map Some numbers → AllZip (λ field n. number_of field ≡ Some n) fields numbers
each_spelled [] [] is = tt
each_spelled [] (n ∷ numbers) is = absurd (cc)
each_spelled (field ∷ fields) [] is = absurd (cc)
each_spelled (field ∷ fields) (n ∷ numbers) is = (cc, each_spelled fields numbers (cc))

word_is : (word known : List ℕ) → bytes_eq word known ≡ true → word ≡ known
word_is word known is = (bytes_eq-Decides word known).0 is

-- a node from 1 that isn't outside, and one from 0
from_1 : (nodes n : ℕ) → is_outside nodes n ≡ false → n ≡ n - 1 + 1
from_1 nodes n within = let some = eqb-false n 0 (or_parts (eqb n 0) (ltb nodes n) within).0 in omega (arith, some)

is_inside : (nodes n : ℕ) → n < nodes → is_outside nodes (n + 1) ≡ false
is_inside nodes n low = or_from (eqb (n + 1) 0) (ltb nodes (n + 1)) (ne_eqb (n + 1) 0 (λ none. omega (arith, none))) (le-ltb nodes (n + 1) (omega arith))

-- Entries as the lines that say them, and what else is known of each

module _ {E : Type 0} (say : E → List (List ℕ) × List ℕ) (P : E → Type 0) where
  abbrev SaidAnd : E → List (List ℕ) → Type 0
  SaidAnd entry fields = LineSays (say entry) fields × P entry

  zip_parts : (entries : List E) (rows : List (List (List ℕ))) → AllZip SaidAnd entries rows → AllZip LineSays (map say entries) rows × AllByRecursion P entries
  zip_parts [] [] both = (tt, tt)
  zip_parts [] (row ∷ rows) both = absurd both
  zip_parts (entry ∷ entries) [] both = absurd both
  zip_parts (entry ∷ entries) (row ∷ rows) both = let rest = zip_parts entries rows both.1 in ((both.0.0, rest.0), (both.0.1, rest.1))

  zip_both : (entries : List E) (rows : List (List (List ℕ))) → AllZip LineSays (map say entries) rows → AllByRecursion P entries → AllZip SaidAnd entries rows
  zip_both [] [] said holds = tt
  zip_both [] (row ∷ rows) said holds = absurd said
  zip_both (entry ∷ entries) [] said holds = absurd said
  zip_both (entry ∷ entries) (row ∷ rows) said holds = ((said.0, holds.0), zip_both entries rows said.1 holds.1)

-- The graph

abbrev arc_line : Road → List (List ℕ) × List ℕ
arc_line arc = (codes "a" ∷ [], (arc.from + 1) ∷ (arc.to + 1) ∷ arc.weight ∷ [])

abbrev GraphOpens : Size → List (List ℕ) → Type 0
GraphOpens size fields = LineSays (codes "p" ∷ codes "sp" ∷ [], size.nodes ∷ size.entries ∷ []) fields × (size.nodes ≤ 2 ^ 25) × (size.entries ≤ 2 ^ 27)

graph_opens : (line : ℕ) (more : List (List ℕ)) → IfOk (graph_size line more) (λ size. GraphOpens size (codes "p" ∷ more))
unfolding graph_size
graph_opens line [] = tt
graph_opens line (a ∷ []) = tt
graph_opens line (a ∷ b ∷ []) = tt
graph_opens line (word ∷ n ∷ m ∷ []) = cond_both (bytes_eq word (codes "sp"))
    (number_in line n >>= (λ nodes. number_in line m >>= (λ arcs. size_in_range line nodes arcs))) (fault UnknownLine line) (λ r. IfOk r Q)
    (λ sp. bind_ok (number_in line n) _ (λ v. number_of n ≡ Some v) Q (number_said line n) (λ nodes n_is. bind_ok (number_in line m) _ (λ v. number_of m ≡ Some v) Q (number_said line m) (λ arcs m_is.
    test_ok (ltb (2 ^ 25) nodes) _ _ Q (λ few. test_ok (ltb (2 ^ 27) arcs) _ _ Q (λ fewer.
    ((n ∷ m ∷ [], ap (λ (w : List ℕ). codes "p" ∷ w ∷ n ∷ m ∷ []) (word_is word (codes "sp") sp), and_same n_is (and_same m_is refl)), ltb-false (2 ^ 25) nodes few, ltb-false (2 ^ 27) arcs fewer)))))) (λ _. tt)
  where
    Q : Size → Type 0
    Q size = GraphOpens size (codes "p" ∷ word ∷ n ∷ m ∷ [])
graph_opens line (a ∷ b ∷ c ∷ d ∷ more) = tt

graph_opened : (line : ℕ) (size : Size) (fields : List (List ℕ)) → GraphOpens size fields → (kind_of letter_a fields ≡ Problem) × (graph_size line (drop 1 fields) ≡ Ok size)
unfolding graph_size
graph_opened line size fields open_so = subst (λ fs. (kind_of letter_a fs ≡ Problem) × (graph_size line (drop 1 fs) ≡ Ok size)) (sym open_so.0.1) (refl, by open_so.0.0 (each_spelled open_so.0.0 _ open_so.0.2))
  where
    by : (others : List (List ℕ)) → AllZip (λ field n. number_of field ≡ Some n) others (size.nodes ∷ size.entries ∷ []) → graph_size line (codes "sp" ∷ others) ≡ Ok size
    by [] spell = absurd spell
    by (n ∷ []) spell = absurd spell.1
    by (n ∷ m ∷ []) spell = rw (number_read line n size.nodes spell.0, number_read line m size.entries spell.1.0, le-ltb (2 ^ 25) size.nodes open_so.1, le-ltb (2 ^ 27) size.entries open_so.2) refl
    by (n ∷ m ∷ other ∷ more) spell = absurd spell.1.1

arc_said : (size : Size) (line : ℕ) (more : List (List ℕ)) → IfOk (road_of size.nodes line more) (λ arc. SaidAnd arc_line (IsRoad size.nodes) arc (codes "a" ∷ more))
unfolding road_of
arc_said size line [] = tt
arc_said size line (a ∷ []) = tt
arc_said size line (a ∷ b ∷ []) = tt
arc_said size line (u ∷ v ∷ w ∷ []) = bind_ok (number_in line u) _ (λ n. number_of u ≡ Some n) Q (number_said line u) (λ from u_is. bind_ok (number_in line v) _ (λ n. number_of v ≡ Some n) Q (number_said line v) (λ to v_is.
    bind_ok (number_in line w) _ (λ n. number_of w ≡ Some n) Q (number_said line w) (λ weight w_is.
    test_ok (is_outside size.nodes from) _ _ Q (λ from_in. test_ok (is_outside size.nodes to) _ _ Q (λ to_in. test_ok (ltb (2 ^ 32 - 1) weight) _ _ Q (λ light. (
      (u ∷ v ∷ w ∷ [], refl, and_same (u_is ∙ ap (λ (n : ℕ). Some n) (from_1 size.nodes from from_in)) (and_same (v_is ∙ ap (λ (n : ℕ). Some n) (from_1 size.nodes to to_in)) (and_same w_is refl))),
      record { from_in = below size.nodes from from_in; to_in = below size.nodes to to_in; weighs = weight-from weight (omega (arith, ltb-false (2 ^ 32 - 1) weight light)) },
    )))))))
  where
    Q : Road → Type 0
    Q arc = SaidAnd arc_line (IsRoad size.nodes) arc (codes "a" ∷ u ∷ v ∷ w ∷ [])
arc_said size line (a ∷ b ∷ c ∷ d ∷ more) = tt

arc_read : (size : Size) (line : ℕ) (arc : Road) (fields : List (List ℕ)) → SaidAnd arc_line (IsRoad size.nodes) arc fields → (kind_of letter_a fields ≡ Entry) × (road_of size.nodes line (drop 1 fields) ≡ Ok arc)
unfolding road_of
arc_read size line arc fields said = subst (λ fs. (kind_of letter_a fs ≡ Entry) × (road_of size.nodes line (drop 1 fs) ≡ Ok arc)) (sym said.0.1) (refl, by said.0.0 (each_spelled said.0.0 _ said.0.2))
  where
    light : ltb (2 ^ 32 - 1) arc.weight ≡ false
    light = le-ltb (2 ^ 32 - 1) arc.weight (omega (arith, weight_fits said.1.weighs))

    by : (others : List (List ℕ)) → AllZip (λ field n. number_of field ≡ Some n) others ((arc.from + 1) ∷ (arc.to + 1) ∷ arc.weight ∷ []) → road_of size.nodes line others ≡ Ok arc
    by [] spell = absurd spell
    by (u ∷ []) spell = absurd spell.1
    by (u ∷ v ∷ []) spell = absurd spell.1.1
    by (u ∷ v ∷ w ∷ []) spell =
        let from_is : arc.from + 1 - 1 ≡ arc.from = omega arith in
        let to_is : arc.to + 1 - 1 ≡ arc.to = omega arith in
        rw (number_read line u (arc.from + 1) spell.0, number_read line v (arc.to + 1) spell.1.0, number_read line w arc.weight spell.1.1.0, is_inside size.nodes arc.from said.1.from_in, is_inside size.nodes arc.to said.1.to_in, light, from_is, to_is) refl
    by (u ∷ v ∷ w ∷ other ∷ more) spell = absurd spell.1.1.1

abbrev graph_in : Listing Road → Graph
graph_in listing = record { nodes = listing.size.nodes; arcs = listing.entries }

-- the listing of a graph
abbrev listing_in : Graph → Listing Road
listing_in g = record { size = record { nodes = g.nodes; entries = length g.arcs }; entries = g.arcs }

abbrev IsGraphSaid : Listing Road → List (List (List ℕ)) → Type 0
IsGraphSaid = IsSaid graph_grammar GraphOpens (λ size. SaidAnd arc_line (IsRoad size.nodes))

graph_parts : (listing : Listing Road) (rows : List (List (List ℕ))) → IsGraphSaid listing rows → AllZip LineSays (graph_lines (graph_in listing)) rows × IsGraph (graph_in listing)
graph_parts listing [] said = absurd said
graph_parts listing (head ∷ rows) said =
    let parts = zip_parts arc_line (IsRoad listing.size.nodes) listing.entries rows said.1.1 in (
      (subst (λ (n : ℕ). LineSays (codes "p" ∷ codes "sp" ∷ [], listing.size.nodes ∷ n ∷ []) head) (sym said.1.0) said.0.0, parts.0),
      record { few_nodes = said.0.1; few_arcs = omega (arith, said.0.2, said.1.0); roads = All-from_recursion _ listing.entries parts.1 },
    )

graph_whole : (g : Graph) (rows : List (List (List ℕ))) → AllZip LineSays (graph_lines g) rows → IsGraph g → IsGraphSaid (listing_in g) rows
graph_whole g [] said limits = absurd said
graph_whole g (head ∷ rows) said limits = ((said.0, limits.few_nodes, limits.few_arcs), (refl, zip_both arc_line (IsRoad g.nodes) g.arcs rows said.1 (recursion_from_All _ g.arcs limits.roads)))

-- what is read of a text is a graph that it spells
pub graph_spelled : (text : List ℕ) → IfOk (listing_after graph_grammar 0 (lines_of text)) (λ listing. SpellsGraph text (graph_in listing))
graph_spelled text = IfOk-weaker (listing_after graph_grammar 0 (lines_of text)) _ _ (λ listing said. let parts = graph_parts listing (counted_lines text) said in record { lines = parts.0; limits = parts.1 })
    (listing_said graph_grammar GraphOpens (λ size. SaidAnd arc_line (IsRoad size.nodes)) graph_opens arc_said 0 (lines_of text))

-- and a graph that it spells is read
pub graph_read : (text : List ℕ) (g : Graph) → SpellsGraph text g → listing_after graph_grammar 0 (lines_of text) ≡ Ok (listing_in g)
graph_read text g spells = listing_read graph_grammar GraphOpens (λ size. SaidAnd arc_line (IsRoad size.nodes)) graph_opened arc_read 0 (lines_of text) (listing_in g)
    (graph_whole g (counted_lines text) spells.lines spells.limits)

-- The pairs

abbrev pair_line : ℕ × ℕ → List (List ℕ) × List ℕ
pair_line pair = (codes "q" ∷ [], (pair.0 + 1) ∷ (pair.1 + 1) ∷ [])

abbrev PairsOpen : ℕ → Size → List (List ℕ) → Type 0
PairsOpen nodes size fields = LineSays (codes "p" ∷ codes "aux" ∷ codes "sp" ∷ codes "p2p" ∷ [], size.entries ∷ []) fields × (size.entries ≤ 2 ^ 27) × (size.nodes ≡ nodes)

pairs_open : (nodes line : ℕ) (more : List (List ℕ)) → IfOk (pairs_size nodes line more) (λ size. PairsOpen nodes size (codes "p" ∷ more))
unfolding pairs_size
pairs_open nodes line [] = tt
pairs_open nodes line (a ∷ []) = tt
pairs_open nodes line (a ∷ b ∷ []) = tt
pairs_open nodes line (a ∷ b ∷ c ∷ []) = tt
pairs_open nodes line (x ∷ y ∷ z ∷ k ∷ []) = cond_both (bytes_eq x (codes "aux") && bytes_eq y (codes "sp") && bytes_eq z (codes "p2p"))
    (number_in line k >>= (λ count. count_in_range nodes line count)) (fault UnknownLine line) (λ r. IfOk r Q)
    (λ words. let all = and_parts (bytes_eq x (codes "aux") && bytes_eq y (codes "sp")) (bytes_eq z (codes "p2p")) words in
    let first = and_parts (bytes_eq x (codes "aux")) (bytes_eq y (codes "sp")) all.0 in
    bind_ok (number_in line k) _ (λ v. number_of k ≡ Some v) Q (number_said line k) (λ count k_is. test_ok (ltb (2 ^ 27) count) _ _ Q (λ few.
    ((k ∷ [], and_same refl (and_same (word_is x (codes "aux") first.0) (and_same (word_is y (codes "sp") first.1) (and_same (word_is z (codes "p2p") all.1) refl))), and_same k_is refl), ltb-false (2 ^ 27) count few, refl)))) (λ _. tt)
  where
    Q : Size → Type 0
    Q size = PairsOpen nodes size (codes "p" ∷ x ∷ y ∷ z ∷ k ∷ [])
pairs_open nodes line (a ∷ b ∷ c ∷ d ∷ e ∷ more) = tt

pairs_opened : (nodes line : ℕ) (size : Size) (fields : List (List ℕ)) → PairsOpen nodes size fields → (kind_of letter_q fields ≡ Problem) × (pairs_size nodes line (drop 1 fields) ≡ Ok size)
unfolding pairs_size
pairs_opened nodes line size fields open_so = subst (λ fs. (kind_of letter_q fs ≡ Problem) × (pairs_size nodes line (drop 1 fs) ≡ Ok size)) (sym open_so.0.1) (refl, by open_so.0.0 (each_spelled open_so.0.0 _ open_so.0.2))
  where
    by : (others : List (List ℕ)) → AllZip (λ field n. number_of field ≡ Some n) others (size.entries ∷ []) → pairs_size nodes line (codes "aux" ∷ codes "sp" ∷ codes "p2p" ∷ others) ≡ Ok size
    by [] spell = absurd spell
    by (k ∷ []) spell = rw (number_read line k size.entries spell.0, le-ltb (2 ^ 27) size.entries open_so.1) (ap (λ (n : ℕ). Ok (record { nodes = n; entries = size.entries })) (sym open_so.2))
    by (k ∷ other ∷ more) spell = absurd spell.1

pair_said : (size : Size) (line : ℕ) (more : List (List ℕ)) → IfOk (pair_of size.nodes line more) (λ pair. SaidAnd pair_line (IsPair size.nodes) pair (codes "q" ∷ more))
unfolding pair_of
pair_said size line [] = tt
pair_said size line (a ∷ []) = tt
pair_said size line (s ∷ t ∷ []) = bind_ok (number_in line s) _ (λ n. number_of s ≡ Some n) Q (number_said line s) (λ source s_is. bind_ok (number_in line t) _ (λ n. number_of t ≡ Some n) Q (number_said line t) (λ target t_is.
    test_ok (is_outside size.nodes source) _ _ Q (λ source_in. test_ok (is_outside size.nodes target) _ _ Q (λ target_in. (
      (s ∷ t ∷ [], refl, and_same (s_is ∙ ap (λ (n : ℕ). Some n) (from_1 size.nodes source source_in)) (and_same (t_is ∙ ap (λ (n : ℕ). Some n) (from_1 size.nodes target target_in)) refl)),
      (below size.nodes source source_in, below size.nodes target target_in),
    )))))
  where
    Q : ℕ × ℕ → Type 0
    Q pair = SaidAnd pair_line (IsPair size.nodes) pair (codes "q" ∷ s ∷ t ∷ [])
pair_said size line (a ∷ b ∷ c ∷ more) = tt

pair_read : (size : Size) (line : ℕ) (pair : ℕ × ℕ) (fields : List (List ℕ)) → SaidAnd pair_line (IsPair size.nodes) pair fields → (kind_of letter_q fields ≡ Entry) × (pair_of size.nodes line (drop 1 fields) ≡ Ok pair)
unfolding pair_of
pair_read size line pair fields said = subst (λ fs. (kind_of letter_q fs ≡ Entry) × (pair_of size.nodes line (drop 1 fs) ≡ Ok pair)) (sym said.0.1) (refl, by said.0.0 (each_spelled said.0.0 _ said.0.2))
  where
    by : (others : List (List ℕ)) → AllZip (λ field n. number_of field ≡ Some n) others ((pair.0 + 1) ∷ (pair.1 + 1) ∷ []) → pair_of size.nodes line others ≡ Ok pair
    by [] spell = absurd spell
    by (s ∷ []) spell = absurd spell.1
    by (s ∷ t ∷ []) spell =
        let source_is : pair.0 + 1 - 1 ≡ pair.0 = omega arith in
        let target_is : pair.1 + 1 - 1 ≡ pair.1 = omega arith in
        rw (number_read line s (pair.0 + 1) spell.0, number_read line t (pair.1 + 1) spell.1.0, is_inside size.nodes pair.0 said.1.0, is_inside size.nodes pair.1 said.1.1, source_is, target_is) refl
    by (s ∷ t ∷ other ∷ more) spell = absurd spell.1.1

module _ (nodes : ℕ) where
  abbrev ArePairsSaid : Listing (ℕ × ℕ) → List (List (List ℕ)) → Type 0
  ArePairsSaid = IsSaid (pair_grammar nodes) (PairsOpen nodes) (λ size. SaidAnd pair_line (IsPair size.nodes))

  -- the listing of pairs
  abbrev listing_with : List (ℕ × ℕ) → Listing (ℕ × ℕ)
  listing_with pairs = record { size = record { nodes = nodes; entries = length pairs }; entries = pairs }

  pairs_parts : (listing : Listing (ℕ × ℕ)) (rows : List (List (List ℕ))) → ArePairsSaid listing rows → AllZip LineSays (pair_lines listing.entries) rows × (length listing.entries ≤ 2 ^ 27) × All (IsPair nodes) listing.entries
  pairs_parts listing [] said = absurd said
  pairs_parts listing (head ∷ rows) said =
      let parts = zip_parts pair_line (IsPair listing.size.nodes) listing.entries rows said.1.1 in (
        (subst (λ (n : ℕ). LineSays (codes "p" ∷ codes "aux" ∷ codes "sp" ∷ codes "p2p" ∷ [], n ∷ []) head) (sym said.1.0) said.0.0, parts.0),
        omega (arith, said.0.1, said.1.0),
        subst (λ (n : ℕ). All (IsPair n) listing.entries) said.0.2 (All-from_recursion _ listing.entries parts.1),
      )

  pairs_whole : (pairs : List (ℕ × ℕ)) (rows : List (List (List ℕ))) → AllZip LineSays (pair_lines pairs) rows → length pairs ≤ 2 ^ 27 → All (IsPair nodes) pairs → ArePairsSaid (listing_with pairs) rows
  pairs_whole pairs [] said few within = absurd said
  pairs_whole pairs (head ∷ rows) said few within = ((said.0, few, refl), (refl, zip_both pair_line (IsPair nodes) pairs rows said.1 (recursion_from_All _ pairs within)))

  -- what is read of a text are pairs that it spells
  pub pairs_spelled : (text : List ℕ) → IfOk (listing_after (pair_grammar nodes) 0 (lines_of text)) (λ listing. SpellsPairs nodes text listing.entries)
  pairs_spelled text = IfOk-weaker (listing_after (pair_grammar nodes) 0 (lines_of text)) _ _
      (λ listing said. let parts = pairs_parts listing (counted_lines text) said in record { lines = parts.0; few = parts.1; within = parts.2 })
      (listing_said (pair_grammar nodes) (PairsOpen nodes) (λ size. SaidAnd pair_line (IsPair size.nodes)) (pairs_open nodes) pair_said 0 (lines_of text))

  -- and pairs that it spells are read
  pub pairs_read : (text : List ℕ) (pairs : List (ℕ × ℕ)) → SpellsPairs nodes text pairs → listing_after (pair_grammar nodes) 0 (lines_of text) ≡ Ok (listing_with pairs)
  pairs_read text pairs spells = listing_read (pair_grammar nodes) (PairsOpen nodes) (λ size. SaidAnd pair_line (IsPair size.nodes)) (pairs_opened nodes) pair_read 0 (lines_of text) (listing_with pairs)
      (pairs_whole pairs (counted_lines text) spells.lines spells.few spells.within)
