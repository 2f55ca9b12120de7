-- Which faults a text may have whose first lines were read.
use Rattle.std.proofs.Common.{ℕ, ◌≡◌, ◌-◌, ◌≤◌, eqb, cond, true, false, if◌then◌else◌, List, [], ◌∷◌, ◌++◌, drop, map, Option, None, Some, Result, Ok, Err, MatchOption, IfSome, arith, refl, ap, sym, ◌∙◌, subst}
use Rattle.std.specs.Prelude.{⊤, IsErrAnd}
use Rattle.std.specs.declared.io.Error.{Error}
use Rattle.std.specs.Result.{IfErr}
use Rattle.std.proofs.lemmas.Result.{IfErr-at_err, IfErr-weaker}
use Rattle.std.proofs.lemmas.List.{append_assoc}
use Rattle.std.specs.Str.Lines.{strip_carriage_return}
use Rattle.grfile.specs.declared.error.GrError.{GrError}
use Rattle.grfile.specs.declared.error.GrErrorKind.TheVariants.{OutOfMemory, UnknownLine, NoProblemLine, SecondProblemLine, ArcCount}
use Rattle.grfile.specs.declared.kind.LineKind.TheVariants.{Skipped, Problem, Entry, Unknown}
use Rattle.grfile.specs.declared.form.Size.{Size}
use Rattle.text_lines.specs.Fields.{fields_of}
use Rattle.text_lines.specs.Lines.{lines_of, cut_after, lines_after}
use Rattle.text_lines.specs.Numbers.{capped}
use Rattle.grfile.specs.Outcome.{◌>>=◌, FromText, SaysNothing, IsOfLine, fault, next_line}
use Rattle.grfile.specs.Grammar.{Grammar, Listing, kind_of, entries_after, listing_after}
use Rattle.grfile.specs.Progress.{listing_from}
use Rattle.grfile.specs.Roads.{graph_grammar}
use Rattle.grfile.specs.Pairs.{pair_grammar}
use Rattle.grfile.specs.Reading.{graph_of, pairs_of}
use Rattle.grfile.specs.Taken.{ComesFirst, HasTaken, IsAtEndOf, IsReadTo, StopsWith, Taken, told_with}
use Rattle.grfile.specs.ToTheEnd.{ReachesEnd, ReadsText, StopsBefore}
use Rattle.grfile.proofs.TextInPieces.{told_first, wants_memory}
use Rattle.grfile.proofs.LineFaults.{bind_err, test_err, graph_size-at, road_of-at, pairs_size-at, pair_of-at}
use Rattle.grfile.proofs.LinesToText.{as_graph, as_pairs, from_text_map, graph_seen, pairs_seen}

-- The first line that a fault may be of, among these after line n: at the end of a text it is of line n.
abbrev least_line : ℕ → List (List ℕ) → ℕ
least_line n [] = capped n
least_line n (line ∷ lines) = next_line n

least_next : (n : ℕ) (lines : List (List ℕ)) (m : ℕ) → least_line (next_line n) lines ≤ m → next_line n ≤ m
least_next n [] m h = omega (arith, h)
least_next n (line ∷ lines) m h = omega (arith, h)

-- a refusal of this line or of a later one
abbrev IsFrom : ℕ → GrError → Type 0
IsFrom n e = n ≤ e.line

of_line : {A : Type 0} (n : ℕ) (r : Result A GrError) → IfErr r (IsOfLine n) → IfErr r (IsFrom n)
of_line n r h = IfErr-weaker r (IsOfLine n) (IsFrom n) (λ e is. omega (arith, is.0)) h

module _ {E : Type 0} (grammar : Grammar E) (each : (size : Size) (n : ℕ) (fields : List (List ℕ)) → IfErr (grammar.entry_of size n fields) (IsOfLine n)) where
  entries_from : (size : Size) (left n : ℕ) (lines : List (List ℕ)) → IfErr (entries_after grammar size left n lines) (IsFrom (least_line n lines))
  unfolding entries_after
  entries_from size left n [] = test_err (eqb left 0) (Ok []) (fault ArcCount n) (IsFrom (capped n)) tt (omega arith)
  entries_from size left n (line ∷ lines) = elim (kind_of grammar.letter (fields_of line)) as (λ k. IfErr (elim k [
    | Skipped ↦ entries_after grammar size left (next_line n) lines
    | Unknown ↦ fault UnknownLine (next_line n)
    | Problem ↦ fault SecondProblemLine (next_line n)
    | Entry ↦ if eqb left 0 then fault ArcCount (next_line n) else (grammar.entry_of size (next_line n) (drop 1 (fields_of line)) >>= (λ entry. entries_after grammar size (left - 1) (next_line n) lines >>= (λ entries. Ok (entry ∷ entries))))
  ]) (IsFrom (next_line n))) [
    | Skipped ↦ IfErr-weaker (entries_after grammar size left (next_line n) lines) (IsFrom (least_line (next_line n) lines)) (IsFrom (next_line n)) (λ e h. least_next n lines e.line h) (entries_from size left (next_line n) lines)
    | Unknown ↦ omega arith
    | Problem ↦ omega arith
    | Entry ↦ test_err (eqb left 0) (fault ArcCount (next_line n)) (grammar.entry_of size (next_line n) (drop 1 (fields_of line)) >>= (λ entry. entries_after grammar size (left - 1) (next_line n) lines >>= (λ entries. Ok (entry ∷ entries)))) (IsFrom (next_line n)) (omega arith)
        (bind_err (grammar.entry_of size (next_line n) (drop 1 (fields_of line)))
        (λ entry. entries_after grammar size (left - 1) (next_line n) lines >>= (λ entries. Ok (entry ∷ entries))) (IsFrom (next_line n))
        (of_line (next_line n) (grammar.entry_of size (next_line n) (drop 1 (fields_of line)))
        (each size (next_line n) (drop 1 (fields_of line))))
        (λ entry. bind_err (entries_after grammar size (left - 1) (next_line n) lines) (λ entries. Ok (entry ∷ entries)) (IsFrom (next_line n))
        (IfErr-weaker (entries_after grammar size (left - 1) (next_line n) lines) (IsFrom (least_line (next_line n) lines)) (IsFrom (next_line n)) (λ e h. least_next n lines e.line h) (entries_from size (left - 1) (next_line n) lines)) (λ entries. tt)))
  ]

module _ {E : Type 0} (grammar : Grammar E) (sizes : (n : ℕ) (fields : List (List ℕ)) → IfErr (grammar.size_of n fields) (IsOfLine n)) (each : (size : Size) (n : ℕ) (fields : List (List ℕ)) → IfErr (grammar.entry_of size n fields) (IsOfLine n)) where
  listing_faults : (n : ℕ) (lines : List (List ℕ)) → IfErr (listing_after grammar n lines) (IsFrom (least_line n lines))
  unfolding listing_after
  listing_faults n [] = omega arith
  listing_faults n (line ∷ lines) = elim (kind_of grammar.letter (fields_of line)) as (λ k. IfErr (elim k [
    | Skipped ↦ listing_after grammar (next_line n) lines
    | Unknown ↦ fault UnknownLine (next_line n)
    | Problem ↦ grammar.size_of (next_line n) (drop 1 (fields_of line)) >>= (λ size. entries_after grammar size size.entries (next_line n) lines >>= (λ entries. Ok (record { size = size; entries = entries })))
    | Entry ↦ fault NoProblemLine (next_line n)
  ]) (IsFrom (next_line n))) [
    | Skipped ↦ IfErr-weaker (listing_after grammar (next_line n) lines) (IsFrom (least_line (next_line n) lines)) (IsFrom (next_line n)) (λ e h. least_next n lines e.line h) (listing_faults (next_line n) lines)
    | Unknown ↦ omega arith
    | Problem ↦ bind_err (grammar.size_of (next_line n) (drop 1 (fields_of line)))
        (λ size. entries_after grammar size size.entries (next_line n) lines >>= (λ entries. Ok (record { size = size; entries = entries })))
        (IsFrom (next_line n)) (of_line (next_line n) (grammar.size_of (next_line n) (drop 1 (fields_of line)))
        (sizes (next_line n) (drop 1 (fields_of line))))
        (λ size. bind_err (entries_after grammar size size.entries (next_line n) lines) (λ entries. Ok (record { size = size; entries = entries })) (IsFrom (next_line n))
        (IfErr-weaker (entries_after grammar size size.entries (next_line n) lines) (IsFrom (least_line (next_line n) lines)) (IsFrom (next_line n)) (λ e h. least_next n lines e.line h) (entries_from grammar each size size.entries (next_line n) lines)) (λ entries. tt))
    | Entry ↦ omega arith
  ]

  -- what the lines after some say has a fault of none of these
  from_faults : (n : ℕ) (listing : Option (Listing E)) (lines : List (List ℕ)) → IfErr (listing_from grammar n listing lines) (IsFrom (least_line n lines))
  from_faults n None lines = listing_faults n lines
  from_faults n (Some listing) lines = bind_err (entries_after grammar listing.size _ n lines) _ (IsFrom (least_line n lines)) (entries_from grammar each listing.size _ n lines) (λ entries. tt)

  -- where the lines before it were read, no fault is of an earlier line
  pub first_of : {B : Type 0} (view : Listing E → Result B GrError) → ((read : Listing E) → IfErr (view read) (λ _. ⊥))
      → {told : List ℕ → Result (Listing E) GrError} {e : GrError} → IsReadTo grammar told e → (found : GrError)
      → ((rest : List ℕ) → (told rest >>= view) ≡ Err found) → e.line ≤ found.line
  first_of view whole {told} {e} to found all =
      let rest : List ℕ = 0 ∷ [] in
      let some = some_line to.begun to.back in
      let lines : List (List ℕ) = lines_after to.begun (to.back ++ rest) in
      let known : IfErr (listing_from grammar to.number to.listing lines) (IsFrom (next_line to.number)) = subst (λ (ls : List (List ℕ)). IfErr (listing_from grammar to.number to.listing lines) (IsFrom (least_line to.number ls))) some.2 (from_faults to.number to.listing lines) in
      let told_so : IfErr (told rest) (IsFrom (next_line to.number)) = subst (λ (r : Result (Listing E) GrError). IfErr r (IsFrom (next_line to.number))) (sym (to.so_far rest)) known in
      let seen : IfErr (told rest >>= view) (IsFrom (next_line to.number)) = bind_err (told rest) view (IsFrom (next_line to.number)) told_so (λ read. IfErr-weaker (view read) (λ _. ⊥) (IsFrom (next_line to.number)) (λ e never. absurd never) (whole read)) in
      let least : next_line to.number ≤ found.line = IfErr-at_err (IsFrom (next_line to.number)) (all rest) seen in
      omega (arith, to.line_is, least)
    where
      some_cut : (begun back : List ℕ) → (line : List ℕ) × (lines : List (List ℕ)) × (cut_after begun (back ++ 0 ∷ []) ≡ line ∷ lines)
      some_cut [] [] = (0 ∷ [], [], refl)
      some_cut (b ∷ begun) [] = (b ∷ begun ++ 0 ∷ [], [], refl)
      some_cut begun (b ∷ back) = elim (eqb b 10) as (λ t. (line : List ℕ) × (lines : List (List ℕ)) × (cond t (begun ∷ cut_after [] (back ++ 0 ∷ [])) (cut_after (begun ++ b ∷ []) (back ++ 0 ∷ [])) ≡ line ∷ lines)) [
        | true ↦ (begun, cut_after [] (back ++ 0 ∷ []), refl)
        | false ↦ some_cut (begun ++ b ∷ []) back
      ]

      some_line : (begun back : List ℕ) → (line : List ℕ) × (lines : List (List ℕ)) × (lines_after begun (back ++ 0 ∷ []) ≡ line ∷ lines)
      some_line begun back = let some = some_cut begun back in (strip_carriage_return some.0, map strip_carriage_return some.1, ap (map strip_carriage_return) some.2)

-- What a text says is what its lines say, and a fault of a line is of that line.
pub record IsText {E B : Type 0} (grammar : Grammar E) (view : Listing E → Result B GrError) (told : List ℕ → Result B GrError) : Type 0 where
  pub sizes : (n : ℕ) (fields : List (List ℕ)) → IfErr (grammar.size_of n fields) (IsOfLine n)
  pub each : (size : Size) (n : ℕ) (fields : List (List ℕ)) → IfErr (grammar.entry_of size n fields) (IsOfLine n)
  pub whole : (read : Listing E) → IfErr (view read) (λ _. ⊥)
  pub seen : (text : List ℕ) → (listing_after grammar 0 (lines_of text) >>= view) ≡ told text

pub graph_text : IsText graph_grammar as_graph graph_of
graph_text = record { sizes = graph_size-at; each = λ size n fields. road_of-at n size.nodes fields; whole = λ read. tt; seen = graph_seen }

pub pairs_text : (nodes : ℕ) → IsText (pair_grammar nodes) as_pairs (pairs_of nodes)
pairs_text nodes = record { sizes = λ n fields. pairs_size-at n nodes fields; each = λ size n fields. pair_of-at n size.nodes fields; whole = λ read. tt; seen = pairs_seen nodes }

pub first_taken : {E B : Type 0} {grammar : Grammar E} {view : Listing E → Result B GrError} {told : List ℕ → Result B GrError} → IsText grammar view told → (taken : Taken E) (piece : List ℕ) (r : Result ⊤ GrError)
    → IfErr r (IsReadTo grammar (λ rest. told_with grammar taken (piece ++ rest))) → IfErr r (ComesFirst (λ rest. told_with grammar taken rest >>= view) piece)
first_taken {grammar = grammar} {view = view} is taken piece r h = IfErr-weaker r _ (ComesFirst (λ rest. told_with grammar taken rest >>= view) piece)
    (λ e to. first_of grammar is.sizes is.each view is.whole to) h

-- Where a reader stops

-- the lines before the refusal's were read of the text that begins with these bytes
abbrev pub ReadTo : {E : Type 0} → Grammar E → (List ℕ → Result (Listing E) GrError) → List ℕ → GrError → Type 0
ReadTo grammar told taken e = IsReadTo grammar (λ rest. told (taken ++ rest)) e

abbrev pub listed : {E : Type 0} → Grammar E → List ℕ → Result (Listing E) GrError
listed grammar text = listing_after grammar 0 (lines_of text)

pub stops_with : (P Q : List ℕ → GrError → Type 0) (had left : Option (List ℕ)) (e : GrError) → ((taken : List ℕ) → P taken e → Q taken e) → StopsWith P had left e → StopsWith Q had left e
stops_with P Q None left e f stops nothing = tt
stops_with P Q (Some text) None e f stops nothing = absurd (stops nothing)
stops_with P Q (Some text) (Some rest) e f stops nothing = let h = stops nothing in (h.0, h.1, f h.0 h.2)

pub stops_there : (P : List ℕ → GrError → Type 0) (taken : List ℕ) (had left : Option (List ℕ)) (e : GrError) → IfSome had (λ text. MatchOption left ⊥ (λ rest. taken ++ rest ≡ text)) → (SaysNothing e → P taken e) → StopsWith P had left e
stops_there P taken None left e known h nothing = tt
stops_there P taken (Some text) None e known h nothing = absurd known
stops_there P taken (Some text) (Some rest) e known h nothing = (taken, known, h nothing)

-- What is read of a text, where this is read of its lines

module _ {E B : Type 0} {grammar : Grammar E} {view : Listing E → Result B GrError} {told : List ℕ → Result B GrError} (is : IsText grammar view told) where
  known_read : (had : Option (List ℕ)) (listing : Listing E) (y : B) → IfSome had (λ text. listed grammar text ≡ Ok listing) → view listing ≡ Ok y → IfSome had (λ text. told text ≡ Ok y)
  known_read None listing y read made = tt
  known_read (Some text) listing y read made = sym (is.seen text) ∙ ap (λ (r : Result (Listing E) GrError). r >>= view) read ∙ made

  known_fault : (had : Option (List ℕ)) (e : GrError) → IfSome had (λ text. FromText e.kind (listed grammar text ≡ Err e)) → IfSome had (λ text. FromText e.kind (told text ≡ Err e))
  known_fault None e fault = tt
  known_fault (Some text) e fault = from_text_map e.kind (λ h. sym (is.seen text) ∙ ap (λ (r : Result (Listing E) GrError). r >>= view) h) fault

  pub text_read : {S A : Type 0} {step : S → S → Result ℕ Error → Type 0} {remaining : S → Option (List ℕ)} {most : ℕ} {from to : S} (shown : A → B) (listing : Listing E) (x : A)
      → IfSome (remaining from) (λ text. listed grammar text ≡ Ok listing) → view listing ≡ Ok (shown x) → ReachesEnd step remaining most from to
      → ReadsText step remaining told shown most from to (Ok x)
  text_read {remaining} {from = from} shown listing x read made end = record {
    reading = known_read (remaining from) listing (shown x) read made;
    ended = end.ended;
    few = end.few;
    calls = end.calls;
    reached = tt;
    stopped = tt;
    before = tt;
  }

  pub text_refused : {S A : Type 0} {step : S → S → Result ℕ Error → Type 0} {remaining : S → Option (List ℕ)} {most : ℕ} {from to : S} (shown : A → B) (r : Result A GrError) {e : GrError}
      → IsErrAnd r (λ d. d ≡ e) → IfSome (remaining from) (λ text. FromText e.kind (listed grammar text ≡ Err e)) → StopsBefore step remaining most from to e
      → StopsWith (ReadTo grammar (listed grammar)) (remaining from) (remaining to) e → ReadsText step remaining told shown most from to r
  text_refused shown (Ok x) propagated fault stops before = absurd propagated
  text_refused {remaining} {from = from} {to = to} shown (Err d) {e} propagated fault stops before =
      let same : d ≡ e = propagated in
      rw same (record {
        reading = known_fault (remaining from) e fault;
        ended = tt;
        few = tt;
        calls = tt;
        reached = stops.reached;
        stopped = stops.calls;
        before = stops_with (ReadTo grammar (listed grammar)) (ComesFirst told) (remaining from) (remaining to) e
            (λ taken to found all. first_of grammar is.sizes is.each view is.whole to found (λ rest. is.seen (taken ++ rest) ∙ all rest)) before;
      })

-- How far the lines were read

module _ {E : Type 0} (grammar : Grammar E) where
  pub read_then : (told : List ℕ → Result (Listing E) GrError) {later : List ℕ → Result (Listing E) GrError} {e : GrError} → ((rest : List ℕ) → told rest ≡ later rest) → IsReadTo grammar later e → IsReadTo grammar told e
  read_then told same to = record { number = to.number; listing = to.listing; begun = to.begun; back = to.back; so_far = λ rest. same rest ∙ to.so_far rest; line_is = to.line_is }

  pub read_kept : (r : Result ⊤ GrError) (told : List ℕ → Result (Listing E) GrError) (n : ℕ) (listing : Option (Listing E)) (begun back : List ℕ)
      → ((rest : List ℕ) → told rest ≡ listing_from grammar n listing (lines_after begun (back ++ rest)))
      → IfErr r (λ e. e ≡ record { kind = OutOfMemory; line = next_line n }) → IfErr r (IsReadTo grammar told)
  read_kept r told n listing begun back same h = IfErr-weaker r _ (IsReadTo grammar told) (λ e is. record { number = n; listing = listing; begun = begun; back = back; so_far = same; line_is = ap (λ (e : GrError). e.line) is }) h

  -- a reader that was not refused says what its lines do
  pub told_fresh : (taken : Taken E) (rest : List ℕ) → taken.failed ≡ None → told_with grammar taken rest ≡ listing_from grammar taken.line taken.listing (lines_after taken.begun rest)
  told_fresh taken rest fresh = rw fresh refl

  -- after this many bytes
  pub read_so_far : (first mid : Taken E) (bytes : List ℕ) (e : GrError) → mid.failed ≡ None → ((rest : List ℕ) → told_with grammar mid rest ≡ told_with grammar first (bytes ++ rest)) → e.line ≡ next_line mid.line → IsReadTo grammar (λ rest. told_with grammar first (bytes ++ rest)) e
  read_so_far first mid bytes e fresh told line_is = record { number = mid.line; listing = mid.listing; begun = mid.begun; back = []; so_far = λ rest. sym (told rest) ∙ told_fresh mid rest fresh; line_is = line_is }

  pub read_in_piece : (first mid : Taken E) (bytes piece : List ℕ) {e : GrError}
      → ((rest : List ℕ) → told_with grammar mid rest ≡ told_with grammar first (bytes ++ rest))
      → IsReadTo grammar (λ rest. told_with grammar mid (piece ++ rest)) e
      → IsReadTo grammar (λ rest. told_with grammar first ((bytes ++ piece) ++ rest)) e
  read_in_piece first mid bytes piece {e} told to = read_then _ (λ rest. ap (told_with grammar first) (append_assoc bytes piece rest) ∙ sym (told (piece ++ rest))) to

  -- what a reader says at first is what the text says
  pub stops_listed : {first : Taken E} (had left : Option (List ℕ)) (e : GrError) → first ≡ record { line = 0; listing = None; begun = []; failed = None } → StopsWith (ReadTo grammar (told_with grammar first)) had left e → StopsWith (ReadTo grammar (listed grammar)) had left e
  stops_listed {first} had left e begins = stops_with (ReadTo grammar (told_with grammar first)) (ReadTo grammar (listed grammar)) had left e
      (λ taken to. read_then (λ rest. listed grammar (taken ++ rest))
      (λ rest. sym (told_first grammar (taken ++ rest) begins)) to)

  -- and at the end
  pub read_at_end : {A : Type 0} (r : Result A GrError) (first last : Taken E) (had left : Option (List ℕ)) → last.failed ≡ None
      → HasTaken (told_with grammar first) (told_with grammar last) last.line had left → IfErr r (IsAtEndOf last.line)
      → IfErr r (StopsWith (ReadTo grammar (told_with grammar first)) had left)
  read_at_end r first last had left fresh taken refused = IfErr-weaker r (IsAtEndOf last.line)
      (StopsWith (ReadTo grammar (told_with grammar first)) had left)
      (λ e at. stops_there (ReadTo grammar (told_with grammar first)) taken.0 had left e taken.3
      (λ nothing. read_so_far first last taken.0 e fresh taken.1 (at.memory (wants_memory e.kind nothing at.no_read)))) refused
