-- What is said of a text that was taken in pieces, and how many of its lines have ended.
use Rattle.std.proofs.Common.{ℕ, ◌≡◌, ◌≢◌, ◌+◌, ◌*◌, ◌^◌, ◌<◌, ◌≤◌, List, [], ◌++◌, length, Option, Some, None, Result, Ok, Err, MatchResult, MatchOption, IfSome, arith, refl, ap, sym, subst, ◌∙◌}
use Rattle.std.specs.Prelude.{⊤}
use Rattle.std.specs.Io.KnownBytes.{Consumes, Keeps, IsAtEnd}
use Rattle.std.specs.Result.{IfOk, IfErr, ForOk}
use Rattle.std.proofs.lemmas.List.{append_assoc, append-nil, length-append}
use Rattle.counted_io.specs.Handing.{IsGivenBy}
use Rattle.std.specs.declared.io.Error.{Error}
use Rattle.counted_io.specs.Limits.{ReadsWithin}
use Rattle.grfile.specs.declared.error.GrError.{GrError}
use Rattle.grfile.specs.declared.error.GrErrorKind.{GrErrorKind}
use Rattle.grfile.specs.declared.error.GrErrorKind.TheVariants.{OutOfMemory, Read, UnknownLine, NoProblemLine, SecondProblemLine, FieldCount, NotANumber, NodeRange, WeightTooBig, TooManyNodes, TooManyArcs, ArcCount}
use Rattle.text_lines.specs.Lines.{lines_of, line_feeds}
use Rattle.text_lines.specs.Numbers.{capped}
use Rattle.grfile.specs.Outcome.{◌>>=◌, IsReading, FromText, IsOfLine, SaysNothing, Takes, next_line}
use Rattle.grfile.specs.Grammar.{Grammar, Listing, listing_after}
use Rattle.grfile.specs.Taken.{CountsLines, HasTaken, IsAtEndOf, IsLineReached, IsReachedAfter, StopsAtReached, Taken, told_with}
use Rattle.grfile.specs.ToTheEnd.{ReachesEnd, ReadsToEnd}
use Rattle.text_lines.specs.Lines.Laws.{feeds_both, lines_first}
use Rattle.grfile.proofs.LinesToText.{from_text_map}

pub counts_one : (r : Result ⊤ GrError) (old new : ℕ) → MatchResult r (λ _. new ≡ next_line old) (λ e. (new ≡ old) × IsOfLine (next_line old) e) → CountsLines r old 1 new
counts_one (Ok x) old new h = h
counts_one (Err e) old new h = record { from = omega arith; to = omega arith; line_is = omega arith; no_read = h.1.1 }

-- the bytes of a line that hasn't ended were kept, or not
pub counts_kept : (r : Result ⊤ GrError) (old feeds new : ℕ) → IfErr r (λ e. e ≡ record { kind = OutOfMemory; line = next_line new }) → capped new ≡ capped (old + feeds) → new < 2 ^ 64 → CountsLines r old feeds new
counts_kept (Ok x) old feeds new h count fits = omega arith
counts_kept (Err e) old feeds new h count fits = record { from = omega arith; to = omega arith; line_is = ap (λ (e : GrError). e.line) h; no_read = λ is. absurd (cc) }

pub counts_after : (old : ℕ) {mid new feeds : ℕ} (more : ℕ) {e : GrError} → mid ≡ capped (old + 1) → feeds ≡ more + 1 → IsLineReached mid (mid + more) new e → IsLineReached old (old + feeds) new e
counts_after old more mid_is feeds_are reached = record { from = omega (arith, reached.from); to = omega (arith, reached.to); line_is = reached.line_is; no_read = reached.no_read }

-- what a reader says at first
pub told_first : {E : Type 0} (grammar : Grammar E) {taken : Taken E} (rest : List ℕ) → taken ≡ record { line = 0; listing = None; begun = []; failed = None } → told_with grammar taken rest ≡ listing_after grammar 0 (lines_of rest)
told_first {E} grammar rest is = ap (λ (t : Taken E). told_with grammar t rest) is ∙ ap (λ (lines : List (List ℕ)). listing_after grammar 0 lines) (lines_first rest)

-- after a refusal
pub told_failed : {E : Type 0} (grammar : Grammar E) (taken : Taken E) (e : GrError) (rest : List ℕ) → taken.failed ≡ Some e → told_with grammar taken rest ≡ Err e
told_failed grammar taken e rest failed = rw failed refl

module _ {E B : Type 0} (grammar : Grammar E) (old new : Taken E) (piece : List ℕ) (view : Listing E → Result B GrError) where
  pub takes_seen : (r : Result ⊤ GrError) → Takes r (λ rest. told_with grammar old (piece ++ rest)) (told_with grammar new) → Takes r (λ rest. told_with grammar old (piece ++ rest) >>= view) (λ rest. told_with grammar new rest >>= view)
  takes_seen (Ok x) takes = λ rest. ap (λ (told : Result (Listing E) GrError). told >>= view) (takes rest)
  takes_seen (Err e) takes = λ rest. from_text_map e.kind (λ h. ap (λ (told : Result (Listing E) GrError). told >>= view) h) (takes rest)

  pub still_holds : (P : B → Type 0) (r : Result ⊤ GrError) → Takes r (λ rest. told_with grammar old (piece ++ rest)) (told_with grammar new)
      → IfErr r (λ e. new.failed ≡ Some e) → ((rest : List ℕ) → ForOk (told_with grammar old rest >>= view) P) → (rest : List ℕ)
      → ForOk (told_with grammar new rest >>= view) P
  still_holds P (Ok x) takes refused holds rest b is = holds (piece ++ rest) b (sym (ap (λ (told : Result (Listing E) GrError). told >>= view) (takes rest)) ∙ is)
  still_holds P (Err e) takes refused holds rest b is =
      let told = ap (λ (told : Result (Listing E) GrError). told >>= view) (told_failed grammar new e rest refused) in
      let never : Err e ≡ Ok b = sym told ∙ is in
      absurd (cc)

-- What is known of the bytes that were taken

pub known_more : (bytes chunk : List ℕ) (had left later : Option (List ℕ)) → IfSome had (λ text. MatchOption left ⊥ (λ rest. bytes ++ rest ≡ text)) → Consumes left later chunk → IfSome had (λ text. MatchOption later ⊥ (λ rest. (bytes ++ chunk) ++ rest ≡ text))
known_more bytes chunk None left later known consumes = tt
known_more bytes chunk (Some text) None later known consumes = absurd known
known_more bytes chunk (Some text) (Some xs) None known consumes = absurd consumes
known_more bytes chunk (Some text) (Some xs) (Some ys) known consumes = append_assoc bytes chunk ys ∙ ap (λ (rest : List ℕ). bytes ++ rest) (sym consumes) ∙ known

count_more : (bytes chunk : List ℕ) {mid new : ℕ} → mid ≡ capped (line_feeds bytes) → new ≡ capped (mid + line_feeds chunk) → new ≡ capped (line_feeds (bytes ++ chunk))
count_more bytes chunk mid_is new_is = omega (arith, mid_is, new_is, feeds_both bytes chunk)

pub taken_more : {B : Type 0} (old mid new : List ℕ → Result B GrError) (line : ℕ) {more : ℕ} (had left later : Option (List ℕ)) (chunk : List ℕ)
    → HasTaken old mid line had left → ((rest : List ℕ) → new rest ≡ mid (chunk ++ rest)) → more ≡ capped (line + line_feeds chunk)
    → Consumes left later chunk → HasTaken old new more had later
taken_more old mid new line {more} had left later chunk taken told count consumes = (
  taken.0 ++ chunk,
  λ rest. told rest ∙ taken.1 (chunk ++ rest) ∙ ap old (sym (append_assoc taken.0 chunk rest)),
  count_more taken.0 chunk taken.2 count,
  known_more taken.0 chunk had left later taken.3 consumes,
)

known_same : (bytes : List ℕ) (had left later : Option (List ℕ)) → IfSome had (λ text. MatchOption left ⊥ (λ rest. bytes ++ rest ≡ text)) → Keeps left later → IfSome had (λ text. MatchOption later ⊥ (λ rest. bytes ++ rest ≡ text))
known_same bytes None left later known keeps = tt
known_same bytes (Some text) None later known keeps = absurd known
known_same bytes (Some text) (Some xs) None known keeps = absurd keeps
known_same bytes (Some text) (Some xs) (Some ys) known keeps = ap (λ (rest : List ℕ). bytes ++ rest) keeps ∙ known

pub taken_same : {B : Type 0} (old new : List ℕ → Result B GrError) (line : ℕ) (had left later : Option (List ℕ)) → HasTaken old new line had left → Keeps left later → HasTaken old new line had later
taken_same old new line had left later taken keeps = (taken.0, taken.1, taken.2, known_same taken.0 had left later taken.3 keeps)

-- Where a reading stops that says nothing of its text

stops_after : (taken : List ℕ) (had left : Option (List ℕ)) (e : GrError) → IfSome had (λ text. MatchOption left ⊥ (λ rest. taken ++ rest ≡ text)) → IsReachedAfter taken e → StopsAtReached had left e
stops_after taken None left e known reached nothing = tt
stops_after taken (Some text) None e known reached nothing = absurd known
stops_after taken (Some text) (Some rest) e known reached nothing = (taken, known, reached)

-- in a piece that was taken last
pub stops_in_piece : {B : Type 0} (old mid : List ℕ → Result B GrError) {line new : ℕ} (had left later : Option (List ℕ)) (chunk : List ℕ)
    {e : GrError} → HasTaken old mid line had left → Consumes left later chunk → length chunk ≤ 65536
    → IsLineReached line (line + line_feeds chunk) new e → StopsAtReached had later e
stops_in_piece old mid had left later chunk {e} taken consumes short reached =
    stops_after (taken.0 ++ chunk) had later e (known_more taken.0 chunk had left later taken.3 consumes) (record {
      before = taken.0;
      last = chunk;
      taken_are = refl;
      is_piece = short;
      from = omega (arith, taken.2, reached.from, reached.line_is);
      to = omega (arith, taken.2, reached.to, reached.line_is, feeds_both taken.0 chunk);
      read = λ is. absurd (reached.no_read is);
    })

-- between two pieces
pub stops_between : {B : Type 0} (old mid : List ℕ → Result B GrError) (line : ℕ) (had left : Option (List ℕ)) (e : GrError) → HasTaken old mid line had left → (SaysNothing e → e.line ≡ next_line line) → StopsAtReached had left e
stops_between old mid line had left e taken line_is nothing =
    let at_line = line_is nothing in
    stops_after taken.0 had left e taken.3 (record {
      before = taken.0;
      last = [];
      taken_are = append-nil taken.0;
      is_piece = omega arith;
      from = omega (arith, taken.2, at_line);
      to = omega (arith, taken.2, at_line);
      read = λ is. omega (arith, taken.2, at_line);
    }) nothing

pub wants_memory : (kind : GrErrorKind) → FromText kind ⊥ → kind ≢ Read → kind ≡ OutOfMemory
wants_memory OutOfMemory nothing no_read = refl
wants_memory Read nothing no_read = absurd (no_read refl)
wants_memory UnknownLine nothing no_read = absurd nothing
wants_memory NoProblemLine nothing no_read = absurd nothing
wants_memory SecondProblemLine nothing no_read = absurd nothing
wants_memory FieldCount nothing no_read = absurd nothing
wants_memory NotANumber nothing no_read = absurd nothing
wants_memory NodeRange nothing no_read = absurd nothing
wants_memory WeightTooBig nothing no_read = absurd nothing
wants_memory TooManyNodes nothing no_read = absurd nothing
wants_memory TooManyArcs nothing no_read = absurd nothing
wants_memory ArcCount nothing no_read = absurd nothing

-- what is known of a piece that came
pub at_some : (A : Type 0) (P : ℕ → Type 0) (o : Option ℕ) (n : ℕ) → o ≡ Some n → MatchOption o A P → P n
at_some A P None n is known = absurd (cc)
at_some A P (Some m) n is known = let same : m ≡ n = cc in subst P same known

-- and that none came
pub at_none : (A : Type 0) (P : ℕ → Type 0) (o : Option ℕ) → o ≡ None → MatchOption o A P → A
at_none A P None is known = known
at_none A P (Some m) is known = absurd (cc)

-- How many calls were made

-- each call that is gone gave a piece at most
abbrev pub IsWithin : Option (List ℕ) → Option (List ℕ) → ℕ → ℕ → Type 0
IsWithin had left after before = IfSome had (λ text. MatchOption left ⊥ (λ rest. length text + after * 65536 ≤ length rest + before * 65536))

pub nothing_taken : (had : Option (List ℕ)) → IfSome had (λ text. MatchOption had ⊥ (λ rest. [] ++ rest ≡ text))
nothing_taken None = tt
nothing_taken (Some text) = refl

-- what is said of the end is refused by no failed read
pub reads_at_end : {S A B : Type 0} {step : S → S → Result ℕ Error → Type 0} {remaining : S → Option (List ℕ)} {most : ℕ} {from to : S}
    (r : Result A GrError) (old mid : List ℕ → Result B GrError) (line : ℕ) → HasTaken old mid line (remaining from) (remaining to)
    → IfErr r (IsAtEndOf line) → ReachesEnd step remaining most from to
    → ReadsToEnd step remaining most from to r
reads_at_end (Ok x) old mid line taken refused whole = whole
reads_at_end {remaining} {from = from} {to = to} (Err e) old mid line taken refused whole = record {
  reached = stops_between old mid line (remaining from) (remaining to) e taken (λ nothing. refused.memory (wants_memory e.kind nothing refused.no_read));
  calls = ReadsWithin.reads_on refused.no_read whole.calls;
}

pub within_first : (had : Option (List ℕ)) (after before : ℕ) → after ≤ before → IsWithin had had after before
within_first None after before fewer = tt
within_first (Some text) after before fewer = omega (arith, fewer)

pub within_more : (had left later : Option (List ℕ)) (chunk : List ℕ) (after mid before : ℕ) → IsWithin had left mid before → Consumes left later chunk → length chunk ≤ 65536 → after < mid → IsWithin had later after before
within_more None left later chunk after mid before within consumes short fewer = tt
within_more (Some text) None later chunk after mid before within consumes short fewer = absurd within
within_more (Some text) (Some xs) None chunk after mid before within consumes short fewer = absurd consumes
within_more (Some text) (Some xs) (Some ys) chunk after mid before within consumes short fewer = omega (arith, within, short, fewer, ap length consumes, length-append chunk ys)

pub within_end : (had left later : Option (List ℕ)) (after mid before : ℕ) → IsWithin had left mid before → Keeps left later → IsAtEnd later → after < mid → IsGivenBy before had
within_end None left later after mid before within keeps ended fewer = tt
within_end (Some text) None later after mid before within keeps ended fewer = absurd within
within_end (Some text) (Some xs) None after mid before within keeps ended fewer = absurd keeps
within_end (Some text) (Some xs) (Some ys) after mid before within keeps ended fewer = omega (arith, within, fewer, ap length keeps, ap length ended)

-- From what a reader says at first to what the text says

module _ {E : Type 0} (grammar : Grammar E) {first : Taken E} (begins : first ≡ record { line = 0; listing = None; begun = []; failed = None }) where
  pub first_fault : (had : Option (List ℕ)) (e : GrError) → IfSome had (λ text. FromText e.kind (told_with grammar first text ≡ Err e)) → IfSome had (λ text. FromText e.kind (listing_after grammar 0 (lines_of text) ≡ Err e))
  first_fault None e told = tt
  first_fault (Some text) e told = from_text_map e.kind (λ h. sym (told_first grammar text begins) ∙ h) told

  reading_all : {A : Type 0} (view : A → Listing E) (r : Result A GrError) {told : Result (Listing E) GrError} (text : List ℕ) → IsReading view r told → told ≡ listing_after grammar 0 (lines_of text) → IsReading view r (listing_after grammar 0 (lines_of text))
  reading_all view r {told} text reading same = subst (λ (told : Result (Listing E) GrError). IsReading view r told) same reading

  pub told_all : {A : Type 0} (view : A → Listing E) (last : Taken E) (r : Result A GrError) (had left : Option (List ℕ))
      → HasTaken (told_with grammar first) (told_with grammar last) last.line had left → IsAtEnd left → IsReading view r (told_with grammar last [])
      → IfSome had (λ text. IsReading view r (listing_after grammar 0 (lines_of text)))
  told_all view last r None left taken ended reading = tt
  told_all view last r (Some text) None taken ended reading = absurd taken.3
  told_all view last r (Some text) (Some xs) taken ended reading =
      let whole : taken.0 ++ [] ≡ text = ap (λ (rest : List ℕ). taken.0 ++ rest) (sym ended) ∙ taken.3 in
      reading_all view r text reading (taken.1 [] ∙ ap (λ (bytes : List ℕ). told_with grammar first bytes) whole ∙ told_first grammar text begins)

  told_by : {A : Type 0} (view : A → Listing E) (r : Result A GrError) {told : Result (Listing E) GrError} (text : List ℕ) → told ≡ listing_after grammar 0 (lines_of text) → IsReading view r told → IfOk r (λ x. (text : List ℕ) × (listing_after grammar 0 (lines_of text) ≡ Ok (view x)))
  told_by view (Ok x) text same reading = (text, sym same ∙ reading)
  told_by view (Err e) text same reading = tt

  pub told_some : {A : Type 0} (view : A → Listing E) (last : Taken E) (r : Result A GrError) (had left : Option (List ℕ))
      → HasTaken (told_with grammar first) (told_with grammar last) last.line had left → IsReading view r (told_with grammar last [])
      → IfOk r (λ x. (text : List ℕ) × (listing_after grammar 0 (lines_of text) ≡ Ok (view x)))
  told_some view last r had left taken reading = told_by view r (taken.0 ++ []) (taken.1 [] ∙ told_first grammar (taken.0 ++ []) begins) reading
