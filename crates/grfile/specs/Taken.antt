-- What a reader has taken of a text, and what it then says of the whole.
use Rattle.std.specs.Prelude.{◌≡◌, ◌≢◌, ◌≤◌, ◌<◌, ℕ, ◌+◌, List, [], ◌++◌, length, Option, Some, None, Result, Ok, Err, MatchResult, MatchOption, IfSome}
use Rattle.std.specs.Option.{option_map}
use Rattle.text_lines.specs.Lines.{line_feeds, lines_after}
use Rattle.ch_graph.specs.declared.road.Road.{Road}
use Rattle.ch_graph.specs.Graph.{Graph}
use Rattle.grfile.specs.declared.error.GrError.{GrError}
use Rattle.grfile.specs.declared.error.GrErrorKind.TheVariants.{OutOfMemory, Read}
use Rattle.grfile.specs.declared.pieces.Pieces.{Pieces}
use Rattle.text_lines.specs.Numbers.{capped}
use Rattle.grfile.specs.Outcome.{◌>>=◌, SaysNothing, next_line}
use Rattle.grfile.specs.Grammar.{Grammar, Listing}
use Rattle.grfile.specs.Roads.{graph_grammar}
use Rattle.grfile.specs.Pairs.{pair_grammar}
use Rattle.grfile.specs.Progress.{listing_of, listing_from}

-- What is kept of a text: how many lines have ended, what they say once a problem line has come, the bytes of the
-- line that hasn't ended, and the refusal that was returned, if there was one.
pub record Taken (E : Type 0) : Type 0 where
  pub line : ℕ
  pub listing : Option (Listing E)
  pub begun : List ℕ
  pub failed : Option GrError

-- what is kept of a query file for this many nodes
pub record PairsTaken : Type 0 where
  pub nodes : ℕ
  pub taken : Taken (ℕ × ℕ)

abbrev pub taken_of : {E : Type 0} → Pieces E → Taken E
taken_of pieces = record { line = pieces.progress.line; listing = option_map listing_of pieces.progress.listed; begun = pieces.begun.items; failed = pieces.failed }

-- what is said of the whole text if `rest` follows what was taken
abbrev pub told_with : {E : Type 0} → Grammar E → Taken E → List ℕ → Result (Listing E) GrError
told_with grammar taken rest = elim taken.failed [ Some e ↦ Err e | None ↦ listing_from grammar taken.line taken.listing (lines_after taken.begun rest) ]

abbrev pub graph_with : Taken Road → List ℕ → Result Graph GrError
graph_with taken rest = told_with graph_grammar taken rest >>= (λ (read : Listing Road). Ok (record { nodes = read.size.nodes; arcs = read.entries }))

abbrev pub pairs_with : PairsTaken → List ℕ → Result (List (ℕ × ℕ)) GrError
pairs_with taken rest = told_with (pair_grammar taken.nodes) taken.taken rest >>= (λ (read : Listing (ℕ × ℕ)). Ok read.entries)

-- The first line of a text was taken, that after line n, and the rest follows it: what the lines so far and the text
-- say is what they say with that line and the rest.
pub record TakesLine {E : Type 0} (grammar : Grammar E) (n number : ℕ) (old new : Option (Listing E)) (text rest : List ℕ) : Type 0 where
  pub told : (more : List ℕ) → listing_from grammar number new (lines_after [] (rest ++ more)) ≡ listing_from grammar n old (lines_after [] (text ++ more))
  pub line : number ≡ next_line n
  pub feeds : line_feeds text ≡ line_feeds rest + 1
  pub shorter : length rest < length text

-- A refusal of the line that was reached, by no failed read. `old` lines had ended before the call and `new` have
-- now, of at most this many.
pub record IsLineReached (old most new : ℕ) (e : GrError) : Type 0 where
  pub from : capped old ≤ new
  pub to : new ≤ most
  pub line_is : e.line ≡ next_line new
  pub no_read : e.kind ≢ Read

-- How many lines have ended after a call that took bytes with this many line feeds: one for each, or, after a refusal,
-- those before the line that was reached.
abbrev pub CountsLines : {A : Type 0} → Result A GrError → ℕ → ℕ → ℕ → Type 0
CountsLines result old feeds new = MatchResult result (λ _. new ≡ capped (old + feeds)) (IsLineReached old (old + feeds) new)

-- A refusal at the end of a text of which this many lines had ended: no failed read, and out of memory at the next.
pub record IsAtEndOf (line : ℕ) (e : GrError) : Type 0 where
  pub no_read : e.kind ≢ Read
  pub memory : e.kind ≡ OutOfMemory → e.line ≡ next_line line

-- Some bytes were taken: what was said of them and of what follows is said of what follows, and as many lines have
-- ended as they have line feeds. They are those that the reader had before what it has left, where these are known.
abbrev pub HasTaken : {B : Type 0} → (List ℕ → Result B GrError) → (List ℕ → Result B GrError) → ℕ → Option (List ℕ) → Option (List ℕ) → Type 0
HasTaken old new line had left = (bytes : List ℕ) × ((rest : List ℕ) → new rest ≡ old (bytes ++ rest)) × (line ≡ capped (line_feeds bytes)) × IfSome had (λ text. MatchOption left ⊥ (λ rest. bytes ++ rest ≡ text))

-- The line of a refusal that says nothing of a text, once these bytes of it were taken: that after the lines which have
-- ended, or, where memory ran out, one that was reached in the last piece, of at most 65,536 bytes.
pub record IsReachedAfter (taken : List ℕ) (e : GrError) : Type 0 where
  pub before : List ℕ
  pub last : List ℕ
  pub taken_are : before ++ last ≡ taken
  pub is_piece : length last ≤ 65536
  pub from : next_line (line_feeds before) ≤ e.line
  pub to : e.line ≤ next_line (line_feeds taken)
  pub read : e.kind ≡ Read → e.line ≡ next_line (line_feeds taken)

-- This is said of a refusal that says nothing of a text, and of the bytes of it that were taken, where it is known what a
-- reader had and what it has left.
abbrev pub StopsWith : (List ℕ → GrError → Type 0) → Option (List ℕ) → Option (List ℕ) → GrError → Type 0
StopsWith says had left e = SaysNothing e → IfSome had (λ text. MatchOption left ⊥ (λ rest. (taken : List ℕ) × (taken ++ rest ≡ text) × says taken e))

-- it is of the line that was reached
abbrev pub StopsAtReached : Option (List ℕ) → Option (List ℕ) → GrError → Type 0
StopsAtReached had left e = StopsWith IsReachedAfter had left e

-- Of a text that begins so no fault is of an earlier line than the refusal, whatever follows.
abbrev pub ComesFirst : {B : Type 0} → (List ℕ → Result B GrError) → List ℕ → GrError → Type 0
ComesFirst told taken e = (fault : GrError) → ((rest : List ℕ) → told (taken ++ rest) ≡ Err fault) → e.line ≤ fault.line

-- The lines before that of the refusal were read: what is said of the whole text is said of its bytes from that line on.
pub record IsReadTo {E : Type 0} (grammar : Grammar E) (told : List ℕ → Result (Listing E) GrError) (e : GrError) : Type 0 where
  pub number : ℕ
  pub listing : Option (Listing E)
  pub begun : List ℕ
  pub back : List ℕ
  pub so_far : (rest : List ℕ) → told rest ≡ listing_from grammar number listing (lines_after begun (back ++ rest))
  pub line_is : e.line ≡ next_line number
