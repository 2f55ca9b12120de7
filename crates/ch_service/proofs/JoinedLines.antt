-- Two texts in one input: its lines, and what is refused of it.
use Rattle.std.proofs.Common.{ℕ, ◌≡◌, ◌≢◌, ◌+◌, Bool, true, false, if◌then◌else◌, ◌==◌, List, [], ◌++◌, cond, inl, inr, refl, sym, ◌∙◌, ap, subst, arith, zero, suc, ◌-◌, ◌<◌, ◌∷◌, length, take, drop, Option, Some, None, IfSome, option_map}
use Rattle.std.specs.Io.KnownBytes.{Consumes, IsAtEnd, Keeps}
use Rattle.std.proofs.lemmas.List.{append-nil, drop-drop, append_assoc, take_rest}
use Rattle.std.specs.List.{count_by, concat, onto_first}
use Rattle.std.proofs.lemmas.List.Recursion.{is_count_by}
use Rattle.std.proofs.Math.Seq.{take-add}
use Rattle.std.proofs.lemmas.Bool.{false_from_ne_true}
use Rattle.text_lines.specs.Lines.{line_feeds}
use Rattle.grfile.specs.Taken.{StopsAtReached}
use Rattle.grfile.specs.Outcome.{next_line}
use Rattle.grfile.specs.declared.error.GrError.{GrError}
use Rattle.grfile.specs.declared.error.GrErrorKind.{GrErrorKind}
use Rattle.grfile.specs.declared.error.GrErrorKind.TheVariants.{Read}
use Rattle.ch_unpack.specs.declared.error.UnpackError.TheVariants as unpacking
use Rattle.ch_workers.specs.declared.options.TheConstants.Options.{PLAIN}
use Rattle.memchr.specs.Find.{Nowhere, Passes, is_byte}
use Rattle.ch_service.specs.declared.error.ServiceError.{ServiceError}
use Rattle.ch_service.specs.declared.error.ServiceError.TheVariants.{Graph, Queries, Build, Unpack, Write, OutOfMemory}
use Rattle.ch_service.specs.Answer.{graph_part, pairs_part, ended_lines, is_percent}
use Rattle.ch_service.specs.Outcome.{AreTexts, IfBothKnown, StopsAnswering, StopsInJoined, of_fault, of_whole}

-- Line feeds as they are counted, and the lines that are reached in a joined input.

one_more : (b : Bool) (n : ℕ) → (if b then n + 1 else n) ≡ cond b (1 + n) n
one_more true n = omega arith
one_more false n = refl

pub line_feeds_count : (text : List ℕ) → line_feeds text ≡ count_by (λ b. b == 10) text
line_feeds_count text = is_count_by line_feeds (λ b. b == 10) refl (λ b rest. one_more (b == 10) (line_feeds rest)) text

-- Where both texts are read from the bytes of one whole input

-- the read that failed behind these bytes
abbrev read_behind : List ℕ → GrError
read_behind text = record { kind = Read; line = next_line (line_feeds text) }

at_kind : (P : ServiceError → Type 0) (text : List ℕ) (kind : GrErrorKind) (own : ServiceError) → P (Graph (read_behind text)) → (kind ≢ Read → P own) → P (of_fault text kind own)
at_kind P text Read own failed other = failed
at_kind P text kind own failed other = other (λ is. absurd (cc))

read_failed : (had left : Option (List ℕ)) (input : List ℕ) → Consumes had left input → StopsAtReached had left (read_behind input)
read_failed None left input taken = λ nothing. tt
read_failed (Some bytes) None input taken = absurd taken
read_failed (Some bytes) (Some rest) input taken = λ nothing. (
  input,
  sym taken,
  record {
    before = input;
    last = [];
    taken_are = append-nil input;
    is_piece = omega arith;
    from = omega arith;
    to = omega arith;
    read = λ _. refl;
  },
)

module _ (had left first second old new : Option (List ℕ)) (input graph pairs : List ℕ) (taken : Consumes had left input) (ended : IsAtEnd left) (graph_is : graph ≡ graph_part input) (pairs_are : pairs ≡ pairs_part input) where
  -- what is said of the texts is said of the parts of the input, where it is known

  whole : (had left : Option (List ℕ)) → Consumes had left input → IsAtEnd left → IfSome had (λ bytes. bytes ≡ input)
  whole None left taken ended = tt
  whole (Some bytes) None taken ended = absurd taken
  whole (Some bytes) (Some rest) taken ended = taken ∙ ap (λ l. input ++ l) ended ∙ append-nil input

  part : (had : Option (List ℕ)) → IfSome had (λ bytes. bytes ≡ input) → (part_of : List ℕ → List ℕ) (text : List ℕ) → text ≡ part_of input → (P : List ℕ → Type 0) → P text → IfSome (option_map part_of had) P
  part None is part_of text same P p = tt
  part (Some bytes) is part_of text same P p = subst P (same ∙ ap part_of (sym is)) p

  one : (part_of : List ℕ → List ℕ) {text : List ℕ} → text ≡ part_of input → (P : List ℕ → Type 0) → P text → IfSome (option_map part_of had) P
  one = part had (whole had left taken ended)

  both : (R : List ℕ → List ℕ → Type 0) → R graph pairs → IfBothKnown (option_map graph_part had) (option_map pairs_part had) R
  both R r = one graph_part graph_is (λ a. IfSome (option_map pairs_part had) (R a)) (one pairs_part pairs_are (R graph) r)

  failed : Keeps old new → StopsInJoined had left old new (Graph (read_behind input))
  failed keeps = inl ((refl, read_failed had left input taken), keeps)

  refused : (e : ServiceError) → StopsAnswering PLAIN 0 (Some graph) first (Some pairs) second old new e → StopsInJoined had left old new (of_whole input e)
  refused (Graph fault) s =
      at_kind (StopsInJoined had left old new) input fault.kind (Graph fault) (failed s.2)
      (λ other. inr (other, ended, (first, second, (one graph_part graph_is _ s.0, (λ nothing. one graph_part graph_is _ (s.1 nothing)), s.2))))
  refused (Queries fault) s =
      at_kind (StopsInJoined had left old new) input fault.kind (Queries fault) (failed s.2)
      (λ other. inr (other, ended, (first, second, (both _ s.0, (λ nothing. one pairs_part pairs_are _ (s.1 nothing)), s.2))))
  refused (Build e) s = inr (tt, ended, (first, second, (s.0, both AreTexts s.1, s.2)))
  refused (Unpack unpacking.OutOfMemory) s = inr (tt, ended, (first, second, (s.0, both _ s.1)))
  refused (Write fault) s = inr (tt, ended, (first, second, (s.0, both _ s.1)))
  refused OutOfMemory s = inr (tt, ended, (first, second, (s.0, both _ s.1)))
  refused e s = absurd s

  -- a refusal of the parts is one of the whole input
  pub parts_refused : {lists : ℕ} (e : ServiceError) → lists ≡ 0 → StopsAnswering PLAIN lists (Some graph) first (Some pairs) second old new e → StopsInJoined had left old new (of_whole input e)
  parts_refused e none s = refused e (subst (λ n. StopsAnswering PLAIN n (Some graph) first (Some pairs) second old new e) none s)

-- The lines of a joined input, as they are found.

-- the first line ends at the first line feed
pub ended_lines-first : (input : List ℕ) (k : ℕ) → k < length input → Nowhere (Passes (is_byte 10) input) 0 k → Passes (is_byte 10) input k
    → ended_lines input ≡ take (suc k) input ∷ ended_lines (drop (suc k) input)
ended_lines-first [] k within before found = absurd (omega arith)
ended_lines-first (b ∷ bs) zero within before found = rw found refl
ended_lines-first (b ∷ bs) (suc k) within before found =
    let other : is_byte 10 b ≡ false = false_from_ne_true (is_byte 10 b) (before 0 (omega arith) (omega arith)) in
    let rest = ended_lines-first bs k (omega arith) (λ j low high. before (suc j) (omega arith) (omega (arith, high))) found in
    rw (other, rest) refl

-- without a line feed there is one line
pub ended_lines-last : (input : List ℕ) → 0 < length input → Nowhere (Passes (is_byte 10) input) 0 (length input) → ended_lines input ≡ input ∷ []
ended_lines-last [] some before = absurd (omega arith)
ended_lines-last (b ∷ []) some before =
    let other : is_byte 10 b ≡ false = false_from_ne_true (is_byte 10 b) (before 0 (omega arith) (omega arith)) in
    rw other refl
ended_lines-last (b ∷ c ∷ bs) some before =
    let other : is_byte 10 b ≡ false = false_from_ne_true (is_byte 10 b) (before 0 (omega arith) (omega arith)) in
    let rest = ended_lines-last (c ∷ bs) (omega arith) (λ j low high. before (suc j) (omega arith) (omega (arith, high))) in
    rw (other, rest) refl

concat-onto_first : (b : ℕ) (lines : List (List ℕ)) → concat (onto_first b lines) ≡ b ∷ concat lines
concat-onto_first b [] = refl
concat-onto_first b (line ∷ lines) = refl

-- the lines together are the input
pub concat-ended_lines : (input : List ℕ) → concat (ended_lines input) ≡ input
concat-ended_lines [] = refl
concat-ended_lines (b ∷ bs) = go (concat-ended_lines bs) (is_byte 10 b) refl
  where
    go : concat (ended_lines bs) ≡ bs → (t : Bool) → is_byte 10 b ≡ t → concat (ended_lines (b ∷ bs)) ≡ b ∷ bs
    go rest true t = rw t (ap (λ l. b ∷ l) rest)
    go rest false t = rw t (concat-onto_first b (ended_lines bs) ∙ ap (λ l. b ∷ l) rest)

-- one line of an input, whether it is % or not

percent-first : (rest : List ℕ) (n : ℕ) → ended_lines rest ≡ take n rest ∷ ended_lines (drop n rest) → is_percent (take n rest) ≡ true → pairs_part rest ≡ drop n rest
percent-first rest n ended here = rw (ended, here) (concat-ended_lines (drop n rest))

nothing-before : (rest : List ℕ) (n : ℕ) → ended_lines rest ≡ take n rest ∷ ended_lines (drop n rest) → is_percent (take n rest) ≡ true → graph_part rest ≡ []
nothing-before rest n ended here = rw (ended, here) refl

line-first : (rest : List ℕ) (n : ℕ) → ended_lines rest ≡ take n rest ∷ ended_lines (drop n rest) → is_percent (take n rest) ≡ false
    → (graph_part rest ≡ take n rest ++ graph_part (drop n rest)) × (pairs_part rest ≡ pairs_part (drop n rest))
line-first rest n ended other = (rw (ended, other) refl, rw (ended, other) refl)

-- What is behind the start begins with a line that is so long. The code's slices are spelled as it cuts them.

line_is : (input : List ℕ) (start n : ℕ) → take (start + n - start) (drop start input) ≡ take n (drop start input)
line_is input start n = ap (λ k. take k (drop start input)) (omega arith)

abbrev pub BeginsWithLine : List ℕ → ℕ → Type 0
BeginsWithLine rest n = ended_lines rest ≡ take n rest ∷ ended_lines (drop n rest)

-- that line is %
pub pairs_part-percent : (input : List ℕ) (start n : ℕ) → BeginsWithLine (take (length input - start) (drop start input)) n → is_percent (take (start + n - start) (drop start input)) ≡ true
    → pairs_part (drop start input) ≡ take (length input - (start + n)) (drop (start + n) input)
pairs_part-percent input start n ended percent =
    let begins : BeginsWithLine (drop start input) n = subst (λ r. BeginsWithLine r n) (take_rest input start) ended in
    let here : is_percent (take n (drop start input)) ≡ true = subst (λ l. is_percent l ≡ true) (line_is input start n) percent in
    percent-first (drop start input) n begins here ∙ drop-drop n start input ∙ sym (take_rest input (start + n))

-- and nothing from it on belongs to the graph's text
pub graph_part-percent : (input : List ℕ) (start n : ℕ) → BeginsWithLine (take (length input - start) (drop start input)) n → is_percent (take (start + n - start) (drop start input)) ≡ true
    → take start input ++ graph_part (drop start input) ≡ take start input
graph_part-percent input start n ended percent =
    let begins : BeginsWithLine (drop start input) n = subst (λ r. BeginsWithLine r n) (take_rest input start) ended in
    let here : is_percent (take n (drop start input)) ≡ true = subst (λ l. is_percent l ≡ true) (line_is input start n) percent in
    ap (λ t. take start input ++ t) (nothing-before (drop start input) n begins here) ∙ append-nil (take start input)

-- it isn't, and belongs to the graph's text
pub graph_part-line : (input : List ℕ) (start n : ℕ) → BeginsWithLine (take (length input - start) (drop start input)) n → is_percent (take (start + n - start) (drop start input)) ≡ false
    → (take start input ++ graph_part (drop start input) ≡ take (start + n) input ++ graph_part (drop (start + n) input)) × (pairs_part (drop start input) ≡ pairs_part (drop (start + n) input))
graph_part-line input start n ended other =
    let begins : BeginsWithLine (drop start input) n = subst (λ r. BeginsWithLine r n) (take_rest input start) ended in
    let here : is_percent (take n (drop start input)) ≡ false = subst (λ l. is_percent l ≡ false) (line_is input start n) other in
    let first = line-first (drop start input) n begins here in
    let rest = drop-drop n start input in (
      ap (λ t. take start input ++ t) (first.0 ∙ ap (λ r. take n (drop start input) ++ graph_part r) rest)
          ∙ sym (append_assoc (take start input) (take n (drop start input)) (graph_part (drop (start + n) input)))
          ∙ ap (λ t. t ++ graph_part (drop (start + n) input)) (sym (take-add start n input)),
      first.1 ∙ ap pairs_part rest,
    )
