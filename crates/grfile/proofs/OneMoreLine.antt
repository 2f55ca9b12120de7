-- What one more line does to what a text says.
use Rattle.std.proofs.Common.{ℕ, ◌≡◌, ◌-◌, ◌<◌, ◌≤◌, Bool, true, false, if◌then◌else◌, eqb, List, [], ◌∷◌, ◌++◌, length, drop, Option, Some, None, Result, Ok, Err, arith, refl, ap, sym, subst, ◌∙◌}
use Rattle.std.proofs.lemmas.List.{append_assoc, append-nil, length_push}
use Rattle.grfile.specs.declared.error.GrError.{GrError}
use Rattle.grfile.specs.declared.error.GrErrorKind.{GrErrorKind}
use Rattle.grfile.specs.declared.error.GrErrorKind.TheVariants.{OutOfMemory, Read, UnknownLine, NoProblemLine, SecondProblemLine, FieldCount, NotANumber, NodeRange, WeightTooBig, TooManyNodes, TooManyArcs, ArcCount}
use Rattle.grfile.specs.declared.kind.LineKind.{LineKind}
use Rattle.grfile.specs.declared.kind.LineKind.TheVariants.{Skipped, Problem, Entry, Unknown}
use Rattle.grfile.specs.declared.form.Size.{Size}
use Rattle.text_lines.specs.Fields.{fields_of}
use Rattle.grfile.specs.Outcome.{◌>>=◌, fault, next_line, FromText, Takes}
use Rattle.grfile.specs.Grammar.{Grammar, Listing, kind_of, entries_after, listing_after}
use Rattle.grfile.specs.Progress.{listing_of, listing_from, entry_then}
use Rattle.grfile.specs.declared.listing.Listed.{Listed}
use Rattle.std.specs.Prelude.{⊤}
use Rattle.std.specs.Option.{option_map, is_some, ok_or}
use Rattle.std.proofs.lemmas.Bool.{true≢false, false≢true, ne_eqb}

pub from_text : (kind : GrErrorKind) {P : Type 0} → P → FromText kind P
from_text OutOfMemory p = tt
from_text Read p = tt
from_text UnknownLine p = p
from_text NoProblemLine p = p
from_text SecondProblemLine p = p
from_text FieldCount p = p
from_text NotANumber p = p
from_text NodeRange p = p
from_text WeightTooBig p = p
from_text TooManyNodes p = p
from_text TooManyArcs p = p
from_text ArcCount p = p

-- the line is of this kind, and has these fields after its first
pub record IsRead {E : Type 0} (grammar : Grammar E) (line : List ℕ) (kind : LineKind) (more : List (List ℕ)) : Type 0 where
  pub kind_is : kind_of grammar.letter (fields_of line) ≡ kind
  pub more_are : drop 1 (fields_of line) ≡ more

pub read_first : {E : Type 0} (grammar : Grammar E) (line : List ℕ) {letter : ℕ} {fields : List (List ℕ)} (more : List (List ℕ)) (first : List ℕ)
    {found kind : LineKind} → letter ≡ grammar.letter → fields ≡ fields_of line → fields ≡ first ∷ more
    → ((rest : List (List ℕ)) → found ≡ kind_of letter (first ∷ rest)) → found ≡ kind → IsRead grammar line kind more
read_first grammar line more first {kind} letter_is fields_are parts found_is kind_is =
    let whole : fields_of line ≡ first ∷ more = sym fields_are ∙ parts in
    record {
      kind_is = rw whole (subst (λ (l : ℕ). kind_of l (first ∷ more) ≡ kind) letter_is (sym (found_is more) ∙ kind_is));
      more_are = ap (drop 1) whole;
    }

pub read_nothing : {E : Type 0} (grammar : Grammar E) (line : List ℕ) {fields : List (List ℕ)} → fields ≡ fields_of line → fields ≡ [] → IsRead grammar line Skipped []
read_nothing grammar line fields_are none =
    let whole : fields_of line ≡ [] = sym fields_are ∙ none in
    record { kind_is = rw whole refl; more_are = ap (drop 1) whole }

-- entries after those in front
abbrev joined : {E : Type 0} → Size → List E → List E → Result (Listing E) GrError
joined size front entries = Ok (record { size = size; entries = front ++ entries })

push_front : {E : Type 0} (size : Size) (front : List E) (entry : E) (read : Result (List E) GrError) → ((read >>= (λ entries. Ok (entry ∷ entries))) >>= joined size front) ≡ (read >>= joined size (front ++ entry ∷ []))
push_front {E} size front entry (Ok entries) = ap (λ (all : List E). joined size [] all) (sym (append_assoc front (entry ∷ []) entries))
push_front size front entry (Err e) = refl

module _ {E : Type 0} (grammar : Grammar E) (n : ℕ) (rest : List (List ℕ)) where
  -- what is said once an entry was read, with this many left
  abbrev said_after : Listing E → ℕ → E → Result (Listing E) GrError
  said_after listing left entry = (entries_after grammar listing.size left n rest >>= (λ entries. Ok (entry ∷ entries))) >>= joined listing.size listing.entries

  push_step : (listing : Listing E) (entry : E) → said_after listing (listing.size.entries - length listing.entries - 1) entry ≡ listing_from grammar n (Some (record { size = listing.size; entries = listing.entries ++ entry ∷ [] })) rest
  push_step listing entry =
      let fewer : listing.size.entries - length listing.entries - 1 ≡ listing.size.entries - length (listing.entries ++ entry ∷ []) = omega (arith, length_push listing.entries entry) in
      ap (λ (left : ℕ). said_after listing left entry) fewer ∙ push_front listing.size listing.entries entry (entries_after grammar listing.size (listing.size.entries - length (listing.entries ++ entry ∷ [])) n rest)

  -- the line of an entry that says this, where there is room for it or not
  entry_step : (listing : Listing E) (is_full : Bool) (says : Result E GrError)
      → ((if is_full then fault ArcCount n else
      (says >>= (λ entry. entries_after grammar listing.size (listing.size.entries - length listing.entries - 1) n rest >>=
      (λ entries. Ok (entry ∷ entries))))) >>= joined listing.size listing.entries) ≡
      (if is_full then fault ArcCount n else (says >>=
      (λ entry. listing_from grammar n (Some (record { size = listing.size; entries = listing.entries ++ entry ∷ [] })) rest)))
  entry_step listing true says = refl
  entry_step listing false (Ok entry) = push_step listing entry
  entry_step listing false (Err e) = refl

  -- a problem line that says this
  size_step : (says : Result Size GrError) → (says >>= (λ size. entries_after grammar size size.entries n rest >>= (λ entries. Ok (record { size = size; entries = entries })))) ≡ (says >>= (λ size. listing_from grammar n (Some (record { size = size; entries = [] })) rest))
  size_step (Ok size) = let all : size.entries ≡ size.entries - 0 = omega arith in
      ap (λ (left : ℕ). entries_after grammar size left n rest >>= (λ entries. Ok (record { size = size; entries = entries }))) all
  size_step (Err e) = refl

module _ {E : Type 0} (grammar : Grammar E) (n : ℕ) (line : List ℕ) (more : List (List ℕ)) (rest : List (List ℕ)) where
  pub step-skipped : (o : Option (Listing E)) → IsRead grammar line Skipped more → listing_from grammar (next_line n) o rest ≡ listing_from grammar n o (line ∷ rest)
  unfolding entries_after listing_after
  step-skipped None read = sym (rw (read.kind_is, listing_after) refl)
  step-skipped (Some listing) read = sym (rw (read.kind_is, entries_after) refl)

  pub step-unknown : (o : Option (Listing E)) → IsRead grammar line Unknown more → listing_from grammar n o (line ∷ rest) ≡ fault UnknownLine (next_line n)
  unfolding entries_after listing_after
  step-unknown None read = rw (read.kind_is, listing_after) refl
  step-unknown (Some listing) read = rw (read.kind_is, entries_after) refl

  pub step-second : (listing : Listing E) → IsRead grammar line Problem more → listing_from grammar n (Some listing) (line ∷ rest) ≡ fault SecondProblemLine (next_line n)
  unfolding entries_after listing_after
  step-second listing read = rw (read.kind_is, entries_after) refl

  pub step-early : IsRead grammar line Entry more → listing_from grammar n None (line ∷ rest) ≡ fault NoProblemLine (next_line n)
  unfolding entries_after listing_after
  step-early read = rw (read.kind_is, listing_after) refl

  pub step-problem : IsRead grammar line Problem more → listing_from grammar n None (line ∷ rest) ≡ (grammar.size_of (next_line n) more >>= (λ size. listing_from grammar (next_line n) (Some (record { size = size; entries = [] })) rest))
  unfolding entries_after listing_after
  step-problem read = rw (read.kind_is, read.more_are, listing_after) (size_step grammar (next_line n) rest (grammar.size_of (next_line n) more))

  pub step-entry : (listing : Listing E) → IsRead grammar line Entry more → listing_from grammar n (Some listing) (line ∷ rest) ≡ entry_then grammar (next_line n) listing more rest
  unfolding entries_after listing_after
  step-entry listing read = rw (read.kind_is, read.more_are, entries_after) (entry_step grammar (next_line n) rest listing (eqb (listing.size.entries - length listing.entries) 0) (grammar.entry_of listing.size (next_line n) more))

none_of : {A : Type 0} (o : Option A) → is_some o ≡ false → o ≡ None
none_of None none = refl
none_of (Some x) none = absurd (true≢false none)

some_of : {A : Type 0} (o : Option A) → is_some o ≡ true → (x : A) × (o ≡ Some x)
some_of None some = absurd (false≢true some)
some_of (Some x) some = (x, refl)

module _ {E : Type 0} (grammar : Grammar E) (n : ℕ) (line : List ℕ) (more : List (List ℕ)) (o : Option (Listed E)) (rest : List (List ℕ)) where
  pub step-opens : (size : Size) {entries : List E} → is_some o ≡ false → IsRead grammar line Problem more
      → grammar.size_of (next_line n) more ≡ Ok size → entries ≡ []
      → listing_from grammar (next_line n) (Some (record { size = size; entries = entries })) rest ≡ listing_from grammar n (option_map listing_of o)
      (line ∷ rest)
  step-opens size {entries} none read says empty =
      rw (empty, none_of o none) (sym (step-problem grammar n line more rest read ∙ ap (λ (r : Result Size GrError). r >>= (λ size. listing_from grammar (next_line n) (Some (record { size = size; entries = [] })) rest)) says))

  pub step-refuses : (e : GrError) → is_some o ≡ false → IsRead grammar line Problem more → grammar.size_of (next_line n) more ≡ Err e → listing_from grammar n (option_map listing_of o) (line ∷ rest) ≡ Err e
  step-refuses e none read says =
      rw (none_of o none) (step-problem grammar n line more rest read ∙ ap (λ (r : Result Size GrError). r >>= (λ size. listing_from grammar (next_line n) (Some (record { size = size; entries = [] })) rest)) says)

  pub step-again : is_some o ≡ true → IsRead grammar line Problem more → listing_from grammar n (option_map listing_of o) (line ∷ rest) ≡ fault SecondProblemLine (next_line n)
  step-again some read = let listed = some_of o some in
      rw listed.1 (step-second grammar n line more rest (listing_of listed.0) read)

  pub step-before : o ≡ None → IsRead grammar line Entry more → listing_from grammar n (option_map listing_of o) (line ∷ rest) ≡ fault NoProblemLine (next_line n)
  step-before none read = ap (λ (p : Option (Listed E)). listing_from grammar n (option_map listing_of p) (line ∷ rest)) none ∙ step-early grammar n line more rest read

  pub step-lists : (listed : Listed E) → o ≡ Some listed → IsRead grammar line Entry more → listing_from grammar n (option_map listing_of o) (line ∷ rest) ≡ entry_then grammar (next_line n) (listing_of listed) more rest
  step-lists listed some read = ap (λ (p : Option (Listed E)). listing_from grammar n (option_map listing_of p) (line ∷ rest)) some ∙ step-entry grammar n line more rest (listing_of listed) read

-- what was taken, in other words
pub taken_along : {Rest B : Type 0} (r : Result ⊤ GrError) (old new old' new' : Rest → Result B GrError) → Takes r old new → ((rest : Rest) → old' rest ≡ old rest) → ((rest : Rest) → new' rest ≡ new rest) → Takes r old' new'
taken_along (Ok x) old new old' new' taken olds news = λ rest. news rest ∙ taken rest ∙ sym (olds rest)
taken_along {B = B} (Err e) old new old' new' taken olds news = λ rest. subst (λ (told : Result B GrError). FromText e.kind (told ≡ Err e)) (sym (olds rest)) (taken rest)

-- The end of a text

module _ {E : Type 0} (grammar : Grammar E) (n : ℕ) where
  pub ends-none : (o : Option (Listed E)) {d : GrError} (e : GrError) → d ≡ record { kind = NoProblemLine; line = n } → ok_or o d ≡ Err e → FromText e.kind (listing_from grammar n (option_map listing_of o) [] ≡ Err e)
  unfolding listing_after
  ends-none None e d_is none =
      let e_is : record { kind = NoProblemLine; line = n } ≡ e = cc in
      subst (λ (e : GrError). FromText e.kind (listing_from grammar n None [] ≡ Err e)) e_is refl
  ends-none (Some listed) e d_is none = absurd (cc)

  pub ends-short : (listing : Listing E) → length listing.entries < listing.size.entries → listing_from grammar n (Some listing) [] ≡ fault ArcCount n
  unfolding entries_after
  ends-short listing short =
      let wants : (listing.size.entries - length listing.entries ≡ 0) → ⊥ = λ e. omega arith in
      rw (ne_eqb (listing.size.entries - length listing.entries) 0 wants) refl

  pub ends-full : (listing : Listing E) → listing.size.entries ≤ length listing.entries → listing_from grammar n (Some listing) [] ≡ Ok listing
  unfolding entries_after
  ends-full listing full =
      let done : listing.size.entries - length listing.entries ≡ 0 = omega arith in
      rw (done, append-nil listing.entries) refl
