-- What a plain line of an entry does to what a text says.
use Rattle.std.proofs.Common.{ℕ, ◌≡◌, ◌+◌, ◌-◌, ◌<◌, false, eqb, List, [], ◌∷◌, ◌++◌, length, drop, map, Option, Some, Ok, arith, refl, ap, sym, ◌∙◌, inl, inr}
use Rattle.std.specs.Option.{option_map}
use Rattle.std.specs.Str.Lines.{strip_carriage_return}
use Rattle.std.proofs.lemmas.Bool.{cases_Bool, cond-true, cond-false, ne_eqb}
use Rattle.std.proofs.lemmas.List.{append-nil, append_assoc, length-append}
use Rattle.grfile.specs.declared.listing.Listed.{Listed}
use Rattle.grfile.specs.declared.listing.ListingProgress.{ListingProgress}
use Rattle.grfile.specs.declared.form.Size.{Size}
use Rattle.text_lines.specs.Fields.{fields_of}
use Rattle.grfile.specs.Outcome.{next_line}
use Rattle.grfile.specs.Grammar.{Grammar, Listing}
use Rattle.grfile.specs.Progress.{listing_of, listing_from, entry_then, told_from}
use Rattle.text_lines.specs.Lines.{cut_after, line_feeds, lines_after}
use Rattle.grfile.specs.Taken.{TakesLine}
use Rattle.grfile.specs.PlainLines.{IsEntryBefore}
use Rattle.text_lines.specs.Lines.Laws.{feeds_both}
use Rattle.grfile.proofs.OneMoreLine.{step-entry}

-- a byte of a line that has no line feed
no_feed : (b : ℕ) (line : List ℕ) → line_feeds (b ∷ line) ≡ 0 → (eqb b 10 ≡ false) × (line_feeds line ≡ 0)
no_feed b line none = elim (cases_Bool (eqb b 10)) [
  | inl feed ↦ let some : line_feeds line + 1 ≡ 0 = sym (cond-true (eqb b 10) (line_feeds line + 1) (line_feeds line) feed) ∙ none in absurd (omega arith)
  | inr other ↦ (other, sym (cond-false (eqb b 10) (line_feeds line + 1) (line_feeds line) other) ∙ none)
]

cut_line : (begun line rest : List ℕ) → line_feeds line ≡ 0 → cut_after begun (line ++ 10 ∷ rest) ≡ (begun ++ line) ∷ cut_after [] rest
cut_line begun [] rest none = ap (λ (first : List ℕ). first ∷ cut_after [] rest) (sym (append-nil begun))
cut_line begun (b ∷ line) rest none =
    let free = no_feed b line none in
    cond-false (eqb b 10) (begun ∷ cut_after [] (line ++ 10 ∷ rest)) (cut_after (begun ++ b ∷ []) (line ++ 10 ∷ rest)) free.0 ∙ cut_line (begun ++ b ∷ []) line rest free.1 ∙ ap (λ (first : List ℕ). first ∷ cut_after [] rest) (append_assoc begun (b ∷ []) line)

-- the lines of a text that begins with this one
lines_front : {text : List ℕ} (line rest more : List ℕ) → text ≡ line ++ 10 ∷ rest → line_feeds line ≡ 0 → lines_after [] (text ++ more) ≡ strip_carriage_return line ∷ lines_after [] (rest ++ more)
lines_front line rest more text_is none =
    ap (λ (t : List ℕ). lines_after [] (t ++ more)) text_is ∙ ap (λ (t : List ℕ). lines_after [] t) (append_assoc line (10 ∷ rest) more) ∙ ap (λ (lines : List (List ℕ)). map strip_carriage_return lines) (cut_line [] line (rest ++ more) none)

module _ {E : Type 0} (grammar : Grammar E) (n : ℕ) (listing : Listing E) (fields : List (List ℕ)) (entry : E) (rest : List (List ℕ)) where
  -- an entry that there is room for
  entry_fits : length listing.entries < listing.size.entries → grammar.entry_of listing.size n fields ≡ Ok entry → entry_then grammar n listing fields rest ≡ listing_from grammar n (Some (record { size = listing.size; entries = listing.entries ++ entry ∷ [] })) rest
  entry_fits room says =
      let some : (listing.size.entries - length listing.entries ≡ 0) → ⊥ = λ e. omega arith in
      rw (ne_eqb (listing.size.entries - length listing.entries) 0 some, says) refl

module _ {E : Type 0} (grammar : Grammar E) (n number : ℕ) (old new : Listed E) (text rest : List ℕ) (entry : E) where
  pub takes_plain : number ≡ next_line n → new.size ≡ old.size → new.entries.items ≡ old.entries.items ++ entry ∷ []
      → length old.entries.items < old.size.entries → IsEntryBefore grammar old.size number text entry rest
      → TakesLine grammar n number (Some (listing_of old)) (Some (listing_of new)) text rest
  takes_plain number_is size_is entries_are room plain =
      let line = strip_carriage_return plain.line in
      let fields = drop 1 (fields_of line) in
      let listing : listing_of new ≡ record { size = old.size; entries = old.entries.items ++ entry ∷ [] } = ap (λ (size : Size). record { size = size; entries = new.entries.items }) size_is ∙ ap (λ (entries : List E). record { size = old.size; entries = entries }) entries_are in
      let feeds : line_feeds text ≡ line_feeds plain.line + (line_feeds rest + 1) = ap line_feeds plain.text_is ∙ feeds_both plain.line (10 ∷ rest) in
      let long : length text ≡ length (plain.line ++ 10 ∷ rest) = ap (λ (t : List ℕ). length t) plain.text_is in
      record {
        told = λ more.
            let after = lines_after [] (rest ++ more) in
            ap (λ (l : Listing E). listing_from grammar number (Some l) after) listing
            ∙ sym (entry_fits grammar number (listing_of old) fields entry after room plain.says)
            ∙ ap (λ (m : ℕ). entry_then grammar m (listing_of old) fields after) number_is
            ∙ sym (step-entry grammar n line fields after (listing_of old) (record { kind_is = plain.kind_is; more_are = refl }))
            ∙ sym (ap (λ (lines : List (List ℕ)). listing_from grammar n (Some (listing_of old)) lines)
            (lines_front plain.line rest more plain.text_is plain.one_line));
        line = number_is;
        feeds = omega (arith, feeds, plain.one_line);
        shorter = omega (arith, long, length-append plain.line (10 ∷ rest));
      }

-- bytes of a line that hasn't ended
cut_more : (begun text more : List ℕ) → line_feeds text ≡ 0 → cut_after begun (text ++ more) ≡ cut_after (begun ++ text) more
cut_more begun [] more none = ap (λ (line : List ℕ). cut_after line more) (sym (append-nil begun))
cut_more begun (b ∷ text) more none =
    let free = no_feed b text none in
    cond-false (eqb b 10) (begun ∷ cut_after [] (text ++ more)) (cut_after (begun ++ b ∷ []) (text ++ more)) free.0 ∙ cut_more (begun ++ b ∷ []) text more free.1 ∙ ap (λ (line : List ℕ). cut_after line more) (append_assoc begun (b ∷ []) text)

pub told_begun : {E : Type 0} (grammar : Grammar E) (first old new : ListingProgress E) (text last : List ℕ)
    → ((more : List ℕ) → told_from grammar old (lines_after [] (last ++ more)) ≡ told_from grammar first (lines_after [] (text ++ more)))
    → (line_feeds last ≡ 0) × (new.line ≡ old.line) × (option_map listing_of new.listed ≡ option_map listing_of old.listed) → (more : List ℕ)
    → told_from grammar new (lines_after last more) ≡ told_from grammar first (lines_after [] (text ++ more))
told_begun {E} grammar first old new text last told stays more =
    ap (λ (n : ℕ). listing_from grammar n (option_map listing_of new.listed) (lines_after last more)) stays.1
    ∙ ap (λ (o : Option (Listing E)). listing_from grammar old.line o (lines_after last more)) stays.2
    ∙ sym (ap (λ (lines : List (List ℕ)). told_from grammar old (map strip_carriage_return lines)) (cut_more [] last more stays.0)) ∙ told more
