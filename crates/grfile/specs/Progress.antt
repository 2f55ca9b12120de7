-- What a text says whose first lines have been read.
use Rattle.std.specs.Prelude.{ℕ, ◌-◌, ◌==◌, if◌then◌else◌, List, [], ◌∷◌, ◌++◌, length, Option, Some, None, Result, Ok}
use Rattle.grfile.specs.declared.error.GrError.{GrError}
use Rattle.grfile.specs.declared.error.GrErrorKind.TheVariants.{ArcCount}
use Rattle.std.specs.Option.{option_map}
use Rattle.grfile.specs.declared.listing.Listed.{Listed}
use Rattle.grfile.specs.declared.listing.ListingProgress.{ListingProgress}
use Rattle.grfile.specs.Outcome.{◌>>=◌, fault}
use Rattle.grfile.specs.Grammar.{Grammar, Listing, entries_after, listing_after}

abbrev pub listing_of : {E : Type 0} → Listed E → Listing E
listing_of listed = record { size = listed.size; entries = listed.entries.items }

-- Line n was the last to be read, the listing is what the lines so far have, once a problem line has come, and these
-- lines follow.
abbrev pub listing_from : {E : Type 0} → Grammar E → ℕ → Option (Listing E) → List (List ℕ) → Result (Listing E) GrError
listing_from grammar n None lines = listing_after grammar n lines
listing_from grammar n (Some listing) lines = entries_after grammar listing.size (listing.size.entries - length listing.entries) n lines >>= (λ entries. Ok (record { size = listing.size; entries = listing.entries ++ entries }))

-- the same, where line n is that of an entry with these fields and isn't read yet
abbrev pub entry_then : {E : Type 0} → Grammar E → ℕ → Listing E → List (List ℕ) → List (List ℕ) → Result (Listing E) GrError
entry_then grammar n listing fields lines =
    if listing.size.entries - length listing.entries == 0 then fault ArcCount n
    else grammar.entry_of listing.size n fields >>= (λ entry. listing_from grammar n (Some (record { size = listing.size; entries = listing.entries ++ entry ∷ [] })) lines)

-- What the text says if these lines follow.
abbrev pub told_from : {E : Type 0} → Grammar E → ListingProgress E → List (List ℕ) → Result (Listing E) GrError
told_from grammar progress lines = listing_from grammar progress.line (option_map listing_of progress.listed) lines
