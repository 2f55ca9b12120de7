-- What a writer took, where its bytes and those of the readers are known.
use Rattle.std.specs.Prelude.{ℕ, ◌<◌, List, take, length, Option, IfSome, Some, None, ◌≡◌, ◌⊎◌, Bool, MatchBool}
use Rattle.std.specs.Io.KnownBytes.{Appends, Keeps}
use Rattle.std.proofs.lemmas.Option.{IfSome_then}
use Rattle.outcomes.specs.declared.cause.Cause.{Cause}
use Rattle.outcomes.specs.declared.cause.Cause.TheVariants.{Memory, Read, Write}
use Rattle.outcomes.specs.declared.cause.Input.{Input}

-- a fact of two texts, where both are known
abbrev pub IfBothKnown : Option (List ℕ) → Option (List ℕ) → (List ℕ → List ℕ → Type 0) → Type 0
IfBothKnown first second P = IfSome first (λ first_text. IfSome second (λ second_text. P first_text second_text))

-- the writer took a text of this kind, and nothing else
abbrev pub Writes : (List ℕ → Type 0) → Option (List ℕ) → Option (List ℕ) → Type 0
Writes P old new = (text : List ℕ) × P text × Appends old new text

-- the writer took this many bytes of a text of this kind, from the first on, but not all
abbrev pub WritesFirst : (List ℕ → Type 0) → Option (List ℕ) → Option (List ℕ) → ℕ → Type 0
WritesFirst P old new written = (text : List ℕ) × P text × (written < length text) × Appends old new (take written text)

-- What follows of texts that are known.

if_some : (o : Option (List ℕ)) {P : List ℕ → Type 0} → ((a : List ℕ) → P a) → IfSome o P
if_some None f = tt
if_some (Some a) f = f a

module _ (first second : Option (List ℕ)) where
  -- what is so of all texts
  pub all_known : {P : List ℕ → List ℕ → Type 0} → ((a b : List ℕ) → P a b) → IfBothKnown first second P
  all_known f = if_some first (λ a. if_some second (f a))

  -- what is so of the first
  pub first_known : (P : List ℕ → Type 0) → IfSome first P → IfBothKnown first second (λ a b. P a)
  first_known P told = IfSome_then first told (λ a p. if_some second (λ b. p))

  -- what follows of each
  pub both_known : {P Q : List ℕ → Type 0} {R : List ℕ → List ℕ → Type 0} → IfSome first P → IfSome second Q → ((a b : List ℕ) → P a → Q b → R a b) → IfBothKnown first second R
  both_known told more f = IfSome_then first told (λ a p. IfSome_then second more (λ b q. f a b p q))

  -- and of both
  pub known_then : {P Q : List ℕ → List ℕ → Type 0} → IfBothKnown first second P → ((a b : List ℕ) → P a b → Q a b) → IfBothKnown first second Q
  known_then told f = IfSome_then first told (λ a more. IfSome_then second more (λ b p. f a b p))

-- What a call says where a resource is refused to it or fails: memory, a read or a write.

-- it is one of these two
abbrev pub IsEither : Input → Input → Input → Type 0
IsEither first second input = (input ≡ first) ⊎ (input ≡ second)

-- By two texts the call may write a text of a kind. Out of memory, nothing is written; or, if it writes line by line, nothing
-- or such a text. If a read failed, it was of one of its inputs, and nothing is written. If a write failed, the writer took
-- the first `written` bytes of such a text, but not all. No other cause is of a resource.
abbrev pub OfResource : (by_lines : Bool) (IsInput : Input → Type 0) (first second : Option (List ℕ)) (MayWrite : List ℕ → List ℕ → List ℕ → Type 0) (old new : Option (List ℕ)) → Cause → Type 0
OfResource by_lines IsInput first second MayWrite old new Memory = MatchBool by_lines (IfBothKnown first second (λ a b. Keeps old new ⊎ Writes (MayWrite a b) old new)) (Keeps old new)
OfResource by_lines IsInput first second MayWrite old new (Read input) = IsInput input × Keeps old new
OfResource by_lines IsInput first second MayWrite old new (Write fault) = IfBothKnown first second (λ a b. WritesFirst (MayWrite a b) old new fault.written)
OfResource by_lines IsInput first second MayWrite old new cause = ⊥
