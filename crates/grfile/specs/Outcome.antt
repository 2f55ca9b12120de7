-- What a text says, or its first fault, and how a result of the code compares with it.
use Rattle.std.specs.Prelude.{◌≡◌, ◌≢◌, ℕ, ◌+◌, Result, Ok, Err, MatchResult, ⊤}
use Rattle.text_lines.specs.Numbers.{capped}
use Rattle.grfile.specs.declared.error.GrError.{GrError}
use Rattle.grfile.specs.declared.error.GrErrorKind.{GrErrorKind}
use Rattle.grfile.specs.declared.error.GrErrorKind.TheVariants.{OutOfMemory, Read}
pub mod Laws

infixl 10 ◌>>=◌
-- the first fault, or what comes of the next step
abbrev pub ◌>>=◌ : {A B : Type 0} → Result A GrError → (A → Result B GrError) → Result B GrError
(Ok x) >>= f = f x
(Err e) >>= f = Err e

abbrev pub fault : {A : Type 0} → GrErrorKind → ℕ → Result A GrError
fault kind line = Err (record { kind = kind; line = line })

-- the number of the line after line n; the first line has number 1
abbrev pub next_line : ℕ → ℕ
next_line n = capped (n + 1)

-- what a fault of this kind says of a text: out of memory and a failed read say nothing
abbrev pub FromText : GrErrorKind → Type 0 → Type 0
FromText OutOfMemory P = Unit {0}
FromText Read P = Unit {0}
FromText kind P = P

-- a refusal because memory ran out or a read failed
abbrev pub SaysNothing : GrError → Type 0
SaysNothing e = FromText e.kind ⊥

-- The result, seen by view, is the reading of a text: the same value, or the same fault of the same line.
abbrev pub IsReading : {A B : Type 0} → (A → B) → Result A GrError → Result B GrError → Type 0
IsReading view (Ok x) told = told ≡ Ok (view x)
IsReading view (Err e) told = FromText e.kind (told ≡ Err e)

-- A call that took a part of a text: what was said of the text with that part, whatever follows, is said of what
-- follows, now that the part is taken. A fault is the text's, whatever follows.
abbrev pub Takes : {Rest B : Type 0} → Result ⊤ GrError → (Rest → Result B GrError) → (Rest → Result B GrError) → Type 0
Takes {Rest} result old new = MatchResult result (λ _. (rest : Rest) → new rest ≡ old rest) (λ e. (rest : Rest) → FromText e.kind (old rest ≡ Err e))

-- a refusal of this line, by no failed read
abbrev pub IsOfLine : ℕ → GrError → Type 0
IsOfLine line e = (e.line ≡ line) × (e.kind ≢ Read)
