-- Two lists of entries become one. Contracts of private functions alone cite it.
use Rattle.std.specs.Prelude.{cond, nat_lt, nat_eq, List, [], ◌∷◌}
use Rattle.ch_laws.specs.declared.entry.Entry.{Entry}

-- the entry e comes before what `rest` makes of the new ones, at its place among them; a new one of the same other
-- node takes its place
abbrev pub merged_with : Entry → (List Entry → List Entry) → List Entry → List Entry
merged_with e rest [] = e ∷ rest []
merged_with e rest (f ∷ fs) = cond (nat_lt e.other f.other) (e ∷ rest (f ∷ fs)) (f ∷ cond (nat_eq e.other f.other) (rest fs) (merged_with e rest fs))

-- two rising lists of entries as one, where a new entry takes the place of an old one of the same other node
abbrev pub merged : List Entry → List Entry → List Entry
merged [] new = new
merged (e ∷ old) new = merged_with e (λ fs. merged old fs) new
