-- The lines of a text are read alike from numbers and from numbers with the cap, since each test of a range is
-- blind to the cap.
use Rattle.std.proofs.Common.{ℕ, ◌≡◌, ◌≢◌, ◌-◌, ◌^◌, ◌<◌, false, if◌then◌else◌, eqb, ltb, ◌&&◌, List, [], ◌∷◌, length, codes, Option, Some, None, Result, Ok, arith, refl, ap, sym, ◌∙◌, inl, inr}
use Rattle.std.proofs.lemmas.Bool.{cases_lt, cases_Bool, lt-ltb, le-ltb, ltb-false, or_parts}
use Rattle.std.proofs.lemmas.Bool.Decides.{nat_tests}
use Rattle.std.specs.Str.{bytes_eq}
use Rattle.ch_graph.specs.declared.road.Road.{Road}
use Rattle.grfile.specs.declared.error.GrError.{GrError}
use Rattle.grfile.specs.declared.error.GrErrorKind.TheVariants.{UnknownLine, FieldCount, NotANumber, NodeRange, WeightTooBig}
use Rattle.grfile.specs.declared.form.Size.{Size}
use Rattle.text_lines.specs.Numbers.{number_of, capped}
use Rattle.grfile.specs.Outcome.{◌>>=◌, fault}
use Rattle.grfile.specs.Grammar.{number_in, capped_in}
use Rattle.grfile.specs.Roads.{graph_size, size_in_range, road_of, road_in_range, is_outside}
use Rattle.grfile.specs.Pairs.{pairs_size, count_in_range, pair_of, pair_in_range}

-- a step after a number that is blind to the cap
cap_after : {B : Type 0} (line : ℕ) (n : Option ℕ) (f g : ℕ → Result B GrError) → ((m : ℕ) → f m ≡ g (capped m)) → (elim n [ Some m ↦ Ok m | None ↦ fault NotANumber line ] >>= f) ≡ (elim n [ Some m ↦ Ok (capped m) | None ↦ fault NotANumber line ] >>= g)
cap_after line (Some m) f g blind = blind m
cap_after line None f g blind = refl

capped_step : {B : Type 0} (line : ℕ) (field : List ℕ) (f g : ℕ → Result B GrError) → ((m : ℕ) → f m ≡ g (capped m)) → (number_in line field >>= f) ≡ (capped_in line field >>= g)
capped_step line field f g blind = cap_after line (number_of field) f g blind

-- the tests of ranges are blind to the cap

size-capped : (line nodes arcs : ℕ) → size_in_range line nodes arcs ≡ size_in_range line (capped nodes) (capped arcs)
size-capped line nodes arcs = elim (cases_lt (2 ^ 25) nodes) [
  | inl many ↦ let still : 2 ^ 25 < capped nodes = omega arith in
      rw (lt-ltb (2 ^ 25) nodes many, lt-ltb (2 ^ 25) (capped nodes) still) refl
  | inr few ↦ let same : capped nodes ≡ nodes = omega arith in
      rw (same, le-ltb (2 ^ 25) nodes few) (elim (cases_lt (2 ^ 27) arcs) [
        | inl many ↦ let still : 2 ^ 27 < capped arcs = omega arith in
            rw (lt-ltb (2 ^ 27) arcs many, lt-ltb (2 ^ 27) (capped arcs) still) refl
        | inr few ↦ let same : capped arcs ≡ arcs = omega arith in
            rw same refl
      ])
]

outside-capped : (nodes n : ℕ) → nodes < 2 ^ 32 → is_outside nodes n ≡ is_outside nodes (capped n)
outside-capped nodes n h = grind (arith, nat_tests)

inside-capped : (nodes n : ℕ) → nodes < 2 ^ 32 → is_outside nodes n ≡ false → capped n ≡ n
inside-capped nodes n h within = omega (arith, ltb-false nodes n (or_parts (eqb n 0) (ltb nodes n) within).1)

-- a test of a node, and then what follows
node-capped : {B : Type 0} (nodes line n : ℕ) (f g : ℕ → Result B GrError) → nodes < 2 ^ 32 → (is_outside nodes n ≡ false → f n ≡ g n) → (if is_outside nodes n then fault NodeRange line else f n) ≡ (if is_outside nodes (capped n) then fault NodeRange line else g (capped n))
node-capped nodes line n f g h same = elim (cases_Bool (is_outside nodes n)) [
  | inl out ↦ rw (out, sym (outside-capped nodes n h) ∙ out) refl
  | inr within ↦ rw (inside-capped nodes n h within, within) (same within)
]

-- the tests of a road after those of its nodes
abbrev road_weighed : ℕ → ℕ → ℕ → ℕ → Result Road GrError
road_weighed line from to weight =
    if ltb (2 ^ 32 - 1) weight then fault WeightTooBig line
    else Ok (record { from = from - 1; to = to - 1; weight = weight })

weight-capped : (line from to weight : ℕ) → road_weighed line from to weight ≡ road_weighed line from to (capped weight)
weight-capped line from to weight = elim (cases_lt (2 ^ 32 - 1) weight) [
  | inl heavy ↦ let still : 2 ^ 32 - 1 < capped weight = omega arith in
      rw (lt-ltb (2 ^ 32 - 1) weight heavy, lt-ltb (2 ^ 32 - 1) (capped weight) still) refl
  | inr light ↦ let same : capped weight ≡ weight = omega arith in
      rw same refl
]

road-capped : (nodes line from to weight : ℕ) → nodes < 2 ^ 32 → road_in_range nodes line from to weight ≡ road_in_range nodes line (capped from) (capped to) (capped weight)
road-capped nodes line from to weight h =
    node-capped nodes line from (λ from. if is_outside nodes to then fault NodeRange line else road_weighed line from to weight)
    (λ from. if is_outside nodes (capped to) then fault NodeRange line else road_weighed line from (capped to) (capped weight)) h
    (λ _. node-capped nodes line to (λ to. road_weighed line from to weight) (λ to. road_weighed line from to (capped weight)) h
    (λ _. weight-capped line from to weight))

-- the lines, read from numbers with the cap

pub graph_size-three : (line : ℕ) {fields : List (List ℕ)} (word n m : List ℕ) → fields ≡ word ∷ n ∷ m ∷ [] → graph_size line fields ≡ (if bytes_eq word (codes "sp") then capped_in line n >>= (λ nodes. capped_in line m >>= (λ arcs. size_in_range line nodes arcs)) else fault UnknownLine line)
unfolding graph_size
graph_size-three line word n m are = rw are
    (ap (λ (read : Result Size GrError). if bytes_eq word (codes "sp") then read else fault UnknownLine line)
    (capped_step line n (λ nodes. number_in line m >>= (λ arcs. size_in_range line nodes arcs))
    (λ nodes. capped_in line m >>= (λ arcs. size_in_range line nodes arcs))
    (λ nodes. capped_step line m (λ arcs. size_in_range line nodes arcs) (λ arcs. size_in_range line (capped nodes) arcs)
    (λ arcs. size-capped line nodes arcs))))

pub graph_size-other : (line : ℕ) (fields : List (List ℕ)) → length fields ≢ 3 → graph_size line fields ≡ fault FieldCount line
unfolding graph_size
graph_size-other line [] other = refl
graph_size-other line (a ∷ []) other = refl
graph_size-other line (a ∷ b ∷ []) other = refl
graph_size-other line (a ∷ b ∷ c ∷ []) other = absurd (other refl)
graph_size-other line (a ∷ b ∷ c ∷ d ∷ more) other = refl

pub road_of-three : (nodes line : ℕ) {fields : List (List ℕ)} (u v w : List ℕ) → nodes < 2 ^ 32 → fields ≡ u ∷ v ∷ w ∷ [] → road_of nodes line fields ≡ (capped_in line u >>= (λ from. capped_in line v >>= (λ to. capped_in line w >>= (λ weight. road_in_range nodes line from to weight))))
unfolding road_of
road_of-three nodes line u v w h are = rw are
    (capped_step line u (λ from. number_in line v >>= (λ to. number_in line w >>= (λ weight. road_in_range nodes line from to weight)))
    (λ from. capped_in line v >>= (λ to. capped_in line w >>= (λ weight. road_in_range nodes line from to weight)))
    (λ from. capped_step line v (λ to. number_in line w >>= (λ weight. road_in_range nodes line from to weight))
    (λ to. capped_in line w >>= (λ weight. road_in_range nodes line (capped from) to weight))
    (λ to. capped_step line w (λ weight. road_in_range nodes line from to weight)
    (λ weight. road_in_range nodes line (capped from) (capped to) weight) (λ weight. road-capped nodes line from to weight h))))

pub road_of-other : (nodes line : ℕ) (fields : List (List ℕ)) → length fields ≢ 3 → road_of nodes line fields ≡ fault FieldCount line
unfolding road_of
road_of-other nodes line [] other = refl
road_of-other nodes line (a ∷ []) other = refl
road_of-other nodes line (a ∷ b ∷ []) other = refl
road_of-other nodes line (a ∷ b ∷ c ∷ []) other = absurd (other refl)
road_of-other nodes line (a ∷ b ∷ c ∷ d ∷ more) other = refl

count-capped : (nodes line count : ℕ) → count_in_range nodes line count ≡ count_in_range nodes line (capped count)
count-capped nodes line count = elim (cases_lt (2 ^ 27) count) [
  | inl many ↦ let still : 2 ^ 27 < capped count = omega arith in
      rw (lt-ltb (2 ^ 27) count many, lt-ltb (2 ^ 27) (capped count) still) refl
  | inr few ↦ let same : capped count ≡ count = omega arith in
      rw same refl
]

pair-capped : (nodes line source target : ℕ) → nodes < 2 ^ 32 → pair_in_range nodes line source target ≡ pair_in_range nodes line (capped source) (capped target)
pair-capped nodes line source target h =
    node-capped nodes line source (λ source. if is_outside nodes target then fault NodeRange line else Ok (source - 1, target - 1))
    (λ source. if is_outside nodes (capped target) then fault NodeRange line else Ok (source - 1, capped target - 1)) h
    (λ _. node-capped nodes line target (λ target. Ok (source - 1, target - 1)) (λ target. Ok (source - 1, target - 1)) h (λ _. refl))

pub pairs_size-four : (nodes line : ℕ) {fields : List (List ℕ)} (first second third k : List ℕ) → fields ≡ first ∷ second ∷ third ∷ k ∷ []
    → pairs_size nodes line fields ≡ (if bytes_eq first (codes "aux") && bytes_eq second (codes "sp") && bytes_eq third
    (codes "p2p") then capped_in line k >>= (λ count. count_in_range nodes line count) else fault UnknownLine line)
unfolding pairs_size
pairs_size-four nodes line first second third k are = rw are
    (ap (λ (read : Result Size GrError). if bytes_eq first (codes "aux") && bytes_eq second (codes "sp") && bytes_eq third
    (codes "p2p") then read else fault UnknownLine line)
    (capped_step line k (λ count. count_in_range nodes line count) (λ count. count_in_range nodes line count)
    (λ count. count-capped nodes line count)))

pub pairs_size-other : (nodes line : ℕ) (fields : List (List ℕ)) → length fields ≢ 4 → pairs_size nodes line fields ≡ fault FieldCount line
unfolding pairs_size
pairs_size-other nodes line [] other = refl
pairs_size-other nodes line (a ∷ []) other = refl
pairs_size-other nodes line (a ∷ b ∷ []) other = refl
pairs_size-other nodes line (a ∷ b ∷ c ∷ []) other = refl
pairs_size-other nodes line (a ∷ b ∷ c ∷ d ∷ []) other = absurd (other refl)
pairs_size-other nodes line (a ∷ b ∷ c ∷ d ∷ e ∷ more) other = refl

pub pair_of-two : (nodes line : ℕ) {fields : List (List ℕ)} (s t : List ℕ) → nodes < 2 ^ 32 → fields ≡ s ∷ t ∷ [] → pair_of nodes line fields ≡ (capped_in line s >>= (λ source. capped_in line t >>= (λ target. pair_in_range nodes line source target)))
unfolding pair_of
pair_of-two nodes line s t h are = rw are
    (capped_step line s (λ source. number_in line t >>= (λ target. pair_in_range nodes line source target))
    (λ source. capped_in line t >>= (λ target. pair_in_range nodes line source target))
    (λ source. capped_step line t (λ target. pair_in_range nodes line source target) (λ target. pair_in_range nodes line (capped source) target)
    (λ target. pair-capped nodes line source target h)))

pub pair_of-other : (nodes line : ℕ) (fields : List (List ℕ)) → length fields ≢ 2 → pair_of nodes line fields ≡ fault FieldCount line
unfolding pair_of
pair_of-other nodes line [] other = refl
pair_of-other nodes line (a ∷ []) other = refl
pair_of-other nodes line (a ∷ b ∷ []) other = absurd (other refl)
pair_of-other nodes line (a ∷ b ∷ c ∷ more) other = refl
