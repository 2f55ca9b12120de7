-- The faults of a line are of that line, and none is a failed read.
use Rattle.std.proofs.Common.{ℕ, ◌≢◌, ◌-◌, ◌^◌, Bool, true, false, if◌then◌else◌, ltb, ◌&&◌, List, [], ◌∷◌, Option, Some, None, Result, Ok, Err, codes, refl}
use Rattle.std.specs.Result.{IfErr}
use Rattle.std.specs.Str.{bytes_eq}
use Rattle.grfile.specs.declared.error.GrError.{GrError}
use Rattle.grfile.specs.declared.error.GrErrorKind.TheVariants.{Read, UnknownLine, FieldCount, NotANumber, NodeRange}
use Rattle.text_lines.specs.Numbers.{number_of}
use Rattle.grfile.specs.Outcome.{◌>>=◌, fault, IsOfLine}
use Rattle.grfile.specs.Grammar.{number_in}
use Rattle.grfile.specs.Roads.{graph_size, size_in_range, road_of, road_in_range, is_outside}
use Rattle.grfile.specs.Pairs.{pairs_size, pair_of}

pub bind_err : {A B : Type 0} (r : Result A GrError) (f : A → Result B GrError) (P : GrError → Type 0) → IfErr r P → ((a : A) → IfErr (f a) P) → IfErr (r >>= f) P
bind_err (Ok x) f P h next = next x
bind_err (Err e) f P h next = h

pub test_err : {A : Type 0} (b : Bool) (r s : Result A GrError) (P : GrError → Type 0) → IfErr r P → IfErr s P → IfErr (if b then r else s) P
test_err true r s P h k = h
test_err false r s P h k = k

module _ (line : ℕ) where
  unknown : UnknownLine ≢ Read
  unknown = λ h. absurd (cc)

  count : FieldCount ≢ Read
  count = λ h. absurd (cc)

  number_at : (o : Option ℕ) → IfErr {T = ℕ} {E = GrError} (elim o [ Some n ↦ Ok n | None ↦ fault NotANumber line ]) (IsOfLine line)
  number_at (Some n) = tt
  number_at None = (refl, λ h. absurd (cc))

  sizes_at : (nodes arcs : ℕ) → IfErr (size_in_range line nodes arcs) (IsOfLine line)
  sizes_at nodes arcs = test_err (ltb (2 ^ 25) nodes) _ _ (IsOfLine line) (refl, λ h. absurd (cc)) (test_err (ltb (2 ^ 27) arcs) _ _ (IsOfLine line) (refl, λ h. absurd (cc)) tt)

  pub graph_size-at : (fields : List (List ℕ)) → IfErr (graph_size line fields) (IsOfLine line)
  unfolding graph_size
  graph_size-at [] = (refl, count)
  graph_size-at (a ∷ []) = (refl, count)
  graph_size-at (a ∷ b ∷ []) = (refl, count)
  graph_size-at (word ∷ n ∷ m ∷ []) = test_err (bytes_eq word (codes "sp")) _ _ (IsOfLine line) (bind_err (number_in line n) _ (IsOfLine line) (number_at (number_of n)) (λ nodes. bind_err (number_in line m) _ (IsOfLine line) (number_at (number_of m)) (λ arcs. sizes_at nodes arcs))) (refl, unknown)
  graph_size-at (a ∷ b ∷ c ∷ d ∷ more) = (refl, count)

  outside : NodeRange ≢ Read
  outside = λ h. absurd (cc)

  roads_at : (nodes from to weight : ℕ) → IfErr (road_in_range nodes line from to weight) (IsOfLine line)
  roads_at nodes from to weight = test_err (is_outside nodes from) _ _ (IsOfLine line) (refl, outside) (test_err (is_outside nodes to) _ _ (IsOfLine line) (refl, outside) (test_err (ltb (2 ^ 32 - 1) weight) _ _ (IsOfLine line) (refl, λ h. absurd (cc)) tt))

  pub road_of-at : (nodes : ℕ) (fields : List (List ℕ)) → IfErr (road_of nodes line fields) (IsOfLine line)
  unfolding road_of
  road_of-at nodes [] = (refl, count)
  road_of-at nodes (a ∷ []) = (refl, count)
  road_of-at nodes (a ∷ b ∷ []) = (refl, count)
  road_of-at nodes (u ∷ v ∷ w ∷ []) = bind_err (number_in line u) _ (IsOfLine line) (number_at (number_of u))
      (λ from. bind_err (number_in line v) _ (IsOfLine line) (number_at (number_of v))
      (λ to. bind_err (number_in line w) _ (IsOfLine line) (number_at (number_of w)) (λ weight. roads_at nodes from to weight)))
  road_of-at nodes (a ∷ b ∷ c ∷ d ∷ more) = (refl, count)

  pub pairs_size-at : (nodes : ℕ) (fields : List (List ℕ)) → IfErr (pairs_size nodes line fields) (IsOfLine line)
  unfolding pairs_size
  pairs_size-at nodes [] = (refl, count)
  pairs_size-at nodes (a ∷ []) = (refl, count)
  pairs_size-at nodes (a ∷ b ∷ []) = (refl, count)
  pairs_size-at nodes (a ∷ b ∷ c ∷ []) = (refl, count)
  pairs_size-at nodes (first ∷ second ∷ third ∷ k ∷ []) = test_err
      (bytes_eq first (codes "aux") && bytes_eq second (codes "sp") && bytes_eq third (codes "p2p")) _ _ (IsOfLine line)
      (bind_err (number_in line k) _ (IsOfLine line) (number_at (number_of k))
      (λ count. test_err (ltb (2 ^ 27) count) _ _ (IsOfLine line) (refl, λ h. absurd (cc)) tt)) (refl, unknown)
  pairs_size-at nodes (a ∷ b ∷ c ∷ d ∷ e ∷ more) = (refl, count)

  pub pair_of-at : (nodes : ℕ) (fields : List (List ℕ)) → IfErr (pair_of nodes line fields) (IsOfLine line)
  unfolding pair_of
  pair_of-at nodes [] = (refl, count)
  pair_of-at nodes (a ∷ []) = (refl, count)
  pair_of-at nodes (s ∷ t ∷ []) = bind_err (number_in line s) _ (IsOfLine line) (number_at (number_of s))
      (λ source. bind_err (number_in line t) _ (IsOfLine line) (number_at (number_of t))
      (λ target. test_err (is_outside nodes source) _ _ (IsOfLine line) (refl, outside)
      (test_err (is_outside nodes target) _ _ (IsOfLine line) (refl, outside) tt)))
  pair_of-at nodes (a ∷ b ∷ c ∷ more) = (refl, count)
