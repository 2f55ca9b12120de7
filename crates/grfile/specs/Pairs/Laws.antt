-- Nodes that a line names are nodes of the graph.
use Rattle.std.proofs.Common.{ℕ, ◌≡◌, ◌-◌, ◌<◌, false, eqb, ltb, List, [], ◌∷◌, arith}
use Rattle.std.specs.Result.{IfOk}
use Rattle.std.proofs.lemmas.Bool.{ltb-false, or_parts, eqb-false}
use Rattle.grfile.specs.declared.form.Size.{Size}
use Rattle.grfile.specs.Grammar.{number_in}
use Rattle.grfile.specs.Outcome.Laws.{test_ok, then_ok}
use Rattle.grfile.specs.Pairs.{pair_of}
use Rattle.grfile.specs.Reading.{IsPair}
use Rattle.grfile.specs.Roads.{is_outside}

-- a node that isn't outside has a number from 0 that is below
pub below : (nodes n : ℕ) → is_outside nodes n ≡ false → n - 1 < nodes
below nodes n within =
    let parts = or_parts (eqb n 0) (ltb nodes n) within in
    let some = eqb-false n 0 parts.0 in
    omega (arith, ltb-false nodes n parts.1)

pub pair_ok : (size : Size) (line : ℕ) (fields : List (List ℕ)) → IfOk (pair_of size.nodes line fields) (IsPair size.nodes)
unfolding pair_of
pair_ok size line [] = tt
pair_ok size line (a ∷ []) = tt
pair_ok size line (s ∷ t ∷ []) = then_ok (number_in line s) _ (IsPair size.nodes)
    (λ source. then_ok (number_in line t) _ (IsPair size.nodes)
    (λ target. test_ok (is_outside size.nodes source) _ _ (IsPair size.nodes)
    (λ source_in. test_ok (is_outside size.nodes target) _ _ (IsPair size.nodes)
    (λ target_in. (below size.nodes source source_in, below size.nodes target target_in)))))
pair_ok size line (a ∷ b ∷ c ∷ more) = tt
