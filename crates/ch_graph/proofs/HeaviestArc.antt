-- The greatest weight of a list of arcs, as a loop finds it.
use Rattle.std.proofs.Common.{ℕ, ◌≡◌, ◌+◌, ◌<◌, List, [], ◌∷◌, ◌++◌, length, take, get_or, max, arith, ap, ◌∙◌}
use Rattle.std.proofs.lemmas.List.{take_more}
use Rattle.ch_graph.specs.declared.road.Road.{Road}
use Rattle.ch_graph.specs.Limits.{heaviest}

-- one more arc
heaviest-push : (rs : List Road) (r : Road) → heaviest (rs ++ r ∷ []) ≡ max (heaviest rs) r.weight
heaviest-push [] r = omega arith
heaviest-push (q ∷ rs) r = omega (arith, heaviest-push rs r)

-- and one more of those that a loop has seen
pub heaviest-take_more : (rs : List Road) (i : ℕ) (r : Road) → i < length rs → heaviest (take (i + 1) rs) ≡ max (heaviest (take i rs)) (get_or rs i r).weight
heaviest-take_more rs i r h = ap heaviest (take_more rs i r h) ∙ heaviest-push (take i rs) (get_or rs i r)
