use Rattle.std.proofs.Common.{◌≡◌, slice_index_or, arith, subst, inl, inr}
use Rattle.std.proofs.lemmas.Bool.{cases_lt}
use Rattle.std.proofs.lemmas.List.{get_or_default}
use Rattle.ch_graph.specs.declared.road.Road.{Road}
use Rattle.ch_graph.specs.Limits.{IsRoad}
use Rattle.ch_graph.proofs.graph.first_bad.Goals as goal

pub arcs-preserved : goal.arcs-preserved
arcs-preserved c = λ k (d : Road) k<. elim (cases_lt k c.arcs.place) [
  | inl low ↦ c.arcs.invariant k d low
  | inr high ↦
      let here : c.arcs.place ≡ k = omega arith in
      subst (λ n. IsRoad c.args.nodes (slice_index_or c.args.arcs.now n d)) here
      (subst (IsRoad c.args.nodes) (get_or_default c.args.arcs.now c.arcs.place _ d c.arcs-test.true) (c.is_allowed.ensures.0 c.if-not-is_allowed.false))
]
