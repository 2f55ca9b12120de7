use Rattle.std.proofs.Common.{◌≡◌, Option, Some, None, subst, sym}
use Rattle.std.specs.Option.{IfNone, SomeIff}
use Rattle.ch_cost.specs.declared.cost.Cost.{Cost}
use Rattle.ch_cost.specs.Cost.{◌⊕◌, IsWithin}
use Rattle.ch_graph.specs.LeastArcs.{IsLeastArc}
use Rattle.ch_graph.proofs.LeastArcChains.{least_arc-unique}
use Rattle.ch_graph.proofs.step.step.Goals as goal

pub returns-in_err-arc-clause-none : goal.returns-in_err-arc-clause-none
returns-in_err-arc-clause-none c = rw c.from_residual.ensures (λ arc least within. c.in_err-arc.ensures arc least.0)

-- where the sum with the least arc isn't within the limit, no sum with a least arc is
refused : (sum : Option Cost) (limit spent arc : Cost) (P : Cost → Type 0) → ((a : Cost) → P a → arc ≡ a) → SomeIff sum (IsWithin (spent ⊕ arc) limit) (spent ⊕ arc) → IfNone sum ((a : Cost) → P a → IsWithin (spent ⊕ a) limit → ⊥)
refused None limit spent arc P one none = λ a is within. none (subst (λ b. IsWithin (spent ⊕ b) limit) (sym (one a is)) within)
refused (Some d) limit spent arc P one some = tt

pub returns-clause-none : goal.returns-clause-none
returns-clause-none c = refused c.plus_within.result c.args.limit c.args.spent c.in_ok-arc.arc (IsLeastArc c.args.graph.now c.args.from c.args.to) (λ a least. least_arc-unique c.args.graph.now c.args.from c.args.to c.in_ok-arc.arc a c.in_ok-arc.ensures least) c.plus_within.ensures
