use Rattle.std.proofs.Common.{ℕ, ◌≡◌, List, Option, Some, IfSome, sym, subst, ap, ◌∙◌, arith}
use Rattle.ch_witness.specs.Kept.{joined}
use Rattle.ch_witness.specs.Places.{IsFirstAt}
use Rattle.ch_witness.proofs.ValuesOfNodes.{read_written, value_elsewhere, value_written}
use Rattle.ch_witness.proofs.rows.Rows.put.Goals as goal

-- the node is at the place that was found
at_place : (nodes : List ℕ) (node place : ℕ) (found : Option ℕ) → found ≡ Some place → IfSome found (IsFirstAt nodes node) → IsFirstAt nodes node place
at_place nodes node place found is at = subst (λ (o : Option ℕ). IfSome o (IsFirstAt nodes node)) is at

pub returns-in-Some-clause-there : goal.returns-in-Some-clause-there
returns-in-Some-clause-there c = read_written c.args.self.now.kept.items c.in-Some.place _ (omega (arith, c.args.self.now.paired, (at_place c.args.self.now.nodes c.args.node c.in-Some.place c.args.found c.in-Some.is c.requires.found).within))

pub returns-in-Some-clause-here : goal.returns-in-Some-clause-here
returns-in-Some-clause-here c = ap joined (value_written c.args.self.now.kept.items _ c.args.self.now.paired (at_place c.args.self.now.nodes c.args.node c.in-Some.place c.args.found c.in-Some.is c.requires.found))

pub returns-in-Some-clause-others : goal.returns-in-Some-clause-others
returns-in-Some-clause-others c = λ x apart. ap joined (value_elsewhere c.args.self.now.nodes c.args.self.now.kept.items x c.in-Some.place _ (λ e. apart (sym e ∙ (at_place c.args.self.now.nodes c.args.node c.in-Some.place c.args.found c.in-Some.is c.requires.found).here)))
