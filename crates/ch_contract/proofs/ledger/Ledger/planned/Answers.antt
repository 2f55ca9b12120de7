use Rattle.std.proofs.Common.{◌≡◌, ◌-◌, length, arith, sym, subst, refl, ◌∙◌}
use Rattle.std.specs.Arc.{arc_value}
use Rattle.std.proofs.lemmas.Grind.{common_steps}
use Rattle.ch_contract.specs.Ledger.{Ledger, AreLawful}
use Rattle.ch_contract.specs.Planned.{Planned, IsPlanned}
use Rattle.ch_contract.proofs.PlannedStep.{nodes_behind_first}
use Rattle.ch_contract.proofs.ledger.Ledger.planned.Goals as goal

pub returns : goal.returns
returns c =
    let ledger : Ledger = record { graph = c.self.inside.graph; overlay = c.self.inside.overlay; log = c.self.inside.log.items } in
    let rank_is : c.nodes.result - c.alive.result ≡ length c.self.inside.overlay.order = omega (arith, c.nodes.ensures.count, c.alive.ensures) in
    let planned : Planned = record { change = c.in_ok-change.change; entry = record { node = c.args.node; rank = c.nodes.result - c.alive.result; neighbours = c.in_ok-neighbours.neighbours.items; shortcuts = length c.args.shortcuts.now } } in
    let is : IsPlanned ledger c.args.node c.args.shortcuts.now planned = record {
      lawful = subst (λ (l : Ledger). AreLawful l c.args.node c.args.shortcuts.now) (sym c.self.view_is) c.requires.lawful;
      change = c.in_ok-change.ensures.change;
      of_node = c.in_ok-change.ensures.node;
      entry_node = refl;
      entry_rank = rank_is;
      entry_neighbours = c.in_ok-neighbours.ensures ∙ nodes_behind_first arc_value c.rows.result.now c.in_ok-change.change c.rows.ensures;
      entry_shortcuts = refl;
    } in
    subst (λ (l : Ledger). IsPlanned l c.args.node c.args.shortcuts.now planned) c.self.view_is is

pub neighbours_in-requires : goal.neighbours_in-requires
neighbours_in-requires c = grind (arith, common_steps) steps 200000

pub change_of-requires-clause-plan : goal.change_of-requires-clause-plan
change_of-requires-clause-plan c = grind (arith, common_steps) steps 200000
