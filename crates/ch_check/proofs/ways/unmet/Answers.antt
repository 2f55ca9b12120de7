use Rattle.std.proofs.Common.{◌≡◌, ◌+◌, List, Option, Some, None, ap, arith, sym, subst, ◌∙◌}
use Rattle.std.specs.List.{slice_get}
use Rattle.std.specs.Option.{IsSomeAnd}
use Rattle.std.proofs.lemmas.List.{get_or_read}
use Rattle.std.proofs.lemmas.Option.{slice_get-get_or}
use Rattle.ch_cost.specs.Cost.{◌≼◌}
use Rattle.ch_laws.specs.declared.shortcut.Shortcut.{Shortcut}
use Rattle.ch_witness.specs.declared.way.Way.{Way}
use Rattle.ch_check.specs.Pairs.{AreUnmet}
use Rattle.ch_check.proofs.Joining.{unmet_met, unmet_more}
use Rattle.ch_check.proofs.ways.unmet.Goals as goal
use Rattle.ch_check.proofs.ways.unmet.Goals.{then-not-is_met+in_ok-push, else-not-is_met}

pub owed-preserved : goal.owed-preserved
owed-preserved c =
    let here : slice_get c.args.owed.now c.owed.place ≡ Some c.index-owed-place.result = slice_get-get_or c.args.owed.now c.owed.place c.index-owed-place.result (omega arith) ∙ ap (λ (s : Shortcut). Some s) (sym c.index-owed-place.is) in
    elim c.if-not-is_met.branch [
      | then-not-is_met+in_ok-push w ↦
          subst (λ (ps : List Shortcut). AreUnmet c.args.owed.now c.args.ways.now (c.owed.place + 1) ps) (sym (ap (λ l. l.items) w.left-is ∙ w.in_ok-push.ensures.items))
          (unmet_more here c.owed.invariant)
      | else-not-is_met w ↦
          subst (λ (ps : List Shortcut). AreUnmet c.args.owed.now c.args.ways.now (c.owed.place + 1) ps) (sym (ap (λ l. l.items) w.left-is))
          (unmet_met here c.owed.invariant
          (subst (λ (way : Option Way). IsSomeAnd way (λ (v : Way). v.cost ≼ c.index-owed-place.result.cost)) (get_or_read c.args.ways.now c.owed.place c.index-ways-place.result (omega (arith, c.requires.many)) c.index-ways-place.is None)
          (c.is_met.ensures w.if-not-is_met.false)))
    ]
