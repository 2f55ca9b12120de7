use Rattle.std.proofs.Common.{◌+◌, ◌++◌, ◌∷◌, List, take, drop, ap, sym, subst, refl, ◌∙◌}
use Rattle.std.proofs.lemmas.List.{take_all, drop_more, take-append-drop}
use Rattle.std.proofs.lemmas.List.Elements.{All-more}
use Rattle.ch_overlay.specs.declared.source.Seen.{Seen}
use Rattle.ch_contract.specs.Commit.{IsOld, NoneIsOld}
use Rattle.ch_contract.proofs.accepting.first_old.Goals as goal

pub returns-in-Some-clause-some : goal.returns-in-Some-clause-some
returns-in-Some-clause-some c =
    let rows = c.args.rows.now in
    let place = c.rows.seen-index in
    let s = c.seen-item.result in
    record {
      before = take place rows;
      row = s;
      after = drop (place + 1) rows;
      among =
          sym (take-append-drop place rows)
          ∙ ap (λ (rest : List Seen). take place rows ++ rest) (drop_more rows place s c.rows-test.true ∙ ap (λ (t : Seen). t ∷ drop (place + 1) rows) (sym c.seen-item.is));
      earlier = c.rows.invariant;
      old = c.in-Some.ensures.0;
      of_node = refl;
      of_version = refl;
      current = c.in-Some.ensures.1;
    }

pub rows-preserved : goal.rows-preserved
rows-preserved c =
    let IsNew : Seen → Type 0 = λ (s : Seen). IsOld c.args.ledger.now s → ⊥ in
    All-more IsNew c.args.rows.now c.rows.seen-index c.seen-item.result c.rows-test.true c.rows.invariant (subst IsNew c.seen-item.is c.in_default.ensures)

pub returns-clause-none : goal.returns-clause-none
returns-clause-none c =
    subst (λ (rows : List Seen). NoneIsOld c.args.ledger.now rows) (take_all c.rows.seen-index c.args.rows.now c.rows-test.false) c.rows.invariant
