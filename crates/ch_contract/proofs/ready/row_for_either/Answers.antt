use Rattle.std.proofs.Common.{◌≡◌, Option, Some, None, IfSome, IfNone, sym, subst}
use Rattle.ch_laws.specs.Rows.{Row}
use Rattle.ch_contract.proofs.ReadRows.{found_before, found_behind}
use Rattle.ch_contract.proofs.ready.row_for_either.Goals as goal

pub returns-in-Some-clause-some : goal.returns-in-Some-clause-some
returns-in-Some-clause-some c = found_before c.args.rests_on.now c.args.beside.now c.args.node c.in-Some.row.now c.in-Some.ensures.some

pub returns-in-None-clause-some : goal.returns-in-None-clause-some
returns-in-None-clause-some c =
    subst (λ (o : Option Row). IfSome c.row_for-in-None.result (λ row. o ≡ Some row.now))
    (sym (found_behind c.args.rests_on.now c.args.beside.now c.args.node c.in-None.ensures.none)) c.row_for-in-None.ensures.some

pub returns-in-None-clause-none : goal.returns-in-None-clause-none
returns-in-None-clause-none c =
    subst (λ (o : Option Row). IfNone c.row_for-in-None.result (o ≡ None))
    (sym (found_behind c.args.rests_on.now c.args.beside.now c.args.node c.in-None.ensures.none)) c.row_for-in-None.ensures.none
