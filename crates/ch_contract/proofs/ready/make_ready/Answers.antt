use Rattle.std.proofs.Common.{ℕ, ◌≡◌, List, All, sym, subst, ◌∙◌}
use Rattle.std.proofs.lemmas.Result.{err_from_is_err_and}
use Rattle.ch_laws.specs.Rows.{Row}
use Rattle.ch_overlay.specs.declared.source.Seen.{Seen}
use Rattle.ch_overlay.specs.Prepared.{AreNamed}
use Rattle.ch_contract.specs.Ready.{RowsRise}
use Rattle.ch_contract.proofs.ReadRows.{named_alone}
use Rattle.ch_contract.proofs.SomeValues.{some-same}
use Rattle.ch_contract.proofs.ready.make_ready.Goals as goal

pub prepare_by-requires-clause-rise : goal.prepare_by-requires-clause-rise
prepare_by-requires-clause-rise g c = subst (λ (seen : List Seen). RowsRise seen) (sym c.as_slice-3.ensures.value) c.in_ok-beside.ensures.rise

pub returns-in_err-beside-clause-found : goal.returns-in_err-beside-clause-found
returns-in_err-beside-clause-found g c = λ row read alone unseen.
    let same : c.own-row.result.now ≡ row = some-same c.own-row.result.now row (sym c.own-row.ensures.read ∙ read) in
    let named : AreNamed row c.as_slice.result.now = subst (λ (r : Row). AreNamed r c.as_slice.result.now) same (subst (λ (ns : List ℕ). AreNamed c.own-row.result.now ns) (sym c.as_slice.ensures.value) c.in_ok-nodes.ensures) in
    let whole : All (g.S.RowSource.whole c.args.source.now) c.as_slice.result.now = named_alone (g.S.RowSource.whole c.args.source.now) row c.as_slice.result.now named alone in
    let p = err_from_is_err_and c.from_residual-in_err-beside.result c.from_residual-in_err-beside.ensures.1 in
    let is = p.1 in
    let from = p.2 in
    c.in_err-beside.ensures.found whole (cc (is, from, unseen))
