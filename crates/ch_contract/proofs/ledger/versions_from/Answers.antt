use Rattle.std.proofs.Common.{◌≡◌, length, arith, ap, sym, ◌++◌, ◌∷◌, [], ◌∙◌, ◌+◌}
use Rattle.ch_contract.proofs.NewVersions.{new_versions}
use Rattle.std.specs.List.{range_with_len}
use Rattle.ch_overlay.specs.Ranges.{range_with_len-more}
use Rattle.ch_contract.proofs.ledger.versions_from.Goals as goal

pub loop-i-preserved : goal.loop-i-preserved
loop-i-preserved c =
    c.in_ok-push.ensures.items ∙ ap (λ xs. xs ++ (c.args.first + c.loop-i.i) ∷ []) c.loop-i.invariant ∙ sym (range_with_len-more c.args.first c.loop-i.i)

pub returns-clause-new : goal.returns-clause-new
returns-clause-new c l p count below =
    let all : c.before.loop-i.i ≡ length p.change.rows = omega (arith, count) in
    new_versions l p c.before.loop-i.versions.items c.args.first (c.before.loop-i.invariant ∙ ap (λ n. range_with_len c.args.first n) all) below
