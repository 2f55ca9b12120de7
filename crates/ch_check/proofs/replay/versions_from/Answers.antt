use Rattle.std.proofs.Common.{ap, sym, ◌++◌, ◌∷◌, [], ◌∙◌, ◌+◌}
use Rattle.ch_overlay.specs.Ranges.{range_with_len-more}
use Rattle.ch_check.proofs.replay.versions_from.Goals as goal

pub loop-i-preserved : goal.loop-i-preserved
loop-i-preserved c = c.in_ok-push.ensures.items ∙ ap (λ xs. xs ++ (c.args.first + c.loop-i.i) ∷ []) c.loop-i.invariant ∙ sym (range_with_len-more c.args.first c.loop-i.i)
