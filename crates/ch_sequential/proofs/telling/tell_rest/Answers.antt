use Rattle.std.proofs.Common.{Some, ap, sym, ◌∙◌, arith}
use Rattle.std.proofs.lemmas.Option.{slice_get-get_or}
use Rattle.ch_sequential.proofs.telling.tell_rest.Goals as goal

-- what is read at a rank is the entry there, and its neighbours rise
pub tell-requires-clause-rising : goal.tell-requires-clause-rising
tell-requires-clause-rising g c =
    let entry = c.index-log-rank.result in
    c.requires.rising c.ranks.rank entry (slice_get-get_or c.args.log.now c.ranks.rank entry (omega arith) ∙ sym (ap (λ e. Some e) c.index-log-rank.is))
