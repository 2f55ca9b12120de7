use Rattle.ch_query.proofs.limit.is_short.Goals as goal

pub returns : goal.returns
returns c = c.is_no_longer.ensures
