use Rattle.std.proofs.lemmas.Option.{slice_get-get_or}
use Rattle.ch_query.proofs.NodeOfRank.{rank_below}
use Rattle.ch_query.proofs.BeginAndStop.{begun-none, begun-more}
use Rattle.ch_query.proofs.half.Half.begin.Goals as goal

pub seeds-init : goal.seeds-init
seeds-init c = begun-none c.requires.nodes c.clear.ensures

pub seeds-preserved : goal.seeds-preserved
seeds-preserved c =
    let seed = c.requires.half.seeds c.seeds.at _ c.seeds-test.true in
    begun-more (slice_get-get_or c.args.self.now.seeds.now c.seeds.at _ c.seeds-test.true)
    (rank_below c.requires.half.made seed.node_in) c.open_seed.ensures.nodes c.in_ok-open_seed.ensures.seeded c.seeds.invariant
