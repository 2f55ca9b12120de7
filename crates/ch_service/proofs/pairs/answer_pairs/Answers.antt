use Rattle.std.proofs.Common.{All, length, subst, sym}
use Rattle.std.proofs.lemmas.Result.{err_from_is_err_and}
use Rattle.counted_io.specs.Sinks.Laws.{finishes, goes_on}
use Rattle.grfile.specs.Reading.{IsPair}
use Rattle.ch_graph.specs.Hierarchy.{Hierarchy}
use Rattle.ch_service.proofs.ByHierarchies.{all-written, pairs-by, short-written}
use Rattle.ch_service.proofs.pairs.answer_pairs.Goals as goal

pub put_pairs-answered-requires : goal.put_pairs-answered-requires
put_pairs-answered-requires g c = subst (λ (h : Hierarchy). All (IsPair (length h.ranks)) c.args.pairs.now) (sym c.in_ok-router.ensures) c.requires

pub returns-in_err-finish-clause-stops : goal.returns-in_err-finish-clause-stops
returns-in_err-finish-clause-stops g c =
    let exit = err_from_is_err_and c.from_residual-in_err-finish.result c.from_residual-in_err-finish.ensures.1 in
    let put = pairs-by c.in_ok-router.ensures c.put_pairs-answered.ensures in
    let written = finishes c.new-sink.ensures put.puts c.in_err-finish.ensures in
    rw (exit.1, exit.2) (put.text, (put.count, put.routed), written.err.0, written.err.1)

pub returns-clause-routed : goal.returns-clause-routed
returns-clause-routed g c =
    let put = pairs-by c.in_ok-router.ensures c.put_pairs-answered.ensures in
    all-written _ _ put (goes_on c.in_ok-finish.ensures) (finishes c.new-sink.ensures put.puts c.in_ok-finish.ensures).ok

pub returns-clause-stops : goal.returns-clause-stops
returns-clause-stops g c =
    let put = pairs-by c.in_ok-router.ensures c.put_pairs-answered.ensures in
    short-written _ _ put (finishes c.new-sink.ensures put.puts c.in_ok-finish.ensures).ok
