use Rattle.ch_service.proofs.BestRoutes.{answers_best}
use Rattle.ch_service.proofs.laws.answers_are_best_routes.Goals as goal

pub returns : goal.returns
returns c = answers_best c.fewest_walks_are_best_paths.ensures.lines c.graphs_are_spelled_exactly.ensures c.pairs_are_spelled_exactly.ensures
