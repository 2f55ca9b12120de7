use Rattle.ch_answer.proofs.BestLines.{lines_best, routes_best}
use Rattle.ch_answer.proofs.laws.fewest_walks_are_best_paths.Goals as goal

pub returns-clause-routes : goal.returns-clause-routes
returns-clause-routes c = routes_best c.paths_are_walks.ensures.walks c.paths_are_walks.ensures.paths

pub returns-clause-lines : goal.returns-clause-lines
returns-clause-lines c = lines_best (routes_best c.paths_are_walks.ensures.walks c.paths_are_walks.ensures.paths) c.paths_are_walks.ensures.walks
