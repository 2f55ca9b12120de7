use Rattle.best_routes.proofs.PathsAsWalks.{paths_walked, walks_traced}
use Rattle.best_routes.proofs.laws.paths_are_walks.Goals as goal

pub returns-clause-walks : goal.returns-clause-walks
returns-clause-walks c = paths_walked

pub returns-clause-paths : goal.returns-clause-paths
returns-clause-paths c = walks_traced
