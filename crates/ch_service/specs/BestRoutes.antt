-- Answers by least walks with the fewest arcs, of which the calls here speak, as answers by best paths.
use Rattle.std.specs.Prelude.{ℕ, List, ◌↔◌}
use Rattle.best_routes.specs.BestRoutes.{AreBestRoutes}
use Rattle.ch_service.specs.Answer.{AnswersByFewest}

-- what answers is one line of a best path for each pair, and such lines answer
abbrev pub AnswersAreBestRoutes : Type 0
AnswersAreBestRoutes = (graph_text pairs_text text : List ℕ) → AnswersByFewest graph_text pairs_text text ↔ AreBestRoutes graph_text pairs_text text
