-- The lines of answers by least walks with the fewest arcs, and answers by such lines.
use Rattle.std.proofs.Common.{ℕ, ◌≡◌, List, [], ◌∷◌, ◌++◌, refl, ap, sym, subst}
use Rattle.std.specs.List.{AllZip, concat}
use Rattle.best_routes.specs.BestRoutes.{AreBestRoutes, IsAnswerLine}
use Rattle.ch_answer.specs.BestLines.{AnswersAreLines}
use Rattle.ch_graph.specs.Graph.{Graph}
use Rattle.ch_route.specs.Routes.{IsFewestWalk}
use Rattle.grfile.specs.Reading.{GraphsAreSpelledExactly, PairsAreSpelledExactly}
use Rattle.ch_service.specs.Answer.{AnswersByFewest, AreAnswers, nothing, one_more}
use Rattle.ch_service.specs.BestRoutes.{AnswersAreBestRoutes}

module _ (law : AnswersAreLines) (g : Graph) where
  -- the text is a line for each pair
  record AreLines (pairs : List (ℕ × ℕ)) (text : List ℕ) : Type 0 where
    lines : List (List ℕ)
    answered : AllZip (IsAnswerLine g) pairs lines
    text_is : text ≡ concat lines

  as_lines : {pairs : List (ℕ × ℕ)} {text : List ℕ} → AreAnswers (IsFewestWalk g) pairs text → AreLines pairs text
  as_lines nothing = record { lines = []; answered = tt; text_is = refl }
  as_lines (one_more {pair = pair} {line = line} first rest) =
      let more = as_lines rest in
      record { lines = line ∷ more.lines; answered = ((law g pair line).0 first, more.answered); text_is = ap (λ (text : List ℕ). line ++ text) more.text_is }

  as_answers : (pairs : List (ℕ × ℕ)) (lines : List (List ℕ)) → AllZip (IsAnswerLine g) pairs lines → AreAnswers (IsFewestWalk g) pairs (concat lines)
  as_answers [] [] are = nothing
  as_answers [] (line ∷ lines) are = absurd are
  as_answers (pair ∷ pairs) [] are = absurd are
  as_answers (pair ∷ pairs) (line ∷ lines) are = one_more ((law g pair line).1 are.0) (as_answers pairs lines are.1)

pub answers_best : AnswersAreLines → GraphsAreSpelledExactly → PairsAreSpelledExactly → AnswersAreBestRoutes
answers_best law graphs pairs graph_text pairs_text text = (
  λ (answers : AnswersByFewest graph_text pairs_text text).
      let lines = as_lines law answers.graph answers.answered in
      record {
        graph = answers.graph;
        pairs = answers.pairs;
        lines = lines.lines;
        spelled = (graphs graph_text answers.graph).0 answers.graph_reads;
        asked = (pairs answers.graph.nodes pairs_text answers.pairs).0 answers.pairs_read;
        answered = lines.answered;
        text_is = lines.text_is;
      },
  λ (best : AreBestRoutes graph_text pairs_text text). record {
    graph = best.graph;
    pairs = best.pairs;
    graph_reads = (graphs graph_text best.graph).1 best.spelled;
    pairs_read = (pairs best.graph.nodes pairs_text best.pairs).1 best.asked;
    answered = subst (AreAnswers (IsFewestWalk best.graph) best.pairs) (sym best.text_is) (as_answers law best.graph best.pairs best.lines best.answered);
  },
)
