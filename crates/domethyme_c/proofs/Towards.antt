-- What a turned hierarchy says in the graph itself.
use Rattle.std.proofs.Common.{ℕ, ◌≡◌, List, [], ◌∷◌, Option, Some, None, sym, subst, ◌∙◌, arith}
use Rattle.ch_graph.specs.Graph.{Graph, IsLeastLength}
use Rattle.ch_graph.specs.Hierarchy.{Hierarchy}
use Rattle.ch_graph.specs.Limits.{IsGraph}
use Rattle.ch_query.specs.declared.seed.Seed.{Seed}
use Rattle.ch_query.specs.Ways.{free}
use Rattle.ch_route.specs.Between.{HasLengthBetween, IsLeastLengthBetween, IsLeastLengthWithin}
use Rattle.ch_turned.specs.Turned.{IsTurned, turned_graph}
use Rattle.ch_turned.specs.Laws.{TurnedIsRight, TurnedIsRightByWeight, TurnedIsGraph, WalksTurn}
use Rattle.hierfile.specs.Laws.{HierarchiesHaveOneSpelling}
use Rattle.domethyme_c.specs.Answers.{IsFileFor}
use Rattle.domethyme_c.specs.Towards.{IsTurnedFile, AnswersTowards}
use Rattle.domethyme_c.proofs.Handles.{answers_over}

module _ (walks : WalksTurn) (g : Graph) where
  length-back : (s t : ℕ) (n : Option ℕ) → IsLeastLength (turned_graph g) s t n → IsLeastLength g t s n
  length-back s t None none = λ c walk. none c ((walks g s t c).1 walk)
  length-back s t (Some n) least = (least.0, (walks g s t least.0).0 least.1, least.2, λ c walk. least.3 c ((walks g s t c).1 walk))

  between-back : (starts ends : List Seed) (n : ℕ) → HasLengthBetween (turned_graph g) starts ends n → HasLengthBetween g ends starts n
  between-back starts ends n has = record {
    start = has.stop;
    stop = has.start;
    begins = has.stops;
    stops = has.begins;
    way = has.way;
    walk = (walks g has.start.node has.stop.node has.way).0 has.walk;
    sum = omega (arith, has.sum);
  }

  between-turned : (starts ends : List Seed) (n : ℕ) → HasLengthBetween g ends starts n → HasLengthBetween (turned_graph g) starts ends n
  between-turned starts ends n has = record {
    start = has.stop;
    stop = has.start;
    begins = has.stops;
    stops = has.begins;
    way = has.way;
    walk = (walks g has.stop.node has.start.node has.way).1 has.walk;
    sum = omega (arith, has.sum);
  }

  least-back : (starts ends : List Seed) (n : Option ℕ) → IsLeastLengthBetween (turned_graph g) starts ends n → IsLeastLengthBetween g ends starts n
  least-back starts ends None none = λ m has. none m (between-turned starts ends m has)
  least-back starts ends (Some n) least = (between-back starts ends n least.0, λ m has. least.1 m (between-turned starts ends m has))

  within-back : (starts ends : List Seed) (limit : ℕ) (n : Option ℕ) → IsLeastLengthWithin (turned_graph g) starts ends limit n → IsLeastLengthWithin g ends starts limit n
  within-back starts ends limit None none = λ m has. none m (between-turned starts ends m has)
  within-back starts ends limit (Some n) least = (least-back starts ends (Some n) least.0, least.1)

module _ (one : HierarchiesHaveOneSpelling) (right : TurnedIsRight) (weight : TurnedIsRightByWeight) (graphs : TurnedIsGraph) (walks : WalksTurn) where
  pub answers-towards : (g : Graph) (bytes : List ℕ) (t : Hierarchy) → IsGraph g → IsFileFor g bytes → IsTurnedFile bytes t → AnswersTowards g t
  answers-towards g bytes t graph file opened =
      let h = file.hierarchy in
      let same : opened.hierarchy ≡ h = one opened.hierarchy h opened.made file.made (sym opened.spelled ∙ file.spelled) in
      let turned : IsTurned h t = subst (λ (i : Hierarchy). IsTurned i t) same opened.turned in
      let over = answers_over (turned_graph g) t (graphs g graph) (weight g h t turned file.by_weight) (λ two. right g h t turned (file.right (sym turned.version ∙ two))) in
      record {
        turned = over;
        lengths = λ to from n is. length-back walks g to from n (over.lengths to from n is);
        within = λ ends limit node n most is. let row = over.within ends limit node n most is in (row.0, within-back walks g ends (free node ∷ []) limit row.0 row.1, row.2);
        unlimited = λ ends node n is. let row = over.unlimited ends node n is in (row.0, least-back walks g ends (free node ∷ []) row.0 row.1, row.2);
      }
