-- Least walks with the fewest arcs as best paths, and back, and the lines that state them.
use Rattle.std.proofs.Common.{ℕ, ◌≡◌, ◌+◌, ◌-◌, ◌≤◌, List, [], ◌∷◌, ◌++◌, length, map, Option, Some, None, codes, decimal, arith, refl, ap, sym, subst, ◌∙◌, append_assoc, append-nil}
use Rattle.std.specs.List.{concat}
use Rattle.std.proofs.lemmas.List.{length-map}
use Rattle.ch_cost.specs.Cost.{length_of}
use Rattle.ch_graph.specs.declared.road.Road.{Road}
use Rattle.ch_graph.specs.Graph.{Graph}
use Rattle.ch_graph.specs.Walk.{visited}
use Rattle.ch_route.specs.Routes.{Route, IsFewestWalk}
use Rattle.best_routes.specs.BestRoutes.{IsAnswerLine, IsAnswerLine.route, IsAnswerLine.no_route, numbers_line, path_length}
use Rattle.best_routes.specs.Walks.{PathsAreWalks, WalksArePaths, ends_of}
use Rattle.ch_answer.specs.Line.{IsAnswer, line_of, named, route_fields}
use Rattle.ch_answer.specs.BestLines.{AnswersAreLines, FewestWalksAreBestPaths, IsBestRoute}

-- Routes

module _ (walks : PathsAreWalks) (paths : WalksArePaths) (g : Graph) (s t : ℕ) where
  many : (path : List Road) → length (ends_of path) ≡ length path
  many path = length-map path (λ (arc : Road). arc.to)

  best : (r : Option Route) → IsFewestWalk g s t r → IsBestRoute g s t r
  best None none = λ path leads. let along = walks g s t path leads in none along.cost along.walk
  best (Some r) fewest =
      let along = fewest.0.1.1 in
      let path = paths g s t fewest.0.1.0 along.0 in
      let long : length_of r.cost ≡ path_length path.path = sym fewest.0.1.2 ∙ path.long in
      let nodes : r.nodes ≡ s ∷ ends_of path.path = along.1 ∙ ap (λ (ends : List ℕ). s ∷ ends) path.comes_to in (
        path.path,
        record {
          leads = path.leads;
          shortest = λ other leads.
              let is = walks g s t other leads in
              let least : length_of r.cost ≤ length_of is.cost = fewest.0.0.3 is.cost is.walk in
              omega (arith, least, long, is.long);
          fewest = λ other leads same.
              let is = walks g s t other leads in
              let as_long : length_of is.cost ≡ length_of r.cost = is.long ∙ same ∙ sym long in
              let few : length r.nodes - 1 ≤ length (visited is.walk) = fewest.1 is.cost is.walk as_long in
              omega (arith, few, ap length nodes, many path.path, ap length is.comes_to, many other);
        },
        long,
        nodes,
      )

  walked : (r : Option Route) → IsBestRoute g s t r → IsFewestWalk g s t r
  walked None none = λ c walk. let path = paths g s t c walk in none path.path path.leads
  walked (Some r) is =
      let along = walks g s t is.0 is.1.leads in
      let long : length_of along.cost ≡ length_of r.cost = along.long ∙ sym is.2 in (
        (
          (
            along.cost,
            along.walk,
            long,
            λ d walk.
                let path = paths g s t d walk in
                let least : path_length is.0 ≤ path_length path.path = is.1.shortest path.path path.leads in
                omega (arith, least, path.long, is.2),
          ),
          (along.cost, (along.walk, is.3 ∙ ap (λ (ends : List ℕ). s ∷ ends) (sym along.comes_to)), long),
        ),
        λ c walk same.
            let path = paths g s t c walk in
            let few : length is.0 ≤ length path.path = is.1.fewest path.path path.leads (sym path.long ∙ same ∙ is.2) in
            omega (arith, few, ap length is.3, many is.0, ap length path.comes_to, many path.path),
      )

pub routes_best : PathsAreWalks → WalksArePaths → FewestWalksAreBestPaths
routes_best walks paths g s t r = (best walks paths g s t r, walked walks paths g s t r)

-- Lines

named_ends : (path : List Road) → named (ends_of path) ≡ concat (map (λ (n : ℕ). codes " " ++ decimal n) (map (λ (arc : Road). arc.to + 1) path))
named_ends [] = refl
named_ends (arc ∷ path) = ap (λ (more : List ℕ). (codes " " ++ decimal (arc.to + 1)) ++ more) (named_ends path)

-- two nodes, a length and how many arcs, and the nodes along
regroup : (a b length arcs more : List ℕ) → (a ++ (b ++ [])) ++ (32 ∷ (((length ++ (32 ∷ [])) ++ arcs) ++ more)) ≡ a ++ (b ++ (32 ∷ (length ++ (32 ∷ (arcs ++ more)))))
regroup a b length arcs more =
    ap (λ (z : List ℕ). (a ++ z) ++ (32 ∷ (((length ++ (32 ∷ [])) ++ arcs) ++ more))) (append-nil b)
    ∙ append_assoc a b (32 ∷ (((length ++ (32 ∷ [])) ++ arcs) ++ more))
    ∙ ap (λ (z : List ℕ). a ++ (b ++ (32 ∷ z))) (append_assoc (length ++ (32 ∷ [])) arcs more ∙ append_assoc length (32 ∷ []) (arcs ++ more))

line_is : (pair : ℕ × ℕ) (r : Route) (path : List Road) → length_of r.cost ≡ path_length path → r.nodes ≡ pair.0 ∷ ends_of path
    → line_of pair (Some r) ≡ numbers_line (codes "r") ((pair.0 + 1) ∷ (pair.1 + 1) ∷ path_length path ∷ length path ∷ (pair.0 + 1) ∷ map (λ (arc : Road). arc.to + 1) path)
line_is pair r path long nodes =
    let arcs : length (pair.0 ∷ ends_of path) - 1 ≡ length path = omega (arith, length-map path (λ (arc : Road). arc.to)) in
    ap (λ (n : ℕ). codes "r" ++ named (pair.0 ∷ pair.1 ∷ []) ++ route_fields n r.nodes ++ codes "\n") long
    ∙ ap (λ (ns : List ℕ). codes "r" ++ named (pair.0 ∷ pair.1 ∷ []) ++ route_fields (path_length path) ns ++ codes "\n") nodes
    ∙ ap (λ (n : ℕ). codes "r" ++ named (pair.0 ∷ pair.1 ∷ []) ++ (codes " " ++ decimal (path_length path) ++ codes " " ++ decimal n ++ named (pair.0 ∷ ends_of path)) ++ codes "\n") arcs
    ∙ ap (λ (ends : List ℕ). codes "r" ++ named (pair.0 ∷ pair.1 ∷ []) ++ (codes " " ++ decimal (path_length path) ++ codes " " ++ decimal (length path) ++ ((codes " " ++ decimal (pair.0 + 1)) ++ ends)) ++ codes "\n") (named_ends path)
    ∙ ap (λ (more : List ℕ). codes "r" ++ more ++ codes "\n") (regroup (codes " " ++ decimal (pair.0 + 1)) (codes " " ++ decimal (pair.1 + 1)) (decimal (path_length path)) (decimal (length path))
    ((codes " " ++ decimal (pair.0 + 1)) ++ concat (map (λ (n : ℕ). codes " " ++ decimal n) (map (λ (arc : Road). arc.to + 1) path))))

module _ (law : FewestWalksAreBestPaths) (walks : PathsAreWalks) (g : Graph) (pair : ℕ × ℕ) where
  as_line : (line : List ℕ) (r : Option Route) → IsBestRoute g pair.0 pair.1 r → line ≡ line_of pair r → IsAnswerLine g pair line
  as_line line None none tells = subst (λ l. IsAnswerLine g pair l) (sym tells) (no_route none)
  as_line line (Some r) is tells = subst (λ l. IsAnswerLine g pair l) (sym (tells ∙ line_is pair r is.0 is.2 is.3)) (route is.0 is.1)

  as_answer : (line : List ℕ) → IsAnswerLine g pair line → IsAnswer (IsFewestWalk g) pair line
  as_answer line (no_route none) = record { route = None; leads = (law g pair.0 pair.1 None).1 none; tells = refl }
  as_answer line (route path is) =
      let along = walks g pair.0 pair.1 path is.leads in
      let r : Route = record { cost = along.cost; nodes = pair.0 ∷ ends_of path } in
      record { route = Some r; leads = (law g pair.0 pair.1 (Some r)).1 (path, is, along.long, refl); tells = sym (line_is pair r path along.long refl) }

pub lines_best : FewestWalksAreBestPaths → PathsAreWalks → AnswersAreLines
lines_best law walks g pair line =
    (λ answer. as_line law walks g pair line answer.route ((law g pair.0 pair.1 answer.route).0 answer.leads) answer.tells, as_answer law walks g pair line)
