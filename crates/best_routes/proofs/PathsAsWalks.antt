-- The walk along a path, and the path along a walk.
use Rattle.std.proofs.Common.{ℕ, ◌≡◌, ◌+◌, List, [], ◌∷◌, refl, ap, sym, subst, ◌∙◌}
use Rattle.ch_cost.specs.declared.cost.Cost.{Cost}
use Rattle.ch_cost.specs.Cost.{zero_cost, ◌⊕◌, length_of, of_weight}
use Rattle.ch_cost.specs.Cost.Laws.{length_of-zero_cost, length_of-of_weight, length_of-sum}
use Rattle.ch_graph.specs.declared.road.Road.{Road}
use Rattle.ch_graph.specs.Graph.{Graph, ArcOf}
use Rattle.ch_graph.specs.Walk.{Walk, Walk.stay, Walk.go, visited}
use Rattle.best_routes.specs.BestRoutes.{IsPath}
use Rattle.best_routes.specs.Walks.{IsAlong, IsTraced, PathsAreWalks, WalksArePaths}

module _ (g : Graph) where
  stays : (s t : ℕ) → s ≡ t → IsAlong g s t []
  stays s t here = subst (λ (z : ℕ). IsAlong g s z []) here (record { cost = zero_cost; walk = stay; long = length_of-zero_cost; comes_to = refl })

  goes : (s t : ℕ) (arc : Road) (path : List Road) → ArcOf g s arc.to (of_weight arc.weight) → IsAlong g arc.to t path → IsAlong g s t (arc ∷ path)
  goes s t arc path first rest = record {
    cost = of_weight arc.weight ⊕ rest.cost;
    walk = go first rest.walk;
    long = length_of-sum (of_weight arc.weight) rest.cost ∙ ap (λ (n : ℕ). n + length_of rest.cost) (length_of-of_weight arc.weight) ∙ ap (λ (n : ℕ). arc.weight + n) rest.long;
    comes_to = ap (λ (nodes : List ℕ). arc.to ∷ nodes) rest.comes_to;
  }

  walked : (s t : ℕ) (path : List Road) → IsPath g s t path → IsAlong g s t path
  walked s t [] leads = stays s t leads
  walked s t (arc ∷ path) leads = goes s t arc path (record { road = arc; among = leads.0; from = leads.1; to = refl; costs = refl }) (walked arc.to t path leads.2)

  traced : (s t : ℕ) (cost : Cost) (walk : Walk (ArcOf g) s t cost) → IsTraced g s t cost walk
  traced s t cost (stay {x}) = record { path = []; leads = refl; long = length_of-zero_cost; comes_to = refl }
  traced s t cost (go {x = x} {y = y} {z = z} {c = c} {d = d} arc rest) =
      let more = traced y z d rest in
      record {
        path = arc.road ∷ more.path;
        leads = (arc.among, arc.from, subst (λ (n : ℕ). IsPath g n z more.path) (sym arc.to) more.leads);
        long = length_of-sum c d ∙ ap (λ (n : ℕ). n + length_of d) (ap length_of (sym arc.costs) ∙ length_of-of_weight arc.road.weight) ∙ ap (λ (n : ℕ). arc.road.weight + n) more.long;
        comes_to = ap (λ (n : ℕ). n ∷ visited rest) (sym arc.to) ∙ ap (λ (nodes : List ℕ). arc.road.to ∷ nodes) more.comes_to;
      }

pub paths_walked : PathsAreWalks
paths_walked g s t path leads = walked g s t path leads

pub walks_traced : WalksArePaths
walks_traced g s t cost walk = traced g s t cost walk
