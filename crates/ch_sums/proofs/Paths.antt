-- The path that a rise-fall walk unfolds to, with what the numbers along it sum to.
use Rattle.std.proofs.Common.{ℕ, ◌≡◌, ◌+◌, ◌<◌, ◌≤◌, List, [], ◌∷◌, ◌++◌, length, slice_index, slice_index_or, Some, None, Contains, ap, refl, sym, subst, ◌∙◌, inl, inr, arith}
use Rattle.std.proofs.lemmas.Bool.{cases_eq, cases_lt}
use Rattle.std.proofs.lemmas.List.Elements.{All-contains, Contains-get_or}
use Rattle.std.proofs.lemmas.List.Sums.{sum_by-cons, sum_by-append}
use Rattle.std.proofs.lemmas.Option.{get_or_from_slice_get, slice_get-get_or, slice_get_within}
use Rattle.ch_cost.specs.declared.cost.Cost.{Cost}
use Rattle.ch_cost.specs.Cost.{◌⊕◌, length_of}
use Rattle.ch_cost.specs.Cost.Laws.{length_of-zero_cost, length_of-of_weight, length_of-sum}
use Rattle.ch_graph.specs.declared.road.Road.{Road}
use Rattle.ch_graph.specs.declared.link.Link.{Link}
use Rattle.ch_graph.specs.declared.hierarchy.LinkId.{LinkId}
use Rattle.ch_graph.specs.Graph.{Graph}
use Rattle.ch_graph.specs.Hierarchy.{Hierarchy, Chain, Chain.nothing, Chain.then, IsLinkWellMade, IsRising, IsFalling, IsRiseFall, IsWellMade, rank_of}
use Rattle.ch_graph.specs.Hierarchy.Chains.{chain-join, chain-weaker}
use Rattle.ch_graph.specs.Unfolding.{IsAt, AreAt}
use Rattle.ch_laws.specs.ByWeight.{IsArcByWeight, IsRightByWeight}
use Rattle.ch_query.specs.declared.seed.Seed.{Seed}
use Rattle.ch_query.specs.Places.{IsRiseFallAt, link_at}
use Rattle.ch_query.specs.Sums.{IsSummedWay, IsSummedWay.begin, IsSummedWay.over}
use Rattle.ch_query.specs.Ways.{free}
use Rattle.best_routes.specs.BestRoutes.{IsPath, path_length}
use Rattle.best_routes.specs.Walks.{PathsAreWalks}
use Rattle.ch_sums.specs.Numbers.{AreSums, SummedWaysAreAlong, SumsAreAlong, links_number, path_number, sum_at}

-- a path from x to y that is n long, and whose numbers sum to m
record HasPath (g : Graph) (number : ℕ → ℕ → ℕ) (x y n m : ℕ) : Type 0 where
  path : List Road
  leads : IsPath g x y path
  long : path_length path ≡ n
  sums : path_number number path ≡ m

path-joins : (g : Graph) (x y z : ℕ) (path more : List Road) → IsPath g x y path → IsPath g y z more → IsPath g x z (path ++ more)
path-joins g x y z [] more leads on = subst (λ n. IsPath g n z more) (sym leads) on
path-joins g x y z (arc ∷ path) more leads on = (leads.0, leads.1, path-joins g arc.to y z path more leads.2 on)

length-joins : (path more : List Road) → path_length (path ++ more) ≡ path_length path + path_length more
length-joins [] more = omega arith
length-joins (arc ∷ path) more = let rest = length-joins path more in omega (arith, rest)

module _ {g : Graph} {number : ℕ → ℕ → ℕ} where
  stay : (x : ℕ) → HasPath g number x x 0 0
  stay x = record { path = []; leads = refl; long = refl; sums = refl }

  join : {x y z n m k l : ℕ} → HasPath g number x y n m → HasPath g number y z k l → HasPath g number x z (n + k) (m + l)
  join {x} {y} {z} {n} {m} {k} {l} first second = record {
    path = first.path ++ second.path;
    leads = path-joins g x y z first.path second.path first.leads second.leads;
    long = length-joins first.path second.path ∙ (ap (λ i. i + path_length second.path) first.long ∙ ap (λ i. n + i) second.long);
    sums = sum_by-append (λ (arc : Road). number arc.from arc.to) first.path second.path ∙ (ap (λ i. i + path_number number second.path) first.sums ∙ ap (λ i. m + i) second.sums);
  }

  -- over one arc, which a link without a middle is
  arc-path : (l : Link) → IsArcByWeight g l → HasPath g number l.from l.to (length_of l.cost) (number l.from l.to)
  arc-path l is =
      let road : Road = is.arc.road in
      let one : path_number number (is.arc.road ∷ []) ≡ number is.arc.road.from is.arc.road.to = sum_by-cons (λ (arc : Road). number arc.from arc.to) is.arc.road [] ∙ omega arith in
      record {
        path = is.arc.road ∷ [];
        leads = (is.arc.among, is.arc.from, is.arc.to);
        long = omega (arith, sym (length_of-of_weight is.arc.road.weight) ∙ (ap length_of is.arc.costs ∙ is.weighs));
        sums = one ∙ (ap (λ x. number x is.arc.road.to) is.arc.from ∙ ap (λ y. number l.from y) is.arc.to);
      }

  -- over the arcs that a link represents
  arcs-path : {arcs : List Link} {x y : ℕ} {c : Cost} → Chain (IsArcByWeight g) arcs x y c → HasPath g number x y (length_of c) (links_number number arcs)
  arcs-path (nothing {x = x}) = subst (λ n. HasPath g number x x n 0) (sym length_of-zero_cost) (stay x)
  arcs-path (then {l = l} {ls = ls} {x = x} {z = z} {d = d} arc from rest) =
      let first : HasPath g number x l.to (length_of l.cost) (number l.from l.to) = subst (λ n. HasPath g number n l.to (length_of l.cost) (number l.from l.to)) from (arc-path l arc) in
      subst (λ n. HasPath g number x z n (links_number number (l ∷ ls))) (sym (length_of-sum l.cost d))
      (subst (λ m. HasPath g number x z (length_of l.cost + length_of d) m) (sym (sum_by-cons (λ (k : Link). number k.from k.to) l ls)) (join first (arcs-path rest)))

  module _ {h : Hierarchy} (right : IsRightByWeight g h) {numbers : List ℕ} (are : AreSums h number numbers) where
    -- over a link at a place
    link-path : (id : LinkId) (l : Link) → IsAt h id l → HasPath g number l.from l.to (length_of l.cost) (slice_index numbers id.0)
    link-path id l at =
        let within = slice_get_within h.links id.0 l at in
        let read = get_or_from_slice_get h.links id.0 l l at in
        let among : Contains h.links l = (id.0, within, read) in
        let unfolded = right.unfolds l among in
        subst (λ m. HasPath g number l.from l.to (length_of l.cost) m) (sym (are.each id.0 l unfolded.0 within read unfolded.1)) (arcs-path (right.unfolded l unfolded.0 among unfolded.1))

    -- over links that join
    links-path : {Kind : Link → Type 0} {links : List Link} {x y : ℕ} {c : Cost} (places : List LinkId) → AreAt h places links → Chain Kind links x y c → HasPath g number x y (length_of c) (sum_at numbers places)
    links-path [] are_at (nothing {x = x}) = subst (λ n. HasPath g number x x n 0) (sym length_of-zero_cost) (stay x)
    links-path (id ∷ ids) are_at nothing = absurd are_at
    links-path [] are_at (then kind from rest) = absurd are_at
    links-path (id ∷ ids) are_at (then {l = l} {ls = ls} {x = x} {z = z} {d = d} kind from rest) =
        let first : HasPath g number x l.to (length_of l.cost) (slice_index numbers id.0) = subst (λ n. HasPath g number n l.to (length_of l.cost) (slice_index numbers id.0)) from (link-path id l are_at.0) in
        subst (λ n. HasPath g number x z n (sum_at numbers (id ∷ ids))) (sym (length_of-sum l.cost d))
        (subst (λ m. HasPath g number x z (length_of l.cost + length_of d) m) (sym (sum_by-cons (λ (k : LinkId). slice_index numbers k.0) id ids)) (join first (links-path {links = ls} {x = l.to} {y = z} {c = d} ids are_at.1 rest)))

    walk-path : {places : List LinkId} {s t : ℕ} {c : Cost} → IsRiseFallAt h places s t c → HasPath g number s t (length_of c) (sum_at numbers places)
    walk-path {places} {s} {t} {c} walk =
        let leads : IsRiseFall h walk.links s t c = walk.leads in
        let among : Chain (λ (l : Link). Contains h.links l) (leads.rise ++ leads.fall) s t (leads.up ⊕ leads.down) =
        chain-join (chain-weaker (λ l (kind : IsRising h l). kind.among) leads.rises) (chain-weaker (λ l (kind : IsFalling h l). kind.among) leads.falls) in
        subst (λ (d : Cost). HasPath g number s t (length_of d) (sum_at numbers places)) (sym leads.sum)
        (links-path places (subst (λ (ls : List Link). AreAt h places ls) leads.parts walk.are_at) among)

pub sums-along : PathsAreWalks → SumsAreAlong
sums-along walks g h number numbers s t right are s_in t_in =
    let from_in : s < g.nodes = omega (arith, s_in, right.nodes) in
    let to_in : t < g.nodes = omega (arith, t_in, right.nodes) in (
      λ c places value walk.
          let found = walk-path right are walk in
          let least = right.value s t (Some c) from_in to_in value in
          record {
            path = found.path;
            leads = found.leads;
            long = found.long;
            least = λ other leads.
                let along = walks g s t other leads in
                subst (λ n. length_of c ≤ n) along.long (least.3 along.cost along.walk);
            sums = sym found.sums;
          },
      λ value path leads.
          let along = walks g s t path leads in
          right.value s t None from_in to_in value along.cost along.walk,
    )

-- The path that links from one node unfold to
one-start : (s : ℕ) (seed : Seed) → Contains (free s ∷ []) seed → seed ≡ free s
one-start s seed among =
    let first : among.0 ≡ 0 = omega (arith, among.1) in
    sym (ap (λ k. slice_index_or (free s ∷ []) k seed) (sym first) ∙ among.2)

module _ {g : Graph} {number : ℕ → ℕ → ℕ} {h : Hierarchy} (right : IsRightByWeight g h) (made : IsWellMade h) {numbers : List ℕ} (are : AreSums h number numbers) (s : ℕ) (s_in : s < length h.ranks) where
  same-node : (x y : ℕ) → x < length h.ranks → y < length h.ranks → rank_of h x ≡ rank_of h y → x ≡ y
  same-node x y x_in y_in same = elim (cases_eq x y) [
    | inl e ↦ e
    | inr other ↦ elim (cases_lt x y) [
      | inl before ↦ absurd (made.once x y 0 before y_in same)
      | inr after ↦ absurd (made.once y x 0 (omega (arith, after, other)) x_in (sym same))
    ]
  ]

  way-path : {r n m : ℕ} → IsSummedWay h numbers (free s ∷ []) r n m → (x : ℕ) → x < length h.ranks → rank_of h x ≡ r → HasPath g number s x n m
  way-path (begin seed among) x x_in at =
      let is = one-start s seed among in
      let here : x ≡ s = same-node x s x_in s_in (at ∙ ap (λ (p : Seed). rank_of h p.node) is) in
      let none : length_of seed.cost ≡ 0 = ap (λ (p : Seed). length_of p.cost) is ∙ length_of-zero_cost in
      subst (λ n. HasPath g number s x n 0) (sym none) (subst (λ y. HasPath g number s y 0 0) (sym here) (stay s))
  way-path (over {q = q} {n = n} {m = m} k k_in from way) x x_in at =
      let own : IsLinkWellMade h (link_at h k) = All-contains (IsLinkWellMade h) h.links (link_at h k) made.links (Contains-get_or h.links k _ k_in) in
      let before : HasPath g number s (link_at h k).from n m = way-path way (link_at h k).from own.from_in from in
      let id : LinkId = record { 0 = k } in
      let last : HasPath g number (link_at h k).from (link_at h k).to (length_of (link_at h k).cost) (slice_index numbers k) = link-path right are id (link_at h k) (slice_get-get_or h.links k _ k_in) in
      let here : (link_at h k).to ≡ x = sym (same-node x (link_at h k).to x_in own.to_in at) in
      subst (λ y. HasPath g number s y (n + length_of (link_at h k).cost) (m + slice_index numbers k)) here (join before last)

pub summed-along : PathsAreWalks → SummedWaysAreAlong
summed-along walks g h number numbers s t right made are s_in t_in =
    let from_in : s < g.nodes = omega (arith, s_in, right.nodes) in
    let to_in : t < g.nodes = omega (arith, t_in, right.nodes) in (
      λ c sum value way.
          let found = way-path right made are s s_in way t t_in (λ i. rank_of h t) in
          let least = right.value s t (Some c) from_in to_in value in
          record {
            path = found.path;
            leads = found.leads;
            long = found.long;
            least = λ other leads.
                let along = walks g s t other leads in
                subst (λ n. length_of c ≤ n) along.long (least.3 along.cost along.walk);
            sums = sym found.sums;
          },
      λ value path leads.
          let along = walks g s t path leads in
          right.value s t None from_in to_in value along.cost along.walk,
    )
