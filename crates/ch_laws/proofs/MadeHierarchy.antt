-- The hierarchy that is made of a state: its ranks, its links, and why it is well made.
use Rattle.std.proofs.Common.{ℕ, ◌≡◌, ◌≢◌, ◌-◌, ◌^◌, ◌<◌, ◌≤◌, eqb, List, length, Some, get_or, AllPairs, Contains, arith, lt_trans, refl, sym, ◌∙◌, ap, subst, inl, inr}
use Rattle.std.proofs.lemmas.Bool.{cases_lt}
use Rattle.std.proofs.lemmas.Bool.Decides.{nat_tests, Decides-eqb}
use Rattle.std.proofs.lemmas.List.{get_or_default}
use Rattle.std.proofs.lemmas.List.Elements.{All-weaker, All-contains_itself, All-from_get_or}
use Rattle.std.proofs.lemmas.List.Folds.{Any-from_list_any}
use Rattle.std.proofs.lemmas.Map.Made.{IsDistinct-from_AllPairs}
use Rattle.std.proofs.lemmas.Map.Steps.{length-le_from_distinct_below}
use Rattle.ch_cost.specs.declared.cost.Cost.{Cost}
use Rattle.ch_cost.specs.Cost.{◌⊕◌, cost_of_arcs, arcs_of, IsWithin}
use Rattle.ch_cost.specs.Cost.Numbers.{arcs_of-cost_of_arcs}
use Rattle.ch_graph.specs.declared.link.Link.{Link}
use Rattle.ch_graph.specs.declared.version.Version.{Version}
use Rattle.ch_graph.specs.Graph.{Graph}
use Rattle.ch_graph.specs.Limits.{IsGraph, heaviest, bound_of}
use Rattle.ch_graph.specs.Hierarchy.{Hierarchy, rank_of, IsLink, AreHalves, Counts, IsLinkWellMade, IsWellMade, bound_arcs}
use Rattle.ch_graph.specs.Limits.Laws.{arc-one, bound-within, walk-some}
use Rattle.ch_laws.specs.Contraction.{State, StateArc, Before, HasArc, IsOver, IsMade}
use Rattle.ch_laws.specs.Members.{place_of}
use Rattle.ch_laws.proofs.SoundStates.{IsSound, IsSoundArc, IsSplit}

-- numbers below n, each once, are n at most
pub few_below : (n : ℕ) (xs : List ℕ) → AllPairs (λ x y. x ≢ y) xs → ((x : ℕ) → Contains xs x → x < n) → length xs ≤ n
few_below n xs once low = length-le_from_distinct_below xs n (IsDistinct-from_AllPairs Decides-eqb xs once) (λ q among.
    let found = Any-from_list_any (λ x. eqb q x) xs among in
    let same : q ≡ found.1 = grind (arith, nat_tests, found.4) in
    let below : found.1 < n = low found.1 (found.0, found.2, found.3) in
    omega (arith, same, below))

module _ {g : Graph} {s : State} {h : Hierarchy} (sound : IsSound g s) (over : IsOver s) (made : IsMade g s h) where
  -- Ranks

  -- a node's rank is its place in the order
  pub rank-place : {x : ℕ} (k : ℕ) → k < length s.order → get_or s.order k 0 ≡ x → rank_of h x ≡ k
  rank-place k low here = subst (λ n. rank_of h n ≡ k) here (made.ranks k low)

  -- what comes before another node ranks below it
  pub before-rank : {x y : ℕ} → Before s.order x y → y < s.nodes → rank_of h x < rank_of h y
  before-rank {x} {y} b low =
      let place = over y low in
      let at_y : get_or s.order place.0 0 ≡ y = place_of s.order y place in
      let rank_x : rank_of h x ≡ b.place = rank-place b.place b.within b.here in
      let rank_y : rank_of h y ≡ place.0 = rank-place place.0 place.1 at_y in
      elim (cases_lt b.place place.0) [
        | inl after ↦ omega (arith, after, rank_x, rank_y)
        | inr before ↦ absurd (b.not_yet place.0 before at_y)
      ]

  -- the order has no more nodes than there are
  order-few : length s.order ≤ s.nodes
  order-few = few_below s.nodes s.order sound.once (λ x among. omega (arith, sound.in_range x among, sound.nodes))

  -- a rank is below the number of nodes
  rank-in_range : (x : ℕ) → x < length h.ranks → rank_of h x < length h.ranks
  rank-in_range x low =
      let inside : x < s.nodes = omega (arith, low, made.nodes) in
      let place = over x inside in
      let rank : rank_of h x ≡ place.0 = rank-place place.0 place.1 (place_of s.order x place) in
      let early : place.0 < length s.order = place.1 in
      omega (arith, rank, early, order-few, made.nodes)

  -- and no two nodes share one
  rank-once : (x y : ℕ) → x < y → y < length h.ranks → rank_of h x ≢ rank_of h y
  rank-once x y less low same =
      let x_in : x < s.nodes = omega (arith, less, low, made.nodes) in
      let y_in : y < s.nodes = omega (arith, low, made.nodes) in
      let x_place = over x x_in in
      let y_place = over y y_in in
      let x_here : get_or s.order x_place.0 0 ≡ x = place_of s.order x x_place in
      let y_here : get_or s.order y_place.0 0 ≡ y = place_of s.order y y_place in
      let places : x_place.0 ≡ y_place.0 = sym (rank-place x_place.0 x_place.1 x_here) ∙ same ∙ rank-place y_place.0 y_place.1 y_here in
      let equal : x ≡ y = sym x_here ∙ ap (λ k. get_or s.order k 0) places ∙ y_here in
      omega (arith, less, equal)

  -- Links

  -- the link of an arc
  pub arc-link : (x y : ℕ) (arc : StateArc) → s.arc x y ≡ Some arc → Contains h.links (record { from = x; to = y; cost = arc.cost; middle = arc.middle })
  arc-link x y arc here = (made.links (record { from = x; to = y; cost = arc.cost; middle = arc.middle })).1 here

  -- a link is sound as its arc is
  pub link-sound : (l : Link) → Contains h.links l → IsSoundArc g s l.from l.to (record { cost = l.cost; middle = l.middle })
  link-sound l among = sound.arcs l.from l.to (record { cost = l.cost; middle = l.middle }) ((made.links l).0 among)

  -- a link between two nodes is the arc between them
  pub link-arc : {x y : ℕ} {l : Link} → IsLink h x y l → HasArc s x y l.cost
  link-arc {x} {y} {l} is =
      let from_ends : HasArc s l.from l.to l.cost = record { arc = record { cost = l.cost; middle = l.middle }; here = (made.links l).0 is.among; costs = refl } in
      let from_x : HasArc s x l.to l.cost = subst (λ n. HasArc s n l.to l.cost) is.from from_ends in
      subst (λ n. HasArc s x n l.cost) is.to from_x

  -- and the other way round
  half-link : {x y : ℕ} {c : Cost} (has : HasArc s x y c) → (l : Link) × IsLink h x y l × (l.cost ≡ c)
  half-link {x} {y} has = (record { from = x; to = y; cost = has.arc.cost; middle = has.arc.middle }, record { among = arc-link x y has.arc has.here; from = refl; to = refl }, has.costs)

  -- a link with a middle has halves
  link-halves : (l : Link) {m : ℕ} → l.from < s.nodes → l.to < s.nodes → IsSplit s l.from l.to m l.cost → (a : Link) × (b : Link) × AreHalves h l m a b
  link-halves l {m} from_in to_in split =
      let first = half-link split.first in
      let second = half-link split.second in
      let into : first.0.cost ≡ split.into = first.2 in
      let out : second.0.cost ≡ split.out = second.2 in (
        first.0,
        second.0,
        record {
          first = first.1;
          second = second.1;
          sum = split.adds ∙ ap (λ (c : Cost). c ⊕ split.out) (sym into) ∙ ap (λ (c : Cost). first.0.cost ⊕ c) (sym out);
          below_from = before-rank split.before_from from_in;
          below_to = before-rank split.before_to to_in;
        },
      )

  -- so each link is well made
  link-well : (l : Link) → Contains h.links l → IsLinkWellMade h l
  link-well l among =
      let is = link-sound l among in
      let from_in : l.from < s.nodes = omega (arith, is.from_in, sound.nodes) in
      let to_in : l.to < s.nodes = omega (arith, is.to_in, sound.nodes) in
      record {
        from_in = omega (arith, from_in, made.nodes);
        to_in = omega (arith, to_in, made.nodes);
        apart = is.apart;
        counts = subst (λ (v : Version). Counts v l) (sym made.version) (record { some = walk-some g is.walk is.apart; one = λ none. arc-one g l.from l.to l.cost (is.whole none) });
        within = subst (λ (b : Cost). IsWithin l.cost b) (sym made.bound) is.within;
        middle = λ m some. link-halves l from_in to_in (is.split m some);
      }

  -- so it is well made
  pub made-well : IsGraph g → IsWellMade h
  made-well is =
      let nodes : length h.ranks ≡ g.nodes = made.nodes ∙ sound.nodes in
      record {
        few_nodes = omega (arith, nodes, is.few_nodes);
        bound = subst (λ (b : Cost). IsWithin b (cost_of_arcs (length h.ranks - 1) (2 ^ 32 - 1))) (sym made.bound)
            (subst (λ n. IsWithin (bound_of g) (cost_of_arcs (n - 1) (2 ^ 32 - 1))) (sym nodes) (bound-within g is));
        bound_arcs = subst (λ (v : Version). arcs_of h.bound ≡ bound_arcs v (length h.ranks)) (sym made.version)
            (ap arcs_of made.bound ∙ arcs_of-cost_of_arcs (g.nodes - 1) (heaviest g.arcs) ∙ ap (λ n. n - 1) (sym nodes));
        in_range = All-from_get_or (λ r. r < length h.ranks) h.ranks 0 rank-in_range;
        once = λ i j d less low same. rank-once i j less low (get_or_default h.ranks i 0 d (lt_trans less low) ∙ same ∙ get_or_default h.ranks j d 0 low);
        sorted = made.sorted;
        links = All-weaker (λ l. Contains h.links l) (IsLinkWellMade h) link-well h.links (All-contains_itself h.links);
      }
