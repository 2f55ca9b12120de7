-- The links of a climb, from its top back to its start.
use Rattle.std.proofs.Common.{ℕ, ◌≡◌, ◌≢◌, ◌<◌, arith, List, [], ◌∷◌, ◌++◌, length, map, reverse, Option, Some, slice_get, inl, inr, All, ap, refl, sym, subst, ◌∙◌, append_assoc}
use Rattle.std.proofs.lemmas.Bool.{cases_eq, cases_lt}
use Rattle.std.proofs.lemmas.List.{append-nil, map-append, reverse-append}
use Rattle.std.proofs.lemmas.List.Elements.{All-nil, All-cons, All-same, All-push, All-head, All-tail}
use Rattle.ch_cost.specs.declared.cost.Cost.{Cost}
use Rattle.ch_cost.specs.Cost.{zero_cost, ◌⊕◌}
use Rattle.ch_cost.specs.Cost.Laws.{sum_assoc, sum_comm, zero_cost-sum, sum-zero_cost}
use Rattle.ch_graph.specs.declared.link.Link.{Link}
use Rattle.ch_graph.specs.declared.hierarchy.LinkId.{LinkId}
use Rattle.ch_graph.specs.declared.mark.Mark.{Mark}
use Rattle.ch_graph.specs.Hierarchy.{Hierarchy, Chain, Chain.nothing, Chain.then, ComesBefore, IsWellMade, IsRising, IsFalling, rank_of}
use Rattle.ch_graph.specs.Marks.{mark, HasLabel}
use Rattle.ch_graph.specs.Marks.Laws.{label_settled}
use Rattle.ch_query.specs.declared.label.Label.{Label}
use Rattle.ch_query.specs.declared.descent.WayBack.{WayBack}
use Rattle.ch_query.specs.declared.seed.Seed.{Seed}
use Rattle.ch_query.specs.declared.side.Side.{Side}
use Rattle.ch_query.specs.declared.side.Side.TheVariants.{Rise, Fall}
use Rattle.ch_query.specs.Places.{link_at}
use Rattle.ch_query.specs.Climb.{foot_of, head_of, foot_at, head_at, cost_at, Climbs, LeadsUp, ClimbsFrom, Descends, Descends.there, Descends.down, IsWayBack}
use Rattle.ch_query.specs.Marks.{costs_of}
use Rattle.ch_query.specs.Searching.{IsOfSeed, ComesFrom, IsSearching}
use Rattle.ch_query.specs.Seeds.{IsSeedAt}
use Rattle.ch_query.proofs.LinkEnds.{link-among, foot_in, head_in}
use Rattle.ch_query.proofs.NodeOfRank.{rank_below, rank_taken, same_node}
use Rattle.ch_query.proofs.MarkOrder.{from_cost, cost_is, arc-rises}

-- the links at these places, in order
abbrev pub links_at : Hierarchy → List LinkId → List Link
links_at h ids = map (λ (id : LinkId). link_at h id.0) ids

-- a chain with one more link at its end
pub chain-push : {Kind : Link → Type 0} {ls : List Link} {x y : ℕ} {c : Cost} → Chain Kind ls x y c → {l : Link} → Kind l → l.from ≡ y → Chain Kind (ls ++ l ∷ []) x l.to (c ⊕ l.cost)
chain-push {Kind} (nothing {x = x}) {l} kind from = subst (λ (d : Cost). Chain Kind (l ∷ []) x l.to d) (sum-zero_cost l.cost ∙ sym (zero_cost-sum l.cost)) (then kind from nothing)
chain-push {Kind} (then {l = k} {ls = ls} {x = x} {d = d} first start rest) {l} kind from =
    subst (λ (e : Cost). Chain Kind (k ∷ (ls ++ l ∷ [])) x l.to e) (sym (sum_assoc k.cost d l.cost)) (then first start (chain-push rest kind from))

-- what a descent costs with one more link, apart from its seed
longer_parts : (p w k : Cost) {c : Cost} → c ≡ p ⊕ w → c ⊕ k ≡ p ⊕ (w ⊕ k)
longer_parts p w k is = ap (λ (d : Cost). d ⊕ k) is ∙ sum_assoc p w k

-- The links of a descent in the order of the rise, and what they cost without its seed.
pub record IsRiseOf (h : Hierarchy) (seed : Seed) (ids : List LinkId) (x : ℕ) (c : Cost) : Type 0 where
  pub way : Cost
  pub chain : Chain (IsRising h) (links_at h (reverse ids)) seed.node x way
  pub sum : c ≡ seed.cost ⊕ way

pub rise-chain : {h : Hierarchy} {seed : Seed} {ids : List LinkId} {x : ℕ} {c : Cost} → Descends h Rise seed ids x c → IsRiseOf h seed ids x c
rise-chain {seed} there = record { way = zero_cost; chain = nothing; sum = sym (sum-zero_cost seed.cost) }
rise-chain {h} {seed} (down {id = id} {ids = ids} {v = v} {c = c} climbs rest) =
    let l : Link = link_at h id.0 in
    let before : IsRiseOf h seed ids v c = rise-chain rest in
    let rising : IsRising h l = record { among = link-among h climbs.within; rises = subst (λ y. rank_of h y < rank_of h l.to) (sym climbs.foot) climbs.climbs } in
    let longer = chain-push before.chain rising climbs.foot in
    let order : links_at h (reverse ids) ++ l ∷ [] ≡ links_at h (reverse (id ∷ ids)) = sym (map-append (λ (i : LinkId). link_at h i.0) (reverse ids) (id ∷ [])) ∙ ap (links_at h) (sym (reverse-append (id ∷ []) ids)) in
    record {
      way = before.way ⊕ l.cost;
      chain = subst (λ (ls : List Link). Chain (IsRising h) ls seed.node l.to (before.way ⊕ l.cost)) order longer;
      sum = longer_parts seed.cost before.way l.cost before.sum;
    }

-- and in that of the fall
pub record IsFallOf (h : Hierarchy) (seed : Seed) (ids : List LinkId) (x : ℕ) (c : Cost) : Type 0 where
  pub way : Cost
  pub chain : Chain (IsFalling h) (links_at h ids) x seed.node way
  pub sum : c ≡ seed.cost ⊕ way

pub fall-chain : {h : Hierarchy} {seed : Seed} {ids : List LinkId} {x : ℕ} {c : Cost} → Descends h Fall seed ids x c → IsFallOf h seed ids x c
fall-chain {seed} there = record { way = zero_cost; chain = nothing; sum = sym (sum-zero_cost seed.cost) }
fall-chain {h} {seed} (down {id = id} {ids = ids} {v = v} {c = c} climbs rest) =
    let l : Link = link_at h id.0 in
    let before : IsFallOf h seed ids v c = fall-chain rest in
    let falling : IsFalling h l = record { among = link-among h climbs.within; falls = subst (λ y. rank_of h y < rank_of h l.from) (sym climbs.foot) climbs.climbs } in
    let rest_from : Chain (IsFalling h) (links_at h ids) l.to seed.node before.way = subst (λ y. Chain (IsFalling h) (links_at h ids) y seed.node before.way) (sym climbs.foot) before.chain in
    record {
      way = before.way ⊕ l.cost;
      chain = subst (λ (d : Cost). Chain (IsFalling h) (links_at h (id ∷ ids)) l.from seed.node d) (sum_comm l.cost before.way) (then falling refl rest_from);
      sum = longer_parts seed.cost before.way l.cost before.sum;
    }

abbrev pub IsPlace : Hierarchy → LinkId → Type 0
IsPlace h id = id.0 < length h.links

pub descends-places : {h : Hierarchy} {side : Side} {seed : Seed} {ids : List LinkId} {x : ℕ} {c : Cost} → Descends h side seed ids x c → All (IsPlace h) ids
descends-places {h} there = All-nil (IsPlace h)
descends-places {h} (down {id = id} {ids = ids} climbs rest) = All-cons (IsPlace h) id ids climbs.within (descends-places rest)

pub all-reverse : (P : LinkId → Type 0) (ids : List LinkId) → All P ids → All P (reverse ids)
all-reverse P [] all = All-nil P
all-reverse P (id ∷ ids) all = All-same P (reverse (id ∷ ids)) (reverse ids ++ id ∷ []) (reverse-append (id ∷ []) ids) (All-push P (reverse ids) id (all-reverse P ids (All-tail P id ids all)) (All-head P id ids all))

-- a label that names another rank came from there, and one that names its own is that of a seed
pub came_from : {h : Hierarchy} {side : Side} {seeds : List Seed} {bound : Cost} {marks : List (Mark Label)} → IsSearching h side seeds bound marks → {r : ℕ} {e : Label} → HasLabel (mark marks r) e → e.foot ≢ r → ComesFrom h side marks r e
came_from is {r} {e} label other = elim (is.origin r e label) [
  | inl first ↦ absurd (other first.foot)
  | inr comes ↦ comes
]

pub came_first : {h : Hierarchy} {side : Side} {seeds : List Seed} {bound : Cost} {marks : List (Mark Label)} → IsSearching h side seeds bound marks → {r : ℕ} {e : Label} → HasLabel (mark marks r) e → e.foot ≡ r → IsOfSeed h seeds r e
came_first is {r} {e} label own = elim (is.origin r e label) [
  | inl first ↦ first
  | inr comes ↦ absurd (omega (arith, own, arc-rises comes.over.goes))
]

-- two links of one side with the same ends are one
pub one_link : {h : Hierarchy} → IsWellMade h → {side : Side} {f r k j : ℕ} → LeadsUp h side f r k → LeadsUp h side f r j → k ≡ j
one_link {h} made {side} {k} {j} first second = elim (cases_eq k j) [
  | inl e ↦ e
  | inr other ↦ elim (cases_lt k j) [
    | inl before ↦ absurd (no_pair side (link_at h k) (link_at h j) (made.sorted k j _ before second.climbs.within) feet heads)
    | inr after ↦ absurd (no_pair side (link_at h j) (link_at h k) (made.sorted j k _ (omega (arith, after, other)) first.climbs.within) (sym feet) (sym heads))
  ]
]
  where
    feet : foot_at h side k ≡ foot_at h side j
    feet = same_node made (foot_in made side first.climbs.within) (foot_in made side second.climbs.within) (first.foot ∙ sym second.foot)

    heads : head_at h side k ≡ head_at h side j
    heads = same_node made (head_in made side first.climbs.within) (head_in made side second.climbs.within) (first.head ∙ sym second.head)

    no_pair : (side : Side) (a b : Link) → ComesBefore a b → foot_of side a ≡ foot_of side b → head_of side a ≡ head_of side b → ⊥
    no_pair Rise a b before foot head = elim before [
      | inl lower ↦ omega (arith, lower, foot)
      | inr same ↦ omega (arith, same.1, head)
    ]
    no_pair Fall a b before foot head = elim before [
      | inl lower ↦ omega (arith, lower, head)
      | inr same ↦ omega (arith, same.1, foot)
    ]

-- the link at k climbs from its own foot
own-foot : {h : Hierarchy} {side : Side} {k : ℕ} → Climbs h side k → ClimbsFrom h side (foot_at h side k) k
own-foot climbs = record { within = climbs.within; foot = refl; climbs = climbs.rises }

-- The links so far lead from a node of the top rank down to one of this rank.
pub record IsDescending (h : Hierarchy) (side : Side) (marks : List (Mark Label)) (top rank : ℕ) (ids : List LinkId) : Type 0 where
  pub rank_in : rank < length h.ranks
  pub joins : (x : ℕ) (c : Cost) → x < length h.ranks → rank_of h x ≡ top → costs_of marks top ≡ Some c
      → (y : ℕ) × (y < length h.ranks) × (rank_of h y ≡ rank) × (d : Cost) × (costs_of marks rank ≡ Some d)
      × ((seed : Seed) (rest : List LinkId) → Descends h side seed rest y d → Descends h side seed (ids ++ rest) x c)

pub descending-none : {h : Hierarchy} {side : Side} {marks : List (Mark Label)} {top : ℕ} → top < length h.ranks → IsDescending h side marks top top []
descending-none top_in = record {
  rank_in = top_in;
  joins = λ x c x_in at label. (x, x_in, at, c, label, λ seed rest below. below);
}

one_cost : {o : Option Cost} {c d : Cost} → o ≡ Some c → o ≡ Some d → c ≡ d
one_cost first second = cc

pub descending-more : {h : Hierarchy} {side : Side} {seeds : List Seed} {bound : Cost} {marks : List (Mark Label)} (made : IsWellMade h)
    → IsSearching h side seeds bound marks → {top rank : ℕ} {e : Label} {k : ℕ} {ids : List LinkId} → HasLabel (mark marks rank) e → e.foot ≢ rank
    → LeadsUp h side e.foot rank k → IsDescending h side marks top rank ids → IsDescending h side marks top e.foot (ids ++ record { 0 = k } ∷ [])
descending-more {h} {side} {marks = marks} made is {rank} {e} {k} {ids} label other leads so_far =
    let comes : ComesFrom h side marks rank e = came_from is label other in
    let link : comes.over.goes.link ≡ k = one_link made comes.over.goes.leads leads in
    let sum : e.cost ≡ comes.foot.cost ⊕ cost_at h k = sym comes.over.sum ∙ ap (λ (a : Cost). comes.foot.cost ⊕ a) (sym comes.over.goes.cost ∙ ap (cost_at h) link) in
    let within : k < length h.links = leads.climbs.within in
    record {
      rank_in = subst (λ q. q < length h.ranks) leads.foot (rank_below made (foot_in made side within));
      joins = λ x c x_in at own.
          let old = so_far.joins x c x_in at own in
          let y : ℕ = old.0 in
          let d : Cost = old.3 in
          let same : d ≡ comes.foot.cost ⊕ cost_at h k = one_cost old.4 (cost_is marks rank label) ∙ sum in
          let head : head_at h side k ≡ y = same_node made (head_in made side within) old.1 (leads.head ∙ sym old.2) in (
            foot_at h side k,
            foot_in made side within,
            leads.foot,
            comes.foot.cost,
            cost_is marks e.foot (label_settled _ comes.foot comes.settled),
            λ seed rest below.
                let id : LinkId = record { 0 = k } in
                let step : Descends h side seed (id ∷ rest) (head_at h side k) (comes.foot.cost ⊕ cost_at h k) = down (own-foot leads.climbs) below in
                let here : Descends h side seed (id ∷ rest) y d = subst (λ (b : Cost). Descends h side seed (id ∷ rest) y b) (sym same) (subst (λ z. Descends h side seed (id ∷ rest) z (comes.foot.cost ⊕ cost_at h k)) head step) in
                subst (λ (is : List LinkId). Descends h side seed is x c) (sym (append_assoc ids (id ∷ []) rest)) (old.5 seed (id ∷ rest) here),
          );
    }

-- where the label names its own rank, a seed is there
pub seed_there : {h : Hierarchy} {side : Side} {seeds : List Seed} {bound : Cost} {marks : List (Mark Label)} (made : IsWellMade h)
    → IsSearching h side seeds bound marks → {top rank : ℕ} {c : Cost} {ids : List LinkId} → top < length h.ranks → costs_of marks top ≡ Some c
    → ((e : Label) → HasLabel (mark marks rank) e → e.foot ≡ rank) → IsDescending h side marks top rank ids
    → (d : Cost) × (costs_of marks rank ≡ Some d) × IsSeedAt h seeds rank d
seed_there {h} {seeds = seeds} {marks = marks} made is {rank} {c} top_in label own so_far =
    let node = rank_taken made top_in in
    let old = so_far.joins node.0 c node.1 node.2 label in
    let l = from_cost old.4 in
    (old.3, old.4, subst (λ (d : Cost). IsSeedAt h seeds rank d) l.2 (came_first is l.1 (own l.0 l.1)).seed)

-- and the links lead down to each that is there and costs what the label does
pub descended : {h : Hierarchy} {side : Side} {seeds : List Seed} {marks : List (Mark Label)} (made : IsWellMade h) {top rank : ℕ} {ids : List LinkId}
    {place : ℕ} {seed : Seed} → slice_get seeds place ≡ Some seed → seed.node < length h.ranks → rank_of h seed.node ≡ rank
    → costs_of marks rank ≡ Some seed.cost → IsDescending h side marks top rank ids
    → {x : ℕ} {c : Cost} → x < length h.ranks → rank_of h x ≡ top → costs_of marks top ≡ Some c
    → {back : WayBack} → back.seed ≡ place → back.links.items ≡ ids → IsWayBack h side seeds x c back
descended {h} {side} {seeds} {marks} made {ids} {seed} at node_in its_rank costs so_far {x} {c} x_in at_top label is_place are_links =
    let old = so_far.joins x c x_in at_top label in
    let y : ℕ = old.0 in
    let d : Cost = old.3 in
    let same : seed.node ≡ y = same_node made node_in old.1 (its_rank ∙ sym old.2) in
    let cost : seed.cost ≡ d = one_cost costs old.4 in
    let here : Descends h side seed [] y d = subst (λ z. Descends h side seed [] z d) same (subst (λ (e : Cost). Descends h side seed [] seed.node e) cost own) in
    let whole : Descends h side seed ids x c = subst (λ (is : List LinkId). Descends h side seed is x c) (append-nil ids) (old.5 seed [] here) in
    record {
      seed = seed;
      at = ap (slice_get seeds) is_place ∙ at;
      descends = subst (λ (is : List LinkId). Descends h side seed is x c) (sym are_links) whole;
    }
  where
    own : Descends h side seed [] seed.node seed.cost
    own = there
