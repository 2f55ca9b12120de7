-- Contractions go on until every node is contracted, and then a hierarchy is made.
use Rattle.std.proofs.Common.{ℕ, zero, suc, ◌≡◌, ◌≢◌, ◌+◌, ◌<◌, ◌≤◌, ◌⊎◌, ◌↔◌, List, [], ◌∷◌, ◌++◌, length, get_or, Option, Some, None, AllPairs, Contains, arith, refl, sym, ◌∙◌, ap, subst, inl, inr}
use Rattle.std.proofs.lemmas.Bool.{cases_eq, cases_lt}
use Rattle.std.proofs.lemmas.Option.{same_Some}
use Rattle.std.proofs.lemmas.List.{get_or_append_left, get_or_push, length_push}
use Rattle.std.proofs.lemmas.List.Elements.{Contains-append_left, Contains-push, Contains-push_cases, Contains-get_or}
use Rattle.std.proofs.lemmas.List.Quantifiers.{all_pairs_push}
use Rattle.ch_graph.specs.declared.link.Link.{Link}
use Rattle.ch_graph.specs.declared.version.Version.TheVariants.{Two}
use Rattle.ch_graph.specs.Graph.{Graph}
use Rattle.ch_graph.specs.Limits.{IsGraph, bound_of}
use Rattle.ch_graph.specs.Hierarchy.{Hierarchy, ComesBefore}
use Rattle.ch_laws.specs.Contraction.{State, StateArc, IsAlive, Contraction, Step, Run.rest, IsReached, IsOver, IsMade}
use Rattle.ch_laws.specs.Theorems.{HasRun}
use Rattle.ch_laws.specs.Members.{place_of}
use Rattle.ch_laws.proofs.PairOrder.{IsCovered, covered_more, covered_cases}
use Rattle.ch_laws.proofs.SoundStates.{IsSound, reached-sound}
use Rattle.ch_laws.proofs.MadeHierarchy.{few_below}
use Rattle.ch_laws.proofs.LawfulRuns.{reaches_on}
use Rattle.ch_laws.proofs.NextStep.{cases_contains, next-step}
use Rattle.ch_laws.proofs.FirstState.{has_start}

-- To the end

-- some node below k is alive, or all are in the order
find_alive : (s : State) (k : ℕ) → k ≤ s.nodes → ((x : ℕ) × IsAlive s x) ⊎ ((x : ℕ) → x < k → Contains s.order x)
find_alive s zero low = inr (λ x less. absurd (omega (arith, less)))
find_alive s (suc k) low = elim (cases_contains s.order k) [
  | inr out ↦ inl (k, record { in_range = low; waits = out })
  | inl among ↦ elim (find_alive s k (omega (arith, low))) [
    | inl alive ↦ inl alive
    | inr all ↦ inr (λ x less. elim (cases_eq k x) [
      | inl last ↦ subst (λ n. Contains s.order n) last among
      | inr other ↦ all x (omega (arith, less, other))
    ])
  ]
]

-- where a node is alive, the order has fewer nodes than there are
room_for : {g : Graph} {s : State} → IsSound g s → {x : ℕ} → IsAlive s x → length s.order < s.nodes
room_for {g} {s} sound {x} alive =
    let once : AllPairs (λ a b. a ≢ b) (s.order ++ x ∷ []) = all_pairs_push (λ a b. a ≢ b) s.order x sound.once (λ k d low same. alive.waits (subst (λ n. Contains s.order n) same (Contains-get_or s.order k d low))) in
    let few : length (s.order ++ x ∷ []) ≤ s.nodes = few_below s.nodes (s.order ++ x ∷ []) once (λ y among. elim (Contains-push_cases s.order x y among) [
      | inl before ↦ omega (arith, sound.in_range y before, sound.nodes)
      | inr last ↦ omega (arith, last, alive.in_range)
    ]) in
    omega (arith, few, length_push s.order x)

-- a state that is reached and over
record IsDone (g : Graph) : Type 0 where
  log : List Contraction
  state : State
  reached : IsReached g log state
  over : IsOver state

-- so contraction ends after as many steps as nodes are left
run_on : {g : Graph} → IsGraph g → (fuel : ℕ) (log : List Contraction) (s : State) → IsReached g log s → s.nodes ≤ length s.order + fuel → IsDone g
run_on is zero log s reached enough = elim (find_alive s s.nodes (omega arith)) [
  | inr all ↦ record { log = log; state = s; reached = reached; over = all }
  | inl alive ↦ absurd (omega (arith, enough, room_for (reached-sound is reached) alive.1))
]
run_on {g} is (suc fuel) log s reached enough = elim (find_alive s s.nodes (omega arith)) [
  | inr all ↦ record { log = log; state = s; reached = reached; over = all }
  | inl alive ↦
      let more = next-step (reached-sound is reached) alive.1 in
      let e : Contraction = more.0 in
      let new : State = more.1 in
      let step : Step (bound_of g) s e new = more.2 in
      let longer : length new.order ≡ length s.order + 1 = ap (λ (order : List ℕ). length order) step.puts.order ∙ length_push s.order e.node in
      run_on is fuel (log ++ e ∷ []) new (reaches_on g log s e new reached step) (omega (arith, enough, longer, step.puts.nodes))
]

-- Ranks

-- the ranks of the nodes below k
record RanksBelow (s : State) (k : ℕ) : Type 0 where
  ranks : List ℕ
  many : length ranks ≡ k
  are : (x p : ℕ) → x < k → p < length s.order → get_or s.order p 0 ≡ x → get_or ranks x 0 ≡ p

-- a node has one place in the order
one_place : {g : Graph} {s : State} → IsSound g s → (p q : ℕ) → p < length s.order → q < length s.order → get_or s.order p 0 ≡ get_or s.order q 0 → p ≡ q
one_place {s = s} sound p q p_in q_in same = elim (cases_lt p q) [
  | inl less ↦ absurd (sound.once p q 0 less q_in same)
  | inr at_least ↦ elim (cases_eq p q) [
    | inl equal ↦ equal
    | inr other ↦ absurd (sound.once q p 0 (omega (arith, at_least, other)) p_in (sym same))
  ]
]

-- each node below k has its place as rank
ranks_below : {g : Graph} {s : State} → IsSound g s → IsOver s → (k : ℕ) → k ≤ s.nodes → RanksBelow s k
ranks_below sound over zero low = record { ranks = []; many = refl; are = λ x p less p_in here. absurd (omega (arith, less)) }
ranks_below {g} {s} sound over (suc k) low =
    let below : RanksBelow s k = ranks_below sound over k (omega (arith, low)) in
    let place : Contains s.order k = over k low in
    record {
      ranks = below.ranks ++ place.0 ∷ [];
      many = length_push below.ranks place.0 ∙ omega (arith, below.many);
      are = λ x p less p_in here. elim (cases_eq x k) [
        | inl last ↦
            let at_end : get_or (below.ranks ++ place.0 ∷ []) x 0 ≡ place.0 = get_or_push below.ranks place.0 0 x (below.many ∙ sym last) in
            at_end ∙ one_place sound place.0 p place.1 p_in (place_of s.order k place ∙ sym last ∙ sym here)
        | inr other ↦
            let inside : x < k = omega (arith, less, other) in
            get_or_append_left below.ranks (place.0 ∷ []) 0 x (omega (arith, inside, below.many)) ∙ below.are x p inside p_in here
      ];
    }

-- Links

-- the link is the arc between its ends
abbrev IsArcLink : State → Link → Type 0
IsArcLink s l = s.arc l.from l.to ≡ Some (record { cost = l.cost; middle = l.middle })

-- the links of the pairs so far, in order
record LinksSoFar (s : State) (m k : ℕ) : Type 0 where
  links : List Link
  sorted : AllPairs ComesBefore links
  are : (l : Link) → Contains links l ↔ (IsCovered m k l.from l.to × IsArcLink s l)

-- what is covered comes before the pair that comes next
before_next : (m k : ℕ) (l n : Link) → IsCovered m k l.from l.to → n.from ≡ m → n.to ≡ k → ComesBefore l n
before_next m k l n is from to = elim is [
  | inl low ↦ inl (omega (arith, low, from))
  | inr here ↦ inr (here.0 ∙ sym from, omega (arith, here.1, to))
]

-- a link between two nodes, known by its arc
same_link : {m k : ℕ} (a : StateArc) (l : Link) → l.from ≡ m → l.to ≡ k → Some a ≡ Some (record { cost = l.cost; middle = l.middle }) → record { from = m; to = k; cost = a.cost; middle = a.middle } ≡ l
same_link a l from to same =
    let arcs : a ≡ record { cost = l.cost; middle = l.middle } = same_Some a (record { cost = l.cost; middle = l.middle }) same in
    λ i. record { from = (sym from) i; to = (sym to) i; cost = (arcs i).cost; middle = (arcs i).middle }

-- one more pair, which has an arc
with_link : {s : State} {m k : ℕ} (a : StateArc) → s.arc m k ≡ Some a → LinksSoFar s m k → LinksSoFar s m (suc k)
with_link {s} {m} {k} a here sofar =
    let n : Link = record { from = m; to = k; cost = a.cost; middle = a.middle } in
    record {
      links = sofar.links ++ n ∷ [];
      sorted = all_pairs_push ComesBefore sofar.links n sofar.sorted (λ j d low. before_next m k (get_or sofar.links j d) n ((sofar.are (get_or sofar.links j d)).0 (Contains-get_or sofar.links j d low)).0 refl refl);
      are = λ l. (
        λ among. elim (Contains-push_cases sofar.links n l among) [
          | inl before ↦
              let has = (sofar.are l).0 before in
              (covered_more has.0, has.1)
          | inr last ↦ subst (λ (r : Link). IsCovered m (suc k) r.from r.to × IsArcLink s r) last (inr (refl, omega arith), here)
        ],
        λ h. elim (covered_cases m k l.from l.to h.0) [
          | inl before ↦ Contains-append_left sofar.links (n ∷ []) l ((sofar.are l).1 (before, h.1))
          | inr last ↦
              let at_pair : s.arc m k ≡ Some (record { cost = l.cost; middle = l.middle }) = subst (λ j. s.arc m j ≡ Some (record { cost = l.cost; middle = l.middle })) last.1 (subst (λ i. s.arc i l.to ≡ Some (record { cost = l.cost; middle = l.middle })) last.0 h.1) in
              subst (λ (r : Link). Contains (sofar.links ++ n ∷ []) r) (same_link a l last.0 last.1 (sym here ∙ at_pair)) (Contains-push sofar.links n)
        ],
      );
    }

-- and one that has none
without_link : {s : State} {m k : ℕ} → s.arc m k ≡ None → LinksSoFar s m k → LinksSoFar s m (suc k)
without_link {s} {m} {k} none sofar = record {
  links = sofar.links;
  sorted = sofar.sorted;
  are = λ l. (
    λ among. let has = (sofar.are l).0 among in (covered_more has.0, has.1),
    λ h. elim (covered_cases m k l.from l.to h.0) [
      | inl before ↦ (sofar.are l).1 (before, h.1)
      | inr last ↦
          let at_pair : s.arc m k ≡ Some (record { cost = l.cost; middle = l.middle }) = subst (λ j. s.arc m j ≡ Some (record { cost = l.cost; middle = l.middle })) last.1 (subst (λ i. s.arc i l.to ≡ Some (record { cost = l.cost; middle = l.middle })) last.0 h.1) in
          absurd (cc)
    ],
  );
}

-- whichever it is
next_link : {s : State} {m k : ℕ} (o : Option StateArc) → s.arc m k ≡ o → LinksSoFar s m k → LinksSoFar s m (suc k)
next_link None none sofar = without_link none sofar
next_link (Some a) here sofar = with_link a here sofar

-- all links from m
link_row : {s : State} {m : ℕ} (k : ℕ) → LinksSoFar s m 0 → LinksSoFar s m k
link_row zero sofar = sofar
link_row {s} {m} (suc k) sofar = next_link (s.arc m k) refl (link_row k sofar)

-- from the links from m to those from the next node
next_link_row : {g : Graph} {s : State} → IsSound g s → {m : ℕ} → LinksSoFar s m s.nodes → LinksSoFar s (suc m) 0
next_link_row {g} {s} sound {m} sofar = record {
  links = sofar.links;
  sorted = sofar.sorted;
  are = λ l. (
    λ among.
        let has = (sofar.are l).0 among in
        (elim (has.0) [ inl low ↦ inl (omega (arith, low)) | inr here ↦ inl (omega (arith, here.0)) ], has.1),
    λ h.
        let to_in : l.to < s.nodes = omega (arith, (sound.arcs l.from l.to (record { cost = l.cost; middle = l.middle }) h.1).to_in, sound.nodes) in
        let now : IsCovered m s.nodes l.from l.to = elim (h.0) [
          | inr here ↦ absurd (omega (arith, here.1))
          | inl low ↦ elim (cases_eq l.from m) [
            | inl same ↦ inr (same, to_in)
            | inr other ↦ inl (omega (arith, low, other))
          ]
        ] in
        (sofar.are l).1 (now, h.1),
  );
}

-- all links from nodes below m
link_rows : {g : Graph} {s : State} → IsSound g s → (m : ℕ) → LinksSoFar s m 0
link_rows sound zero = record {
  links = [];
  sorted = λ i j d less low. absurd (omega (arith, low));
  are = λ l. (λ among. absurd (omega (arith, among.1)), λ h. elim (h.0) [ inl low ↦ absurd (omega (arith, low)) | inr here ↦ absurd (omega (arith, here.1)) ]);
}
link_rows {s = s} sound (suc m) = next_link_row sound (link_row s.nodes (link_rows sound m))

-- The hierarchy

-- so a state that is over has a hierarchy
pub has_made : {g : Graph} {s : State} → IsSound g s → IsOver s → (h : Hierarchy) × IsMade g s h
has_made {g} {s} sound over =
    let below = ranks_below sound over s.nodes (omega arith) in
    let all = link_rows sound s.nodes in (
      record { version = Two; ranks = below.ranks; links = all.links; bound = bound_of g },
      record {
        version = refl;
        nodes = below.many;
        ranks = λ k low. below.are (get_or s.order k 0) k (omega (arith, sound.in_range (get_or s.order k 0) (Contains-get_or s.order k 0 low), sound.nodes)) low refl;
        sorted = all.sorted;
        links = λ l. (
          λ among. ((all.are l).0 among).1,
          λ here. (all.are l).1 (inl (omega (arith, (sound.arcs l.from l.to (record { cost = l.cost; middle = l.middle }) here).from_in, sound.nodes)), here),
        );
        bound = refl;
      },
    )

-- the law that each graph has a run to the end
pub has_run : HasRun
has_run g is =
    let start = has_start g in
    let done = run_on is start.0.nodes [] start.0 (record { start = start.0; starts = start.1; run = rest }) (omega arith) in
    let made = has_made (reached-sound is done.reached) done.over in
    (done.log, done.state, made.0, done.reached, done.over, made.1)
