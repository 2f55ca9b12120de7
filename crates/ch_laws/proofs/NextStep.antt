-- Each alive node of a state can be contracted: a pair by way of it gets a shortcut, unless that is heavy or the arc
-- between the pair is a witness.
use Rattle.std.proofs.Common.{ℕ, zero, suc, ◌≡◌, ◌<◌, ◌⊎◌, ◌↔◌, List, [], ◌∷◌, ◌++◌, length, get_or, Option, Some, None, AllPairs, Contains, arith, refl, sym, ◌∙◌, subst, inl, inr}
use Rattle.std.proofs.lemmas.Bool.{cases_eq, cases_lt}
use Rattle.std.proofs.lemmas.List.Elements.{Contains-append_left, Contains-push, Contains-push_cases, Contains-get_or, All-weaker, All-contains_itself}
use Rattle.std.proofs.lemmas.List.Kept.{AllPairs-cons}
use Rattle.std.proofs.lemmas.List.Quantifiers.{all_pairs_push}
use Rattle.ch_cost.specs.declared.cost.Cost.{Cost}
use Rattle.ch_cost.specs.Cost.{◌⊕◌, ◌≼◌, ◌≺◌, IsWithin}
use Rattle.ch_cost.specs.Cost.Laws.{cases_cost, cases_within}
use Rattle.ch_graph.specs.Graph.{Graph}
use Rattle.ch_graph.specs.Limits.{bound_of}
use Rattle.ch_graph.specs.Walk.Laws.{one_arc}
use Rattle.ch_laws.specs.Contraction.{State, StateArc, IsAlive, HasArc, Remains, Through, HasWitness, Shortcut, IsFor, NoShortcut, IsAllowed, IsPlan, IsWitnessed, contracted, IsNeighbour, Contraction, Step}
use Rattle.ch_laws.specs.Theorems.{GoesOn}
use Rattle.ch_laws.proofs.PairOrder.{IsCovered, covered_more, covered_cases}
use Rattle.ch_laws.specs.Members.{contains_first, contains_later, contains_cases}
use Rattle.ch_laws.proofs.OneContraction.{one_cost}
use Rattle.ch_laws.proofs.SoundStates.{IsSound, arc-apart, reached-sound}
use Rattle.ch_laws.proofs.LawfulRuns.{plan_is_lawful}

-- Decisions

-- a number is in a list or not
pub cases_contains : (xs : List ℕ) (x : ℕ) → Contains xs x ⊎ (Contains xs x → ⊥)
cases_contains [] x = inr (λ among. absurd (omega (arith, among.1)))
cases_contains (y ∷ xs) x = elim (cases_eq y x) [
  | inl same ↦ inl (subst (λ n. Contains (y ∷ xs) n) same (contains_first y xs))
  | inr other ↦ elim (cases_contains xs x) [
    | inl later ↦ inl (contains_later y xs x later)
    | inr none ↦ inr (λ among. elim (contains_cases y xs x among) [ inl same ↦ other same | inr later ↦ none later ])
  ]
]

-- a node is alive or not
pub cases_alive : (s : State) (x : ℕ) → IsAlive s x ⊎ (IsAlive s x → ⊥)
cases_alive s x = elim (cases_lt x s.nodes) [
  | inr past ↦ inr (λ alive. omega (arith, past, alive.in_range))
  | inl low ↦ elim (cases_contains s.order x) [
    | inl among ↦ inr (λ alive. alive.waits among)
    | inr out ↦ inl (record { in_range = low; waits = out })
  ]
]

-- a pair has an arc or none
arc_at : (s : State) (x y : ℕ) (o : Option StateArc) → s.arc x y ≡ o → ((c : Cost) × HasArc s x y c) ⊎ ((c : Cost) → HasArc s x y c → ⊥)
arc_at s x y None none = inr (λ c has. let some : s.arc x y ≡ Some has.arc = has.here in absurd (cc))
arc_at s x y (Some arc) here = inl (arc.cost, record { arc = arc; here = here; costs = refl })

-- the same at the state's own arc
pub cases_arc : (s : State) (x y : ℕ) → ((c : Cost) × HasArc s x y c) ⊎ ((c : Cost) → HasArc s x y c → ⊥)
cases_arc s x y = arc_at s x y (s.arc x y) refl

-- an arc remains or not
cases_remains : (s : State) (x y : ℕ) → ((c : Cost) × Remains s x y c) ⊎ ((c : Cost) → Remains s x y c → ⊥)
cases_remains s x y = elim (cases_alive s x) [
  | inr gone ↦ inr (λ c arc. gone arc.from_alive)
  | inl from_alive ↦ elim (cases_alive s y) [
    | inr gone ↦ inr (λ c arc. gone arc.to_alive)
    | inl to_alive ↦ elim (cases_arc s x y) [
      | inr none ↦ inr (λ c arc. none c arc.arc)
      | inl has ↦ inl (has.0, record { from_alive = from_alive; to_alive = to_alive; arc = has.1 })
    ]
  ]
]

-- a way leads through v or not
cases_through : (s : State) (v u w : ℕ) → ((c : Cost) × Through s v u w c) ⊎ ((c : Cost) → Through s v u w c → ⊥)
cases_through s v u w = elim (cases_eq u w) [
  | inl same ↦ inr (λ c through. through.apart same)
  | inr apart ↦ elim (cases_remains s u v) [
    | inr none ↦ inr (λ c through. none through.into through.first)
    | inl first ↦ elim (cases_remains s v w) [
      | inr none ↦ inr (λ c through. none through.out through.second)
      | inl second ↦ inl (first.0 ⊕ second.0, record { into = first.0; out = second.0; apart = apart; first = first.1; second = second.1; adds = refl })
    ]
  ]
]

-- and its cost is one
one_way : {s : State} {v u w : ℕ} {c d : Cost} → Through s v u w c → Through s v u w d → c ≡ d
one_way a b =
    let into : a.into ≡ b.into = one_cost a.first.arc b.first.arc in
    let out : a.out ≡ b.out = one_cost a.second.arc b.second.arc in
    let sums : a.into ⊕ a.out ≡ b.into ⊕ b.out = cc in
    a.adds ∙ sums ∙ sym b.adds

-- a pair that has a witness where it isn't heavy
abbrev IsCared : Cost → State → ℕ → ℕ → ℕ → Type 0
IsCared bound s v u w = (c : Cost) → Through s v u w c → IsWithin c bound → HasWitness s v u w c

-- a pair may get a shortcut, or needs none
record IsWanted (bound : Cost) (s : State) (v u w : ℕ) : Type 0 where
  cost : Cost
  allowed : IsAllowed bound s v (record { from = u; to = w; cost = cost })

module _ {g : Graph} {s : State} (bound : Cost) (sound : IsSound g s) where
  -- the arc between the pair, where it costs no more than the way through v, is a witness
  direct : {v u w : ℕ} {c d : Cost} → Through s v u w c → HasArc s u w d → d ≼ c → HasWitness s v u w c
  direct {d = d} through arc less = record {
    cost = d;
    walk = one_arc (record {
      remains = record { from_alive = through.first.from_alive; to_alive = through.second.to_alive; arc = arc };
      from_other = arc-apart sound through.first.arc;
      to_other = λ same. arc-apart sound through.second.arc (sym same);
    });
    at_most = less;
  }

  -- a pair by way of v that isn't heavy
  cases_light : {v u w : ℕ} {c : Cost} → Through s v u w c → IsWithin c bound → IsWanted bound s v u w ⊎ IsCared bound s v u w
  cases_light {v} {u} {w} {c} through within = elim (cases_arc s u w) [
    | inr none ↦ inl (record { cost = c; allowed = record { through = through; within = within; less = λ d has. absurd (none d has) } })
    | inl has ↦ elim (cases_cost c has.0) [
      | inl less ↦ inl (record { cost = c; allowed = record { through = through; within = within; less = λ d other. subst (λ (e : Cost). c ≺ e) (one_cost has.1 other) less } })
      | inr at_least ↦ inr (λ d other light. direct other has.1 (subst (λ (e : Cost). has.0 ≼ e) (one_way through other) at_least))
    ]
  ]

  -- any pair gets a shortcut or needs none
  cases_wanted : (v u w : ℕ) → IsWanted bound s v u w ⊎ IsCared bound s v u w
  cases_wanted v u w = elim (cases_through s v u w) [
    | inr none ↦ inr (λ c through within. absurd (none c through))
    | inl through ↦ elim (cases_within through.0 bound) [
      | inl within ↦ cases_light through.1 within
      | inr heavy ↦ inr (λ c other within. absurd (heavy (subst (λ (d : Cost). IsWithin d bound) (one_way other through.1) within)))
    ]
  ]

-- All pairs

-- the shortcuts for the pairs so far
record PlanSoFar (bound : Cost) (s : State) (v m k : ℕ) : Type 0 where
  put : List Shortcut
  once : AllPairs (λ p q. IsFor p q.from q.to → ⊥) put
  allowed : (p : Shortcut) → Contains put p → IsAllowed bound s v p
  covered : (p : Shortcut) → Contains put p → IsCovered m k p.from p.to
  cared : (u w : ℕ) → IsCovered m k u w → NoShortcut put u w → IsCared bound s v u w

-- no shortcut so far is for the pair that comes next
not_yet_for : {bound : Cost} {s : State} {v m k : ℕ} (plan : PlanSoFar bound s v m k) (p : Shortcut) → p.from ≡ m → p.to ≡ k → (q : Shortcut) → Contains plan.put q → IsFor p q.from q.to → ⊥
not_yet_for plan p from to q among joins = elim (plan.covered q among) [
  | inl low ↦ omega (arith, low, joins.0, from)
  | inr here ↦ omega (arith, here.1, joins.1, to)
]

-- a shortcut for the pair that comes next
with_shortcut : {bound : Cost} {s : State} {v m k : ℕ} → PlanSoFar bound s v m k → IsWanted bound s v m k → PlanSoFar bound s v m (suc k)
with_shortcut {bound} {s} {v} {m} {k} plan wanted =
    let p : Shortcut = record { from = m; to = k; cost = wanted.cost } in
    record {
      put = p ∷ plan.put;
      once = AllPairs-cons (λ p q. IsFor p q.from q.to → ⊥) p plan.put
          (All-weaker (λ q. Contains plan.put q) (λ q. IsFor p q.from q.to → ⊥) (not_yet_for plan p refl refl) plan.put (All-contains_itself plan.put)) plan.once;
      allowed = λ q among. elim (contains_cases p plan.put q among) [
        | inl same ↦ subst (λ (r : Shortcut). IsAllowed bound s v r) same wanted.allowed
        | inr later ↦ plan.allowed q later
      ];
      covered = λ q among. elim (contains_cases p plan.put q among) [
        | inl same ↦ subst (λ (r : Shortcut). IsCovered m (suc k) r.from r.to) same (inr (refl, omega arith))
        | inr later ↦ covered_more (plan.covered q later)
      ];
      cared = λ u w is none. elim (covered_cases m k u w is) [
        | inl before ↦ plan.cared u w before (λ q among. none q (contains_later p plan.put q among))
        | inr here ↦ absurd (none p (contains_first p plan.put) (sym here.0, sym here.1))
      ];
    }

-- or none, where it needs none
without_shortcut : {bound : Cost} {s : State} {v m k : ℕ} → PlanSoFar bound s v m k → IsCared bound s v m k → PlanSoFar bound s v m (suc k)
without_shortcut {bound} {s} {v} {m} {k} plan is_cared = record {
  put = plan.put;
  once = plan.once;
  allowed = plan.allowed;
  covered = λ q among. covered_more (plan.covered q among);
  cared = λ u w is none. elim (covered_cases m k u w is) [
    | inl before ↦ plan.cared u w before none
    | inr here ↦ subst (λ n. IsCared bound s v n w) (sym here.0) (subst (λ n. IsCared bound s v m n) (sym here.1) is_cared)
  ];
}

-- from the pairs from m to those from the next node
next_row : {bound : Cost} {s : State} {v m : ℕ} → PlanSoFar bound s v m s.nodes → PlanSoFar bound s v (suc m) 0
next_row {bound} {s} {v} {m} plan = record {
  put = plan.put;
  once = plan.once;
  allowed = plan.allowed;
  covered = λ q among. elim (plan.covered q among) [ inl low ↦ inl (omega (arith, low)) | inr here ↦ inl (omega (arith, here.0)) ];
  cared = λ u w is none c through within.
      let w_in : w < s.nodes = through.second.to_alive.in_range in
      let now : IsCovered m s.nodes u w = elim is [
        | inr here ↦ absurd (omega (arith, here.1))
        | inl low ↦ elim (cases_eq u m) [
          | inl same ↦ inr (same, w_in)
          | inr other ↦ inl (omega (arith, low, other))
        ]
      ] in
      plan.cared u w now none c through within;
}

module _ {g : Graph} {s : State} (bound : Cost) (sound : IsSound g s) (v : ℕ) where
  -- one more pair, whichever it is
  next_pair : {m k : ℕ} → PlanSoFar bound s v m k → PlanSoFar bound s v m (suc k)
  next_pair {m} {k} plan = elim (cases_wanted bound sound v m k) [
    | inl wanted ↦ with_shortcut plan wanted
    | inr is_cared ↦ without_shortcut plan is_cared
  ]

  -- all pairs from m
  plan_row : {m : ℕ} (k : ℕ) → PlanSoFar bound s v m 0 → PlanSoFar bound s v m k
  plan_row zero plan = plan
  plan_row {m} (suc k) plan = next_pair (plan_row k plan)

  -- all pairs from nodes below m
  plan_rows : (m : ℕ) → PlanSoFar bound s v m 0
  plan_rows zero = record {
    put = [];
    once = λ i j d less low. absurd (omega (arith, low));
    allowed = λ p among. absurd (omega (arith, among.1));
    covered = λ p among. absurd (omega (arith, among.1));
    cared = λ u w is none. elim is [ inl low ↦ absurd (omega (arith, low)) | inr here ↦ absurd (omega (arith, here.1)) ];
  }
  plan_rows (suc m) = next_row (plan_row s.nodes (plan_rows m))

  -- each pair of alive nodes is cared for
  plan-witnessed : IsWitnessed bound s v (plan_rows s.nodes).put
  plan-witnessed u w c through within none = (plan_rows s.nodes).cared u w (inl through.first.from_alive.in_range) none c through within

-- Neighbours

-- a node is a neighbour or not
pub cases_neighbour : (s : State) (v x : ℕ) → IsNeighbour s v x ⊎ (IsNeighbour s v x → ⊥)
cases_neighbour s v x = elim (cases_alive s x) [
  | inr gone ↦ inr (λ is. gone is.alive)
  | inl alive ↦ elim (cases_arc s v x) [
    | inl out ↦ inl (record { alive = alive; joined = inl out })
    | inr no_out ↦ elim (cases_arc s x v) [
      | inl into ↦ inl (record { alive = alive; joined = inr into })
      | inr no_into ↦ inr (λ is. elim (is.joined) [ inl out ↦ no_out out.0 out.1 | inr into ↦ no_into into.0 into.1 ])
    ]
  ]
]

-- the neighbours below k, rising
record NeighboursBelow (s : State) (v k : ℕ) : Type 0 where
  nodes : List ℕ
  rising : AllPairs (λ x y. x < y) nodes
  are : (x : ℕ) → Contains nodes x ↔ ((x < k) × IsNeighbour s v x)

-- one more node, which is a neighbour
with_neighbour : {s : State} {v k : ℕ} → NeighboursBelow s v k → IsNeighbour s v k → NeighboursBelow s v (suc k)
with_neighbour {s} {v} {k} below is = record {
  nodes = below.nodes ++ k ∷ [];
  rising = all_pairs_push (λ x y. x < y) below.nodes k below.rising (λ j d low. ((below.are (get_or below.nodes j d)).0 (Contains-get_or below.nodes j d low)).0);
  are = λ x. (
    λ among. elim (Contains-push_cases below.nodes k x among) [
      | inl before ↦
          let has = (below.are x).0 before in
          (omega (arith, has.0), has.1)
      | inr last ↦ (omega (arith, last), subst (λ n. IsNeighbour s v n) last is)
    ],
    λ h. elim (cases_eq k x) [
      | inl last ↦ subst (λ n. Contains (below.nodes ++ k ∷ []) n) last (Contains-push below.nodes k)
      | inr other ↦ Contains-append_left below.nodes (k ∷ []) x ((below.are x).1 (omega (arith, h.0, other), h.1))
    ],
  );
}

-- and one that isn't
without_neighbour : {s : State} {v k : ℕ} → NeighboursBelow s v k → (IsNeighbour s v k → ⊥) → NeighboursBelow s v (suc k)
without_neighbour {s} {v} {k} below not = record {
  nodes = below.nodes;
  rising = below.rising;
  are = λ x. (
    λ among. let has = (below.are x).0 among in (omega (arith, has.0), has.1),
    λ h. elim (cases_eq x k) [
      | inl last ↦ absurd (not (subst (λ n. IsNeighbour s v n) last h.1))
      | inr other ↦ (below.are x).1 (omega (arith, h.0, other), h.1)
    ],
  );
}

-- so the neighbours can be listed
neighbours_below : (s : State) (v k : ℕ) → NeighboursBelow s v k
neighbours_below s v zero = record {
  nodes = [];
  rising = λ i j d less low. absurd (omega (arith, low));
  are = λ x. (λ among. absurd (omega (arith, among.1)), λ h. absurd (omega (arith, h.0)));
}
neighbours_below s v (suc k) = elim (cases_neighbour s v k) [
  | inl is ↦ with_neighbour (neighbours_below s v k) is
  | inr not ↦ without_neighbour (neighbours_below s v k) not
]

-- The contraction

-- a plan for all pairs and the list of neighbours make a step
pub next-step : {g : Graph} {s : State} → IsSound g s → {v : ℕ} → IsAlive s v → (e : Contraction) × (new : State) × Step (bound_of g) s e new × (e.node ≡ v)
next-step {g} {s} sound {v} alive =
    let plan = plan_rows (bound_of g) sound v s.nodes in
    let neighbours = neighbours_below s v s.nodes in
    let e : Contraction = record { node = v; rank = length s.order; neighbours = neighbours.nodes; shortcuts = length plan.put } in
    let lawful : IsPlan (bound_of g) s v plan.put = record { alive = alive; once = plan.once; allowed = plan.allowed } in (
      e,
      contracted s v plan.put,
      record {
        put = plan.put;
        puts = plan_is_lawful (bound_of g) s v plan.put lawful (plan-witnessed (bound_of g) sound v);
        rank = refl;
        shortcuts = refl;
        rising = neighbours.rising;
        neighbours = λ x. (λ among. ((neighbours.are x).0 among).1, λ is. (neighbours.are x).1 (is.alive.in_range, is));
      },
      refl,
    )

-- the law that contraction goes on
pub goes_on : GoesOn
goes_on g log s v is reached alive = next-step (reached-sound is reached) alive
