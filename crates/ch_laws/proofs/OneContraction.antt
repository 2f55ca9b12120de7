-- One contraction: which arcs it changes, and which nodes stay alive.
use Rattle.std.proofs.Common.{ℕ, ◌≡◌, ◌≢◌, ◌⊎◌, List, [], ◌∷◌, Option, Some, Contains, arith, refl, sym, ◌∙◌, ap, subst, inl, inr}
use Rattle.std.proofs.lemmas.Bool.{cases_eq}
use Rattle.std.proofs.lemmas.List.Elements.{Contains-push_cases}
use Rattle.ch_cost.specs.declared.cost.Cost.{Cost}
use Rattle.ch_cost.specs.Cost.{◌≺◌, IsWithin}
use Rattle.ch_laws.specs.Contraction.{State, StateArc, IsAlive, HasArc, Through, Shortcut, IsFor, NoShortcut, Puts}
use Rattle.ch_laws.specs.Members.{contains_first, contains_later, contains_cases}

-- a pair has one arc
pub one_arc_there : {o : Option StateArc} (a b : StateArc) → o ≡ Some a → o ≡ Some b → a ≡ b
one_arc_there a b e f = cc

-- and it has one cost
pub one_cost : {s : State} {x y : ℕ} {c d : Cost} → HasArc s x y c → HasArc s x y d → c ≡ d
one_cost {s} {x} {y} first second =
    sym first.costs ∙ ap (λ (a : StateArc). a.cost) (one_arc_there first.arc second.arc first.here second.here) ∙ second.costs

-- the arc stays where the state has the same for the pair
pub has_arc-same : {old new : State} {x y : ℕ} {c : Cost} → new.arc x y ≡ old.arc x y → HasArc old x y c → HasArc new x y c
has_arc-same same has = record { arc = has.arc; here = same ∙ has.here; costs = has.costs }

-- a shortcut of the list is from u to w
pub record HasShortcut (put : List Shortcut) (u w : ℕ) : Type 0 where
  pub shortcut : Shortcut
  pub among : Contains put shortcut
  pub joins : IsFor shortcut u w

-- a shortcut of the rest is one of the list
later_shortcut : (p : Shortcut) {put : List Shortcut} {u w : ℕ} → HasShortcut put u w → HasShortcut (p ∷ put) u w
later_shortcut p {put} h = record { shortcut = h.shortcut; among = contains_later p put h.shortcut h.among; joins = h.joins }

-- a pair without shortcut in the rest, for which the first isn't, has none
not_first : (p : Shortcut) (put : List Shortcut) (u w : ℕ) → (IsFor p u w → ⊥) → NoShortcut put u w → NoShortcut (p ∷ put) u w
not_first p put u w apart none q among joins = elim (contains_cases p put q among) [
  | inl same ↦ apart (subst (λ (r : Shortcut). IsFor r u w) (sym same) joins)
  | inr later ↦ none q later joins
]

-- a pair has a shortcut in the list or none
pub find_shortcut : (put : List Shortcut) (u w : ℕ) → HasShortcut put u w ⊎ NoShortcut put u w
find_shortcut [] u w = inr (λ p among joins. absurd (omega (arith, among.1)))
find_shortcut (p ∷ put) u w = elim (find_shortcut put u w) [
  | inl found ↦ inl (later_shortcut p found)
  | inr none ↦ elim (cases_eq p.from u) [
    | inr other ↦ inr (not_first p put u w (λ joins. other joins.0) none)
    | inl from ↦ elim (cases_eq p.to w) [
      | inr other ↦ inr (not_first p put u w (λ joins. other joins.1) none)
      | inl to ↦ inl (record { shortcut = p; among = contains_first p put; joins = (from, to) })
    ]
  ]
]

-- The arc of a pair that got a shortcut.
pub record IsPut (bound : Cost) (old : State) (v : ℕ) (new : State) (x y : ℕ) : Type 0 where
  pub arc : StateArc
  pub here : new.arc x y ≡ Some arc
  pub middle : arc.middle ≡ Some v
  pub through : Through old v x y arc.cost
  pub within : IsWithin arc.cost bound
  pub less : (c : Cost) → HasArc old x y c → arc.cost ≺ c

-- a shortcut of the list is put in for its pair
put_there : {bound : Cost} {old new : State} {v : ℕ} {put : List Shortcut} → Puts bound old v put new → (p : Shortcut) → Contains put p → IsPut bound old v new p.from p.to
put_there {v = v} puts p among =
    let allowed = puts.plan.allowed p among in
    record {
      arc = record { cost = p.cost; middle = Some v };
      here = puts.placed p among;
      middle = refl;
      through = allowed.through;
      within = allowed.within;
      less = allowed.less;
    }

-- each pair got a shortcut, or has none and keeps its arc
pub pair_cases : {bound : Cost} {old new : State} {v : ℕ} {put : List Shortcut} → Puts bound old v put new → (x y : ℕ) → IsPut bound old v new x y ⊎ NoShortcut put x y
pair_cases {bound} {old} {new} {v} {put} puts x y = elim (find_shortcut put x y) [
  | inl found ↦
      let at_ends : IsPut bound old v new found.shortcut.from found.shortcut.to = put_there puts found.shortcut found.among in
      let at_from : IsPut bound old v new x found.shortcut.to = subst (λ n. IsPut bound old v new n found.shortcut.to) found.joins.0 at_ends in
      inl (subst (λ n. IsPut bound old v new x n) found.joins.1 at_from)
  | inr none ↦ inr none
]

-- a pair that no way leads through v keeps its arc
pub kept_unless_through : {bound : Cost} {old new : State} {v : ℕ} {put : List Shortcut} → Puts bound old v put new → (x y : ℕ) → ((c : Cost) → Through old v x y c → ⊥) → new.arc x y ≡ old.arc x y
kept_unless_through puts x y not = elim (pair_cases puts x y) [
  | inl is_put ↦ absurd (not is_put.arc.cost is_put.through)
  | inr none ↦ puts.others x y none
]

-- an arc out of a node that isn't alive stays, and one into it
pub kept_from : {bound : Cost} {old new : State} {v : ℕ} {put : List Shortcut} → Puts bound old v put new → (x y : ℕ) → (IsAlive old x → ⊥) → new.arc x y ≡ old.arc x y
kept_from puts x y gone = kept_unless_through puts x y (λ c through. gone through.first.from_alive)

-- the same of an arc into it
pub kept_to : {bound : Cost} {old new : State} {v : ℕ} {put : List Shortcut} → Puts bound old v put new → (x y : ℕ) → (IsAlive old y → ⊥) → new.arc x y ≡ old.arc x y
kept_to puts x y gone = kept_unless_through puts x y (λ c through. gone through.second.to_alive)

-- a node other than v stays alive
pub alive-next : {bound : Cost} {old new : State} {v : ℕ} {put : List Shortcut} → Puts bound old v put new → {x : ℕ} → IsAlive old x → x ≢ v → IsAlive new x
alive-next {old = old} {v = v} puts {x} alive apart = record {
  in_range = omega (arith, alive.in_range, puts.nodes);
  waits = λ among. elim (Contains-push_cases old.order v x (subst (λ (order : List ℕ). Contains order x) puts.order among)) [
    | inl before ↦ alive.waits before
    | inr is_v ↦ apart (sym is_v)
  ];
}
