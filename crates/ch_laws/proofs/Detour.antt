-- A walk of the remaining graph, seen after one contraction: it goes outside the contracted node, but for an arc out
-- of it at the start and one into it at the end, or there is a cheaper walk of the graph.
use Rattle.std.proofs.Common.{ℕ, ◌≡◌, ◌≢◌, ◌⊎◌, List, refl, sym, ◌∙◌, ap, subst, inl, inr}
use Rattle.std.proofs.lemmas.Bool.{cases_eq}
use Rattle.ch_cost.specs.declared.cost.Cost.{Cost}
use Rattle.ch_cost.specs.Cost.{zero_cost, ◌⊕◌, IsWithin}
use Rattle.ch_cost.specs.Cost.Laws.{sum_assoc, zero_cost-sum, sum-zero_cost, at_most_antisym, at_most_sum_right, at_most_trans_below, below_sum_left, cases_cost, within-left, within-right}
use Rattle.ch_graph.specs.Walk.{Walk, Walk.stay, Walk.go}
use Rattle.ch_graph.specs.Graph.{Graph, ArcOf}
use Rattle.ch_graph.specs.Limits.{bound_of}
use Rattle.ch_graph.specs.Walk.Laws.{Cheaper, one_arc, join, along_walks, cheaper-after, cheaper-before}
use Rattle.ch_laws.specs.declared.shortcut.Shortcut.{Shortcut}
use Rattle.ch_laws.specs.Contraction.{State, Before, HasArc, Remains, Through, Avoids, HasWitness, Puts}
use Rattle.ch_laws.proofs.OneContraction.{one_cost, has_arc-same, pair_cases, alive-next}
use Rattle.ch_laws.proofs.SoundStates.{IsSound, arc-walk, arc-above, arc-apart, remaining-walk, avoiding-walk, kept_into, contracted-before, puts-sound}

-- an arc to a node that comes later in the order, and one to a node that came earlier
pub record Climbs (s : State) (x y : ℕ) (c : Cost) : Type 0 where
  pub arc : HasArc s x y c
  pub before : Before s.order x y

pub record Drops (s : State) (x y : ℕ) (c : Cost) : Type 0 where
  pub arc : HasArc s x y c
  pub before : Before s.order y x

-- A walk of the remaining graph, and then arcs to nodes contracted earlier and earlier.
pub record Lead (s : State) (x z : ℕ) (c : Cost) : Type 0 where
  pub turn : ℕ
  pub mid : Cost
  pub down : Cost
  pub walk : Walk (Remains s) x turn mid
  pub fall : Walk (Drops s) turn z down
  pub sum : c ≡ mid ⊕ down

-- What becomes of a walk of the remaining graph when v is contracted: a cheaper walk of the graph is there; or it
-- begins outside v; or it stays at v; or it leaves v by an arc and goes on outside.
pub data Detour (g : Graph) (old : State) (v : ℕ) (new : State) (x z : ℕ) (c : Cost) : Type 0 where
  dearer : Cheaper (ArcOf g) x z c → Detour g old v new x z c
  beside : x ≢ v → Lead new x z c → Detour g old v new x z c
  stands : x ≡ v → z ≡ v → c ≡ zero_cost → Detour g old v new x z c
  leaves : x ≡ v → (y : ℕ) (a d : Cost) → Remains old v y a → Lead new y z d → c ≡ a ⊕ d → Detour g old v new x z c

-- the same at an equal cost
detour-same : {g : Graph} {old new : State} {v x z : ℕ} {c d : Cost} → c ≡ d → Detour g old v new x z c → Detour g old v new x z d
detour-same {g} {old} {new} {v} {x} {z} same detour = subst (λ (e : Cost). Detour g old v new x z e) same detour

-- a walk of the remaining graph before a lead
lead-before : {s : State} {x y z : ℕ} {c d : Cost} → Walk (Remains s) x y c → Lead s y z d → Lead s x z (c ⊕ d)
lead-before {c = c} w lead = record {
  turn = lead.turn;
  mid = c ⊕ lead.mid;
  down = lead.down;
  walk = join w lead.walk;
  fall = lead.fall;
  sum = ap (λ (e : Cost). c ⊕ e) lead.sum ∙ sym (sum_assoc c lead.mid lead.down);
}

module _ {g : Graph} {s : State} (sound : IsSound g s) where
  -- such walks are walks of the graph
  pub climbing-walk : {x z : ℕ} {c : Cost} → Walk (Climbs s) x z c → Walk (ArcOf g) x z c
  climbing-walk w = along_walks (λ x y c arc. arc-walk sound arc.arc) w

  -- the same downwards
  pub dropping-walk : {x z : ℕ} {c : Cost} → Walk (Drops s) x z c → Walk (ArcOf g) x z c
  dropping-walk w = along_walks (λ x y c arc. arc-walk sound arc.arc) w

  -- and so is a lead
  lead-walk : {x z : ℕ} {c : Cost} → Lead s x z c → Walk (ArcOf g) x z c
  lead-walk {x} {z} lead = subst (λ (c : Cost). Walk (ArcOf g) x z c) (sym lead.sum) (join (remaining-walk sound lead.walk) (dropping-walk lead.fall))

module _ {g : Graph} {old new : State} {v : ℕ} {put : List Shortcut} (sound : IsSound g old) (puts : Puts (bound_of g) old v put new) where
  -- an arc outside v stays, or a cheaper shortcut is put in
  keeps : {x y : ℕ} {c : Cost} → Avoids old v x y c → Remains new x y c ⊎ Cheaper (ArcOf g) x y c
  keeps {x} {y} {c} arc = elim (pair_cases puts x y) [
    | inl is_put ↦ inr (record {
      cost = is_put.arc.cost;
      walk = arc-walk (puts-sound sound puts) (record { arc = is_put.arc; here = is_put.here; costs = refl });
      below = is_put.less c arc.remains.arc;
    })
    | inr none ↦ inl (record {
      from_alive = alive-next puts arc.remains.from_alive arc.from_other;
      to_alive = alive-next puts arc.remains.to_alive arc.to_other;
      arc = has_arc-same (puts.others x y none) arc.remains.arc;
    })
  ]

  -- and so does a walk outside v
  keeps_walk : {x z : ℕ} {c : Cost} → Walk (Avoids old v) x z c → Walk (Remains new) x z c ⊎ Cheaper (ArcOf g) x z c
  keeps_walk stay = inl stay
  keeps_walk (go arc more) = elim (keeps arc) [
    | inr less ↦ inr (cheaper-before less (avoiding-walk sound more))
    | inl kept ↦ elim (keeps_walk more) [
      | inl kept_more ↦ inl (go kept kept_more)
      | inr less ↦ inr (cheaper-after (arc-walk sound arc.remains.arc) less)
    ]
  ]

  -- a witness that costs as much as the way through v does serves, and a cheaper one is a cheaper walk
  by_witness : {u w : ℕ} {sum : Cost} → HasWitness old v u w sum → Walk (Remains new) u w sum ⊎ Cheaper (ArcOf g) u w sum
  by_witness {u} {w} {sum} witness = elim (cases_cost witness.cost sum) [
    | inl less ↦ inr (record { cost = witness.cost; walk = avoiding-walk sound witness.walk; below = less })
    | inr at_least ↦
        let same : witness.cost ≡ sum = at_most_antisym witness.at_most at_least in
        subst (λ (c : Cost). Walk (Remains new) u w c ⊎ Cheaper (ArcOf g) u w c) same (keeps_walk witness.walk)
  ]

  -- a pair by way of v that isn't heavy stays joined at that cost, or there is a cheaper walk
  across : {u w : ℕ} {sum : Cost} → Through old v u w sum → IsWithin sum (bound_of g) → Walk (Remains new) u w sum ⊎ Cheaper (ArcOf g) u w sum
  across {u} {w} {sum} through within = elim (pair_cases puts u w) [
    | inr none ↦ by_witness (puts.witnessed u w sum through within none)
    | inl is_put ↦
        let into : is_put.through.into ≡ through.into = one_cost is_put.through.first.arc through.first.arc in
        let out : is_put.through.out ≡ through.out = one_cost is_put.through.second.arc through.second.arc in
        let same : is_put.through.into ⊕ is_put.through.out ≡ through.into ⊕ through.out = cc in
        inl (one_arc (record {
          from_alive = alive-next puts through.first.from_alive (arc-apart sound through.first.arc);
          to_alive = alive-next puts through.second.to_alive (λ is_v. arc-apart sound through.second.arc (sym is_v));
          arc = record { arc = is_put.arc; here = is_put.here; costs = is_put.through.adds ∙ same ∙ sym through.adds };
        }))
  ]

  -- an arc into v, where the walk ends
  into_last : {x y z : ℕ} {a d : Cost} → Remains old x y a → y ≡ v → z ≡ v → d ≡ zero_cost → Detour g old v new x z (a ⊕ d)
  into_last {x} {y} {z} {a} {d} arc at_v ends free =
      let apart : x ≢ v = λ same. arc-apart sound arc.arc (same ∙ sym at_v) in
      let last : HasArc old x v a = subst (λ n. HasArc old x n a) at_v arc.arc in
      let drop : Drops new x v a = record { arc = has_arc-same (kept_into sound puts x) last; before = contracted-before sound puts arc.from_alive apart } in
      beside apart (record {
        turn = x;
        mid = zero_cost;
        down = a;
        walk = stay;
        fall = subst (λ n. Walk (Drops new) x n a) (sym ends) (one_arc drop);
        sum = ap (λ (e : Cost). a ⊕ e) free ∙ sum-zero_cost a ∙ sym (zero_cost-sum a);
      })

  -- an arc into v, another out of it, and on outside
  by_way : {x z : ℕ} {a b d : Cost} {y : ℕ} → Remains old x v a → Remains old v y b → Lead new y z d → IsWithin (a ⊕ (b ⊕ d)) (bound_of g) → Detour g old v new x z (a ⊕ (b ⊕ d))
  by_way {x} {z} {a} {b} {d} {y} first second lead within = elim (cases_eq x y) [
    | inl back ↦ dearer (record {
      cost = d;
      walk = subst (λ n. Walk (ArcOf g) n z d) (sym back) (lead-walk (puts-sound sound puts) lead);
      below = at_most_trans_below (at_most_sum_right b d) (below_sum_left a (b ⊕ d) (arc-above sound first.arc));
    })
    | inr apart ↦
        let through : Through old v x y (a ⊕ b) = record { into = a; out = b; apart = apart; first = first; second = second; adds = refl } in
        let light : IsWithin (a ⊕ b) (bound_of g) = within-left (a ⊕ b) d (subst (λ (c : Cost). IsWithin c (bound_of g)) (sym (sum_assoc a b d)) within) in
        detour-same (sum_assoc a b d) (elim (across through light) [
          | inl walk ↦ beside (arc-apart sound first.arc) (lead-before walk lead)
          | inr less ↦ dearer (cheaper-before less (lead-walk (puts-sound sound puts) lead))
        ])
  ]

  -- one more arc in front
  extend : {x y z : ℕ} {a d : Cost} → Remains old x y a → Detour g old v new y z d → IsWithin (a ⊕ d) (bound_of g) → Detour g old v new x z (a ⊕ d)
  extend arc (dearer less) within = dearer (cheaper-after (arc-walk sound arc.arc) less)
  extend {x} {y} {z} {a} {d} arc (beside apart lead) within = elim (cases_eq x v) [
    | inl at_v ↦ leaves at_v y a d (subst (λ n. Remains old n y a) at_v arc) lead refl
    | inr other ↦ elim (keeps (record { remains = arc; from_other = other; to_other = apart })) [
      | inl kept ↦ beside other (lead-before (one_arc kept) lead)
      | inr less ↦ dearer (cheaper-before less (lead-walk (puts-sound sound puts) lead))
    ]
  ]
  extend arc (stands at_v ends free) within = into_last arc at_v ends free
  extend {x} {y} {z} {a} {d} arc (leaves at_v w b e second lead sum) within =
      let first : Remains old x v a = subst (λ n. Remains old x n a) at_v arc in
      let same : a ⊕ d ≡ a ⊕ (b ⊕ e) = ap (λ (c : Cost). a ⊕ c) sum in
      detour-same (sym same) (by_way first second lead (subst (λ (c : Cost). IsWithin c (bound_of g)) same within))

  -- so a walk of the remaining graph that isn't heavy makes a detour
  pub detour : {x z : ℕ} {c : Cost} → Walk (Remains old) x z c → IsWithin c (bound_of g) → Detour g old v new x z c
  detour (stay {x}) within = elim (cases_eq x v) [
    | inl at_v ↦ stands at_v at_v refl
    | inr other ↦ beside other (record { turn = x; mid = zero_cost; down = zero_cost; walk = stay; fall = stay; sum = sym (zero_cost-sum zero_cost) })
  ]
  detour (go {c = a} {d = d} arc more) within = extend arc (detour more (within-right a d within)) within
