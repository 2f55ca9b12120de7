-- How a walk of the graph fares along a run of contractions: it stays a passage of the same cost, or becomes a crest,
-- or a cheaper walk of the graph is there.
use Rattle.std.proofs.Common.{ℕ, ◌≡◌, ◌<◌, ◌⊎◌, List, Option, Some, None, Contains, refl, arith, sym, ◌∙◌, ap, subst, inl, inr}
use Rattle.std.proofs.lemmas.Bool.{cases_eq}
use Rattle.ch_cost.specs.declared.cost.Cost.{Cost}
use Rattle.ch_cost.specs.Cost.{zero_cost, ◌⊕◌, IsWithin}
use Rattle.ch_cost.specs.Cost.Laws.{sum_assoc, zero_cost-sum, sum-zero_cost, at_most_antisym, cases_cost, within-left, within-right}
use Rattle.ch_graph.specs.Walk.{Walk, Walk.stay, Walk.go}
use Rattle.ch_graph.specs.Graph.{Graph, ArcOf}
use Rattle.ch_graph.specs.Limits.{IsGraph, bound_of}
use Rattle.ch_graph.specs.Walk.Laws.{Cheaper, one_arc, join, along_arcs, cheaper-after, cheaper-before}
use Rattle.ch_graph.specs.Limits.Laws.{arc-sound}
use Rattle.ch_laws.specs.declared.shortcut.Shortcut.{Shortcut}
use Rattle.ch_laws.specs.Contraction.{State, StateArc, IsAlive, Remains, IsStartArc, IsStart, Puts, Contraction, Run, Run.rest, Run.next, IsOver}
use Rattle.ch_laws.proofs.ContractionOrder.{before_not_alive}
use Rattle.ch_laws.proofs.OneContraction.{has_arc-same, kept_from, kept_to}
use Rattle.ch_laws.proofs.SoundStates.{IsSound, arc-apart, kept_out_of, before-next, contracted-before, puts-sound}
use Rattle.ch_laws.proofs.Detour.{Climbs, Drops, Detour, Detour.dearer, Detour.beside, Detour.stands, Detour.leaves, climbing-walk, dropping-walk, detour}

-- A walk that rises through contracted nodes, goes on in the remaining graph, and falls through contracted nodes.
pub record Passage (s : State) (x z : ℕ) (c : Cost) : Type 0 where
  pub first : ℕ
  pub last : ℕ
  pub up : Cost
  pub mid : Cost
  pub down : Cost
  pub rise : Walk (Climbs s) x first up
  pub walk : Walk (Remains s) first last mid
  pub fall : Walk (Drops s) last z down
  pub sum : c ≡ up ⊕ (mid ⊕ down)

-- A walk that rises to a node and falls from it.
pub record Crest (s : State) (x z : ℕ) (c : Cost) : Type 0 where
  pub top : ℕ
  pub up : Cost
  pub down : Cost
  pub rise : Walk (Climbs s) x top up
  pub fall : Walk (Drops s) top z down
  pub sum : c ≡ up ⊕ down

-- what a walk of cost c has become
pub data Progress (g : Graph) (s : State) (x z : ℕ) (c : Cost) : Type 0 where
  cheaper : Cheaper (ArcOf g) x z c → Progress g s x z c
  passes : Passage s x z c → Progress g s x z c
  crests : Crest s x z c → Progress g s x z c

-- The start

-- an arc of the graph is one of the start, or there is a cheaper walk with its ends
module _ {g : Graph} {s : State} (is : IsGraph g) (start : IsStart g s) where
  -- every node is alive
  start-alive : (x : ℕ) → x < g.nodes → IsAlive s x
  start-alive x low = record {
    in_range = omega (arith, low, start.nodes);
    waits = λ among. absurd (omega (arith, (subst (λ (order : List ℕ). Contains order x) start.order among).1));
  }

  -- an arc of the graph, against the least of its pair
  start-least : {x y : ℕ} {c : Cost} → ArcOf g x y c → (o : Option StateArc) → s.arc x y ≡ o → IsStartArc g x y o → Remains s x y c ⊎ Cheaper (ArcOf g) x y c
  start-least {c} arc None none_is none = absurd (none c arc)
  start-least {x} {y} {c} arc (Some least) here is_least = elim (cases_cost least.cost c) [
    | inl less ↦ inr (record { cost = least.cost; walk = one_arc is_least.0.0; below = less })
    | inr at_least ↦
        let same : least.cost ≡ c = at_most_antisym (is_least.0.1 c arc) at_least in
        let sound = arc-sound g is x y c arc in
        inl (record {
          from_alive = start-alive x sound.from_in;
          to_alive = start-alive y sound.to_in;
          arc = record { arc = least; here = here; costs = same };
        })
  ]

  -- an arc of the graph remains at the start, or there is a cheaper walk
  start-arc : {x y : ℕ} {c : Cost} → ArcOf g x y c → Remains s x y c ⊎ Cheaper (ArcOf g) x y c
  start-arc {x} {y} {c} arc = elim (cases_eq x y) [
    | inl same ↦ inr (record { cost = zero_cost; walk = subst (λ n. Walk (ArcOf g) x n zero_cost) same stay; below = (arc-sound g is x y c arc).above })
    | inr apart ↦ start-least arc (s.arc x y) refl (start.arcs x y apart)
  ]

  -- so a walk of the graph is one of the start, or there is a cheaper one
  start-walk : {x z : ℕ} {c : Cost} → Walk (ArcOf g) x z c → Walk (Remains s) x z c ⊎ Cheaper (ArcOf g) x z c
  start-walk stay = inl stay
  start-walk (go {x = x} {y = y} {c = c} arc more) = elim (start-arc arc) [
    | inr less ↦ inr (cheaper-before less more)
    | inl kept ↦ elim (start-walk more) [
      | inl kept_more ↦ inl (go kept kept_more)
      | inr less ↦ inr (cheaper-after (one_arc arc) less)
    ]
  ]

  -- and a walk that remains is a passage
  pub start-progress : {x z : ℕ} {c : Cost} → Walk (ArcOf g) x z c → Progress g s x z c
  start-progress {x} {z} {c} w = elim (start-walk w) [
    | inr less ↦ cheaper less
    | inl walk ↦ passes (record {
      first = x;
      last = z;
      up = zero_cost;
      mid = c;
      down = zero_cost;
      rise = stay;
      walk = walk;
      fall = stay;
      sum = sym (zero_cost-sum (c ⊕ zero_cost) ∙ sum-zero_cost c);
    })
  ]

-- One contraction

-- the parts of a passage that leaves the contracted node by an arc, in order
regroup : (a b c d e : Cost) → a ⊕ ((b ⊕ (c ⊕ d)) ⊕ e) ≡ (a ⊕ b) ⊕ (c ⊕ (d ⊕ e))
regroup a b c d e = simp sum_assoc

module _ {g : Graph} {old new : State} {v : ℕ} {put : List Shortcut} (sound : IsSound g old) (puts : Puts (bound_of g) old v put new) where
  -- arcs at contracted nodes stay, so what rises or falls goes on doing so
  rise-next : {x z : ℕ} {c : Cost} → Walk (Climbs old) x z c → Walk (Climbs new) x z c
  rise-next w = along_arcs (λ x y c arc. record { arc = has_arc-same (kept_from puts x y (before_not_alive arc.before)) arc.arc; before = before-next sound puts arc.before }) w

  -- the same downwards
  fall-next : {x z : ℕ} {c : Cost} → Walk (Drops old) x z c → Walk (Drops new) x z c
  fall-next w = along_arcs (λ x y c arc. record { arc = has_arc-same (kept_to puts x y (before_not_alive arc.before)) arc.arc; before = before-next sound puts arc.before }) w

  -- so a crest stays
  crest-next : {x z : ℕ} {c : Cost} → Crest old x z c → Crest new x z c
  crest-next crest = record { top = crest.top; up = crest.up; down = crest.down; rise = rise-next crest.rise; fall = fall-next crest.fall; sum = crest.sum }

  -- a passage goes on by the detour of its middle part
  by_detour : {x z : ℕ} {c : Cost} (p : Passage old x z c) → Detour g old v new p.first p.last p.mid → Progress g new x z c
  by_detour {x} {z} p (dearer less) =
      cheaper (subst (λ (c : Cost). Cheaper (ArcOf g) x z c) (sym p.sum) (cheaper-after (climbing-walk sound p.rise) (cheaper-before less (dropping-walk sound p.fall))))
  by_detour p (beside apart lead) = passes (record {
    first = p.first;
    last = lead.turn;
    up = p.up;
    mid = lead.mid;
    down = lead.down ⊕ p.down;
    rise = rise-next p.rise;
    walk = lead.walk;
    fall = join lead.fall (fall-next p.fall);
    sum = p.sum ∙ ap (λ (c : Cost). p.up ⊕ c) (ap (λ (c : Cost). c ⊕ p.down) lead.sum ∙ sum_assoc lead.mid lead.down p.down);
  })
  by_detour {z = z} p (stands at_v ends free) = crests (record {
    top = p.first;
    up = p.up;
    down = p.down;
    rise = rise-next p.rise;
    fall = subst (λ n. Walk (Drops new) n z p.down) (ends ∙ sym at_v) (fall-next p.fall);
    sum = p.sum ∙ ap (λ (c : Cost). p.up ⊕ c) (ap (λ (c : Cost). c ⊕ p.down) free ∙ zero_cost-sum p.down);
  })
  by_detour {x} p (leaves at_v y a d arc lead sum) =
      let climb : Climbs new v y a = record { arc = has_arc-same (kept_out_of sound puts y) arc.arc; before = contracted-before sound puts arc.to_alive (λ is_v. arc-apart sound arc.arc (sym is_v)) } in
      let rise : Walk (Climbs new) x v p.up = subst (λ n. Walk (Climbs new) x n p.up) at_v (rise-next p.rise) in
      let mid : p.mid ≡ a ⊕ (lead.mid ⊕ lead.down) = sum ∙ ap (λ (c : Cost). a ⊕ c) lead.sum in
      passes (record {
        first = y;
        last = lead.turn;
        up = p.up ⊕ a;
        mid = lead.mid;
        down = lead.down ⊕ p.down;
        rise = join rise (one_arc climb);
        walk = lead.walk;
        fall = join lead.fall (fall-next p.fall);
        sum = p.sum ∙ ap (λ (c : Cost). p.up ⊕ (c ⊕ p.down)) mid ∙ regroup p.up a lead.mid lead.down p.down;
      })

  -- whatever the walk has become
  pub progress-next : {x z : ℕ} {c : Cost} → IsWithin c (bound_of g) → Progress g old x z c → Progress g new x z c
  progress-next within (cheaper less) = cheaper less
  progress-next within (crests crest) = crests (crest-next crest)
  progress-next within (passes p) =
      let parts : IsWithin (p.up ⊕ (p.mid ⊕ p.down)) (bound_of g) = subst (λ (c : Cost). IsWithin c (bound_of g)) p.sum within in
      by_detour p (detour sound puts p.walk (within-left p.mid p.down (within-right p.up (p.mid ⊕ p.down) parts)))

-- many contractions
pub run-progress : {g : Graph} {log : List Contraction} {old new : State} → Run (bound_of g) old log new → IsSound g old → {x z : ℕ} {c : Cost} → IsWithin c (bound_of g) → Progress g old x z c → Progress g new x z c
run-progress rest sound within progress = progress
run-progress (next step run) sound within progress = run-progress run (puts-sound sound step.puts) within (progress-next sound step.puts within progress)

-- The end

-- where every node is contracted, no arc remains, and a passage is a crest
over-crest : {s : State} → IsOver s → {x z : ℕ} {c : Cost} {first last : ℕ} {up mid down : Cost} → Walk (Climbs s) x first up → Walk (Remains s) first last mid → Walk (Drops s) last z down → c ≡ up ⊕ (mid ⊕ down) → Crest s x z c
over-crest over {first = first} {up = up} {down = down} rise stay fall sum = record { top = first; up = up; down = down; rise = rise; fall = fall; sum = sum ∙ ap (λ (c : Cost). up ⊕ c) (zero_cost-sum down) }
over-crest over rise (go {x = y} arc more) fall sum = absurd (arc.from_alive.waits (over y arc.from_alive.in_range))

-- so a walk has become a crest, or there is a cheaper one
pub over-progress : {g : Graph} {s : State} → IsOver s → {x z : ℕ} {c : Cost} → Progress g s x z c → Crest s x z c ⊎ Cheaper (ArcOf g) x z c
over-progress over (cheaper less) = inr less
over-progress over (crests crest) = inl crest
over-progress over (passes p) = inl (over-crest over p.rise p.walk p.fall p.sum)
