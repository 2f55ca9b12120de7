-- What holds of every state that contractions reach: each arc costs what some walk of the graph costs.
use Rattle.std.proofs.Common.{ℕ, ◌≡◌, ◌≢◌, ◌<◌, List, get_or, Option, Some, None, AllPairs, Contains, arith, refl, sym, ◌∙◌, subst, inl, inr}
use Rattle.std.proofs.lemmas.Bool.{cases_eq}
use Rattle.std.proofs.lemmas.List.Elements.{Contains-push_cases, Contains-get_or}
use Rattle.std.proofs.lemmas.List.Quantifiers.{all_pairs_push}
use Rattle.ch_cost.specs.declared.cost.Cost.{Cost}
use Rattle.ch_cost.specs.Cost.{zero_cost, ◌⊕◌, ◌≺◌, IsWithin}
use Rattle.ch_cost.specs.Cost.Laws.{at_most_sum_left, below_trans_at_most}
use Rattle.ch_graph.specs.Walk.{Walk}
use Rattle.ch_graph.specs.Graph.{Graph, ArcOf}
use Rattle.ch_graph.specs.Limits.{IsGraph, bound_of}
use Rattle.ch_graph.specs.Walk.Laws.{one_arc, join, along_walks}
use Rattle.ch_graph.specs.Limits.Laws.{arc-sound, arc-within}
use Rattle.ch_laws.specs.declared.shortcut.Shortcut.{Shortcut}
use Rattle.ch_laws.specs.Contraction.{State, StateArc, Before, IsAlive, HasArc, Remains, IsStartArc, IsStart, Through, Avoids, Puts, Contraction, Run, Run.rest, Run.next, IsReached}
use Rattle.ch_laws.specs.Rows.{IsPlain}
use Rattle.ch_laws.proofs.ContractionOrder.{before_not_alive, before-push, before-last}
use Rattle.ch_laws.proofs.OneContraction.{IsPut, one_arc_there, has_arc-same, pair_cases, kept_unless_through, kept_from, kept_to}

-- The arc of a pair with a middle: two arcs meet there, it was contracted before both ends, and the costs add up.
pub record IsSplit (s : State) (x y m : ℕ) (c : Cost) : Type 0 where
  pub into : Cost
  pub out : Cost
  pub first : HasArc s x m into
  pub second : HasArc s m y out
  pub adds : c ≡ into ⊕ out
  pub before_from : Before s.order m x
  pub before_to : Before s.order m y

-- What an arc of a state is: a walk of the graph between different nodes, and where it has no middle an arc of it.
pub record IsSoundArc (g : Graph) (s : State) (x y : ℕ) (arc : StateArc) : Type 0 where
  pub walk : Walk (ArcOf g) x y arc.cost
  pub from_in : x < g.nodes
  pub to_in : y < g.nodes
  pub apart : x ≢ y
  pub above : zero_cost ≺ arc.cost
  pub within : IsWithin arc.cost (bound_of g)
  pub whole : arc.middle ≡ None → ArcOf g x y arc.cost
  pub split : (m : ℕ) → arc.middle ≡ Some m → IsSplit s x y m arc.cost

-- A state of the graph's nodes, each contracted once at most, all of whose arcs are sound.
pub record IsSound (g : Graph) (s : State) : Type 0 where
  pub nodes : s.nodes ≡ g.nodes
  pub in_range : (x : ℕ) → Contains s.order x → x < g.nodes
  pub once : AllPairs (λ x y. x ≢ y) s.order
  pub arcs : (x y : ℕ) (arc : StateArc) → s.arc x y ≡ Some arc → IsSoundArc g s x y arc

-- Uses of it

module _ {g : Graph} {s : State} (sound : IsSound g s) where
  -- an arc is a walk of the graph
  pub arc-walk : {x y : ℕ} {c : Cost} → HasArc s x y c → Walk (ArcOf g) x y c
  arc-walk {x} {y} has = subst (λ (c : Cost). Walk (ArcOf g) x y c) has.costs (sound.arcs x y has.arc has.here).walk

  -- it costs more than nothing
  pub arc-above : {x y : ℕ} {c : Cost} → HasArc s x y c → zero_cost ≺ c
  arc-above {x} {y} has = subst (λ (c : Cost). zero_cost ≺ c) has.costs (sound.arcs x y has.arc has.here).above

  -- its ends differ
  pub arc-apart : {x y : ℕ} {c : Cost} → HasArc s x y c → x ≢ y
  arc-apart {x} {y} has = (sound.arcs x y has.arc has.here).apart

  -- a walk of the remaining graph is one of the graph
  pub remaining-walk : {x z : ℕ} {c : Cost} → Walk (Remains s) x z c → Walk (ArcOf g) x z c
  remaining-walk w = along_walks (λ x y c arc. arc-walk arc.arc) w

  -- also where it avoids a node
  pub avoiding-walk : {v x z : ℕ} {c : Cost} → Walk (Avoids s v) x z c → Walk (ArcOf g) x z c
  avoiding-walk w = along_walks (λ x y c arc. arc-walk arc.remains.arc) w

-- The start

-- the least arc of a pair is sound
start-arc : {g : Graph} (s : State) → IsGraph g → (x y : ℕ) → x ≢ y → (arc : StateArc) → IsStartArc g x y (Some arc) → IsSoundArc g s x y arc
start-arc {g} s is x y apart arc least =
    let sound = arc-sound g is x y arc.cost least.0.0 in
    record {
      walk = one_arc least.0.0;
      from_in = sound.from_in;
      to_in = sound.to_in;
      apart = apart;
      above = sound.above;
      within = arc-within g is x y arc.cost apart least.0.0;
      whole = λ none. least.0.0;
      split = λ m some. let none : arc.middle ≡ None = least.1 in absurd (cc);
    }

-- so the start is
pub start-sound : {g : Graph} {s : State} → IsGraph g → IsStart g s → IsSound g s
start-sound {g} {s} is start = record {
  nodes = start.nodes;
  in_range = λ x among. absurd (omega (arith, (subst (λ (order : List ℕ). Contains order x) start.order among).1));
  once = subst (λ (order : List ℕ). AllPairs (λ x y. x ≢ y) order) (sym start.order) (λ i j d low high. absurd (omega (arith, high)));
  arcs = λ x y arc here. elim (cases_eq x y) [
    | inl same ↦
        let none : s.arc x y ≡ None = subst (λ n. s.arc x n ≡ None) same (start.loops x) in
        absurd (cc)
    | inr apart ↦ start-arc s is x y apart arc (subst (λ (o : Option StateArc). IsStartArc g x y o) here (start.arcs x y apart))
  ];
}

-- One contraction

module _ {g : Graph} {old new : State} {v : ℕ} {put : List Shortcut} (sound : IsSound g old) (puts : Puts (bound_of g) old v put new) where
  -- the arcs at the contracted node stay
  pub kept_out_of : (y : ℕ) → new.arc v y ≡ old.arc v y
  kept_out_of y = kept_unless_through puts v y (λ c through. arc-apart sound through.first.arc refl)

  -- the same of the arcs into it
  pub kept_into : (x : ℕ) → new.arc x v ≡ old.arc x v
  kept_into x = kept_unless_through puts x v (λ c through. arc-apart sound through.second.arc refl)

  -- what comes before something still does
  pub before-next : {x y : ℕ} → Before old.order x y → Before new.order x y
  before-next {x} {y} b = subst (λ (order : List ℕ). Before order x y) (sym puts.order) (before-push v b)

  -- the contracted node comes before the alive ones
  pub contracted-before : {y : ℕ} → IsAlive old y → y ≢ v → Before new.order v y
  contracted-before {y} alive apart = subst (λ (order : List ℕ). Before order v y) (sym puts.order) (before-last old.order v y alive.waits (λ same. apart (sym same)))

  -- an arc with a middle still is split there
  split-next : {x y m : ℕ} {c : Cost} → IsSplit old x y m c → IsSplit new x y m c
  split-next {x} {y} {m} h = record {
    into = h.into;
    out = h.out;
    first = has_arc-same (kept_to puts x m (before_not_alive h.before_from)) h.first;
    second = has_arc-same (kept_from puts m y (before_not_alive h.before_from)) h.second;
    adds = h.adds;
    before_from = before-next h.before_from;
    before_to = before-next h.before_to;
  }

  -- an arc that stays is still sound
  kept-arc : {x y : ℕ} {arc : StateArc} → IsSoundArc g old x y arc → IsSoundArc g new x y arc
  kept-arc h = record {
    walk = h.walk;
    from_in = h.from_in;
    to_in = h.to_in;
    apart = h.apart;
    above = h.above;
    within = h.within;
    whole = h.whole;
    split = λ m some. split-next (h.split m some);
  }

  -- a shortcut is split at the contracted node
  put-split : {x y : ℕ} {c : Cost} → Through old v x y c → IsSplit new x y v c
  put-split {x} {y} h = record {
    into = h.into;
    out = h.out;
    first = has_arc-same (kept_into x) h.first.arc;
    second = has_arc-same (kept_out_of y) h.second.arc;
    adds = h.adds;
    before_from = contracted-before h.first.from_alive (arc-apart sound h.first.arc);
    before_to = contracted-before h.second.to_alive (λ same. arc-apart sound h.second.arc (sym same));
  }

  -- so it is sound
  put-arc : {x y : ℕ} (is_put : IsPut (bound_of g) old v new x y) → IsSoundArc g new x y is_put.arc
  put-arc {x} {y} is_put =
      let through = is_put.through in
      let first = sound.arcs x v through.first.arc.arc through.first.arc.here in
      let second = sound.arcs v y through.second.arc.arc through.second.arc.here in
      record {
        walk = subst (λ (c : Cost). Walk (ArcOf g) x y c) (sym through.adds) (join (arc-walk sound through.first.arc) (arc-walk sound through.second.arc));
        from_in = first.from_in;
        to_in = second.to_in;
        apart = through.apart;
        above = subst (λ (c : Cost). zero_cost ≺ c) (sym through.adds) (below_trans_at_most (arc-above sound through.first.arc) (at_most_sum_left through.into through.out));
        within = is_put.within;
        whole = λ none. let some : is_put.arc.middle ≡ Some v = is_put.middle in absurd (cc);
        split = λ m some.
            let is_v : is_put.arc.middle ≡ Some v = is_put.middle in
            let same : v ≡ m = cc in
            subst (λ n. IsSplit new x y n is_put.arc.cost) same (put-split through);
      }

  -- a lawful contraction keeps a state sound
  pub puts-sound : IsSound g new
  puts-sound = record {
    nodes = puts.nodes ∙ sound.nodes;
    in_range = λ x among. elim (Contains-push_cases old.order v x (subst (λ (order : List ℕ). Contains order x) puts.order among)) [
      | inl before ↦ sound.in_range x before
      | inr is_v ↦ omega (arith, is_v, puts.plan.alive.in_range, sound.nodes)
    ];
    once = subst (λ (order : List ℕ). AllPairs (λ x y. x ≢ y) order) (sym puts.order)
        (all_pairs_push (λ x y. x ≢ y) old.order v sound.once (λ k d low same. puts.plan.alive.waits (subst (λ n. Contains old.order n) same (Contains-get_or old.order k d low))));
    arcs = λ x y arc here. elim (pair_cases puts x y) [
      | inl is_put ↦ subst (λ (a : StateArc). IsSoundArc g new x y a) (one_arc_there is_put.arc arc is_put.here here) (put-arc is_put)
      | inr none ↦ kept-arc (sound.arcs x y arc (sym (puts.others x y none) ∙ here))
    ];
  }

-- and so do many
pub run-sound : {g : Graph} {log : List Contraction} {old new : State} → Run (bound_of g) old log new → IsSound g old → IsSound g new
run-sound rest sound = sound
run-sound (next step run) sound = run-sound run (puts-sound sound step.puts)

-- every state that is reached is sound
pub reached-sound : {g : Graph} {log : List Contraction} {s : State} → IsGraph g → IsReached g log s → IsSound g s
reached-sound {g} is reached = run-sound reached.run (start-sound is reached.starts)

-- and a sound state is plain
pub sound-plain : {g : Graph} {s : State} → IsSound g s → IsPlain (bound_of g) s
sound-plain {g} {s} sound = record {
  in_range = λ k d low. omega (arith, sound.in_range (get_or s.order k d) (Contains-get_or s.order k d low), sound.nodes);
  arcs = λ x y arc here.
      let is = sound.arcs x y arc here in
      record { from_in = omega (arith, is.from_in, sound.nodes); to_in = omega (arith, is.to_in, sound.nodes); apart = is.apart; above = is.above; within = is.within };
}
