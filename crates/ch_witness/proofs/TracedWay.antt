-- The way to a node, as it is traced back from its end.
use Rattle.std.proofs.Common.{ℕ, Bool, false, ◌≡◌, ◌≢◌, ◌+◌, ◌<◌, ◌≤◌, true, List, [], ◌∷◌, ◌++◌, length, reverse, Option, Some, None, zero, suc, refl, ap, sym, subst, ◌∙◌, arith, nat_eq, cond}
use Rattle.std.specs.List.{slice_get}
use Rattle.std.proofs.lemmas.List.{reverse-append}
use Rattle.std.proofs.lemmas.Bool.Decides.{nat_tests}
use Rattle.ch_laws.specs.Rows.{Row}
use Rattle.ch_cost.specs.declared.cost.Cost.{Cost}
use Rattle.ch_cost.specs.Cost.{zero_cost, ◌⊕◌}
use Rattle.ch_cost.specs.Cost.Laws.{sum_assoc, sum-zero_cost, zero_cost-sum}
use Rattle.ch_graph.specs.Walk.{Along}
use Rattle.ch_graph.specs.Walk.Walk.{stay, go}
use Rattle.ch_laws.specs.Verdicts.{SeenArc}
use Rattle.ch_overlay.specs.Source.{row_of}
use Rattle.ch_witness.specs.declared.rule.Rule.{Rule}
use Rattle.ch_witness.specs.declared.step.TreeNode.{TreeNode}
use Rattle.ch_witness.specs.Tree.{node_of, step_row, seen_of, LeadsTo, IsReachedBy, IsTreeStep, AreSteps}
use Rattle.ch_witness.proofs.SomeValues.{some-same}

-- how many steps a way may still go back over
abbrev pub places_to : Option ℕ → ℕ
places_to None = 0
places_to (Some k) = k + 1

-- The nodes of the end of a way, backward: the rest of it is what leads to the last of them, after the step before.
pub record IsTraced (r : Rule) (steps : List TreeNode) (target : ℕ) (c : Cost) (backward : List ℕ) (before : Option ℕ) : Type 0 where
  pub node : ℕ
  pub known : Cost
  pub rest : Cost
  pub way : Along (SeenArc (row_of (seen_of steps)) r.avoid) (reverse backward) node target rest
  pub reached : IsReachedBy r.from steps (length steps) before node known
  pub apart : node ≢ r.avoid
  pub sum : known ⊕ rest ≡ c

-- Rows of the steps

true-case : {b : Bool} (x y : Option Row) → b ≡ true → cond b x y ≡ x
true-case x y e = subst (λ (t : Bool). cond t x y ≡ x) (sym e) refl

false-case : {b : Bool} (x y : Option Row) → b ≡ false → cond b x y ≡ y
false-case x y e = subst (λ (t : Bool). cond t x y ≡ y) (sym e) refl

equal : (x y : ℕ) → x ≡ y → nat_eq x y ≡ true
equal x y e = grind (arith, nat_tests, e)

unlike : (x y : ℕ) → x ≢ y → nat_eq x y ≡ false
unlike x y apart = grind (arith, nat_tests, apart)

-- the first step of a node has its row
row_at_place : (steps : List TreeNode) (k : ℕ) (s : TreeNode) → slice_get steps k ≡ Some s → ((j : ℕ) (t : TreeNode) → j < k → slice_get steps j ≡ Some t → node_of t ≢ node_of s) → row_of (seen_of steps) (node_of s) ≡ Some (step_row s)
row_at_place [] k s is first = absurd (cc)
row_at_place (t ∷ ts) zero s is first =
    subst (λ (u : TreeNode). row_of (u.seen.value ∷ seen_of ts) (node_of s) ≡ Some (step_row s)) (sym (some-same t s is)) (true-case (Some (step_row s)) (row_of (seen_of ts) (node_of s)) (equal (node_of s) (node_of s) refl))
row_at_place (t ∷ ts) (suc k) s is first =
    false-case (Some (step_row t)) (row_of (seen_of ts) (node_of s)) (unlike (node_of t) (node_of s) (first 0 t (omega arith) refl))
    ∙ row_at_place ts k s is (λ j u h at. first (suc j) u (omega (arith, h)) at)

pub row_of_step : (r : Rule) (steps : List TreeNode) → AreSteps r steps → (k : ℕ) (s : TreeNode) → slice_get steps k ≡ Some s → row_of (seen_of steps) (node_of s) ≡ Some (step_row s)
row_of_step r steps are k s is = row_at_place steps k s is (λ j t h at e. omega (arith, h, are.once j k t s at is e))

-- Tracing

-- what is reached within fewer steps is within more
pub reached_more : (from : ℕ) (steps : List TreeNode) (m n : ℕ) (before : Option ℕ) (v : ℕ) (c : Cost) → m ≤ n → IsReachedBy from steps m before v c → IsReachedBy from steps n before v c
reached_more from steps m n None v c h k = k
reached_more from steps m n (Some j) v c h k = (omega (arith, h, k.0), k.1)

pub traced_start : (r : Rule) (steps : List TreeNode) (target : ℕ) (c : Cost) (before : Option ℕ) → IsReachedBy r.from steps (length steps) before target c → target ≢ r.avoid → IsTraced r steps target c (target ∷ []) before
traced_start r steps target c before reached apart = record {
  node = target;
  known = c;
  rest = zero_cost;
  way = (stay, refl);
  reached = reached;
  apart = apart;
  sum = sum-zero_cost c;
}

-- the step before is one of those that were made
pub traced_place : {r : Rule} (steps : List TreeNode) (target : ℕ) (c : Cost) (backward : List ℕ) (k : ℕ) → IsTraced r steps target c backward (Some k) → k < length steps
traced_place steps target c backward k h = h.reached.0

-- the step before that one comes earlier
pub traced_earlier : {r : Rule} (steps : List TreeNode) → AreSteps r steps → (k : ℕ) (s : TreeNode) → slice_get steps k ≡ Some s → places_to s.before < k + 1
traced_earlier {r} steps are k s is = earlier s.before (are.each k s is).reached where
  earlier : (before : Option ℕ) → IsReachedBy r.from steps k before (node_of s) s.cost → places_to before < k + 1
  earlier None h = omega arith
  earlier (Some j) h = omega (arith, h.0)

-- the way goes back over a step
pub traced_more : {r : Rule} (steps : List TreeNode) → AreSteps r steps → (target : ℕ) (c : Cost) (backward : List ℕ) (k : ℕ) (s : TreeNode) → slice_get steps k ≡ Some s → IsTraced r steps target c backward (Some k) → IsTraced r steps target c (backward ++ node_of s ∷ []) s.before
traced_more {r} steps are target c backward k s is h = record {
  node = node_of s;
  known = s.cost;
  rest = leads.arc ⊕ h.rest;
  way = (go arc h.way.0, reverse-append backward (node_of s ∷ []) ∙ ap (λ (xs : List ℕ). node_of s ∷ xs) h.way.1);
  reached = reached_more r.from steps k (length steps) s.before (node_of s) s.cost (omega (arith, h.reached.0)) step.reached;
  apart = step.apart;
  sum = sym (sum_assoc s.cost leads.arc h.rest) ∙ ap (λ (x : Cost). x ⊕ h.rest) (sym leads.sum) ∙ h.sum;
} where
  step : IsTreeStep r steps k s
  step = are.each k s is

  leads : LeadsTo s h.node h.known
  leads = subst (λ (t : TreeNode). LeadsTo t h.node h.known) (some-same h.reached.1.0 s (sym h.reached.1.1 ∙ is)) h.reached.1.2

  arc : SeenArc (row_of (seen_of steps)) r.avoid (node_of s) h.node leads.arc
  arc = record {
    row = step_row s;
    read = row_of_step r steps are k s is;
    unranked = step.unranked;
    listed = leads.listed;
    from_other = step.apart;
    to_other = h.apart;
  }

-- the way is whole
pub traced_whole : {r : Rule} (steps : List TreeNode) (target : ℕ) (c : Cost) (backward : List ℕ) → IsTraced r steps target c backward None → Along (SeenArc (row_of (seen_of steps)) r.avoid) (reverse backward) r.from target c
traced_whole {r} steps target c backward h =
    subst (λ (d : Cost). Along (SeenArc (row_of (seen_of steps)) r.avoid) (reverse backward) r.from target d)
    (sym (zero_cost-sum h.rest) ∙ ap (λ (x : Cost). x ⊕ h.rest) (sym h.reached.1) ∙ h.sum)
    (subst (λ (x : ℕ). Along (SeenArc (row_of (seen_of steps)) r.avoid) (reverse backward) x target h.rest) h.reached.0 h.way)
