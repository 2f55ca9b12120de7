-- The tree of a search, as it grows.
use Rattle.std.proofs.Common.{ℕ, ◌≡◌, ◌≢◌, ◌+◌, ◌⊎◌, false, true, List, [], ◌∷◌, ◌++◌, length, Option, Some, None, zero, suc, refl, ap, sym, subst, ◌∙◌, arith, inl, inr}
use Rattle.std.specs.List.{slice_get}
use Rattle.std.proofs.lemmas.List.{length-append}
use Rattle.std.proofs.lemmas.Bool.{cases_eq}
use Rattle.ch_cost.specs.declared.cost.Cost.{Cost}
use Rattle.ch_cost.specs.Cost.{zero_cost, ◌⊕◌, ◌≼◌, IsOfWalks}
use Rattle.ch_cost.specs.Cost.Laws.{zero_cost-sum, zero_cost_at_most, of_walks_zero_cost, of_walks_more, of_walks_sum}
use Rattle.ch_laws.specs.declared.entry.Entry.{Entry}
use Rattle.ch_laws.specs.Rows.{Row, Lists}
use Rattle.ch_overlay.specs.declared.source.Seen.{Seen}
use Rattle.ch_overlay.specs.Source.{row_in, NamesAlone}
use Rattle.ch_witness.specs.declared.frontier.Reached.{Reached}
use Rattle.ch_witness.specs.declared.label.Label.{Label}
use Rattle.ch_witness.specs.declared.rule.Rule.{Rule}
use Rattle.ch_witness.specs.declared.step.TreeNode.{TreeNode}
use Rattle.ch_witness.specs.Frontier.{IsStartAlone, IsSettledNow, IsOpened, AreFollowed}
use Rattle.ch_witness.specs.Tree.{Labels, node_of, step_row, IsReachedBy, IsTreeStep, IsLabel, IsSettled, IsAtMost, IsTree, IsNew, IsGoneOn, IsLater, AllAre, AllSeen, IsStartSeen}
use Rattle.ch_witness.proofs.SomeValues.{some-same}
use Rattle.ch_witness.proofs.TracedWay.{reached_more}

-- One more step

pub old_step : (xs : List TreeNode) (y : TreeNode) (k : ℕ) (s : TreeNode) → slice_get xs k ≡ Some s → slice_get (xs ++ y ∷ []) k ≡ Some s
old_step [] y k s is = absurd (cc)
old_step (x ∷ xs) y zero s is = is
old_step (x ∷ xs) y (suc k) s is = old_step xs y k s is

pub last_step : (xs : List TreeNode) (y : TreeNode) → slice_get (xs ++ y ∷ []) (length xs) ≡ Some y
last_step [] y = refl
last_step (x ∷ xs) y = last_step xs y

pub step_cases : (xs : List TreeNode) (y : TreeNode) (k : ℕ) (s : TreeNode) → slice_get (xs ++ y ∷ []) k ≡ Some s → (slice_get xs k ≡ Some s) ⊎ ((k ≡ length xs) × (y ≡ s))
step_cases [] y zero s is = inr (refl, some-same y s is)
step_cases [] y (suc k) s is = absurd (cc)
step_cases (x ∷ xs) y zero s is = inl is
step_cases (x ∷ xs) y (suc k) s is = elim (step_cases xs y k s is) [
  | inl h ↦ inl h
  | inr h ↦ inr (ap suc h.0, h.1)
]

more_steps : (xs : List TreeNode) (y : TreeNode) → length (xs ++ y ∷ []) ≡ length xs + 1
more_steps xs y = length-append xs (y ∷ [])

-- what is reached stays so
reached_still : (from : ℕ) (xs : List TreeNode) (y : TreeNode) (n : ℕ) (before : Option ℕ) (v : ℕ) (c : Cost) → IsReachedBy from xs n before v c → IsReachedBy from (xs ++ y ∷ []) n before v c
reached_still from xs y n None v c h = h
reached_still from xs y n (Some k) v c h = (h.0, (h.1.0, old_step xs y k h.1.0 h.1.1, h.1.2))

-- The start

nothing : (k : ℕ) (s : TreeNode) → slice_get {X = TreeNode} [] k ≡ Some s → ⊥
nothing k s is = absurd (cc)

pub tree_start : (r : Rule) {labels : Labels} → IsStartAlone r.from labels → r.from ≢ r.avoid → IsTree r [] labels
tree_start r {labels} start apart = record {
  grown = record { each = λ k s is. absurd (nothing k s is); once = λ j k a b at_j at_k e. absurd (nothing j a at_j) };
  reached = reached;
  settled = λ k s is. absurd (nothing k s is);
} where
  none-some : (v : ℕ) (l : Label) → labels v ≡ Some l → labels v ≡ None → ⊥
  none-some v l a b = cc

  reached : (v : ℕ) (l : Label) → labels v ≡ Some l → IsLabel r [] v l
  reached v l is = elim (cases_eq v r.from) [
    | inl at ↦
        let it : record { cost = zero_cost; before = None; settled = true } ≡ l = some-same _ l (sym start.here ∙ subst (λ (w : ℕ). labels w ≡ Some l) at is) in
        subst (λ (k : Label). IsLabel r [] v k) it (record {
          reached = (at, refl);
          apart = subst (λ (w : ℕ). w ≢ r.avoid) (sym at) apart;
          at_most = zero_cost_at_most r.cutoff;
          fits = of_walks_zero_cost 0;
        })
    | inr other ↦ absurd (none-some v l is (start.others v other))
  ]

-- A node is settled

pub tree_settled : {r : Rule} (steps : List TreeNode) (labels new : Labels) (at : Reached) → IsSettledNow labels at new → IsTree r steps labels → IsTree r steps new
tree_settled {r} steps labels new at now tree = record {
  grown = tree.grown;
  reached = reached;
  settled = λ k s is. settled s (tree.settled k s is);
} where
  same : (l : Label) → new at.node ≡ Some l → record { cost = at.cost; before = at.before; settled = true } ≡ l
  same l is = some-same _ l (sym now.here ∙ is)

  reached : (v : ℕ) (l : Label) → new v ≡ Some l → IsLabel r steps v l
  reached v l is = elim (cases_eq v at.node) [
    | inl e ↦
        let was = tree.reached at.node _ now.was in
        subst (λ (k : Label). IsLabel r steps v k) (same l (subst (λ (w : ℕ). new w ≡ Some l) e is))
        (subst (λ (w : ℕ). IsLabel r steps w (record { cost = at.cost; before = at.before; settled = true })) (sym e)
        (record { reached = was.reached; apart = was.apart; at_most = was.at_most; fits = was.fits }))
    | inr other ↦ tree.reached v l (sym (now.others v other) ∙ is)
  ]

  settled : (s : TreeNode) → IsSettled (labels (node_of s)) → IsSettled (new (node_of s))
  settled s h = elim (cases_eq (node_of s) at.node) [
    | inl e ↦ subst (λ (w : ℕ). IsSettled (new w)) (sym e) (subst IsSettled (sym now.here) refl)
    | inr other ↦ subst IsSettled (sym (now.others (node_of s) other)) h
  ]

-- it isn't that of a step
pub settled_new : {r : Rule} (steps : List TreeNode) (labels new : Labels) (at : Reached) → IsSettledNow labels at new → IsTree r steps labels → IsNew at.node steps
settled_new steps labels new at now tree k s is e =
    false-true (subst IsSettled now.was (subst (λ (w : ℕ). IsSettled (labels w)) e (tree.settled k s is))) where
      false-true : false ≡ true → ⊥
      false-true h = absurd (cc)

-- labels get no worse
pub settled_kept : {labels new : Labels} {at : Reached} → IsSettledNow labels at new → (v : ℕ) (d : Cost) → IsAtMost (labels v) d → IsAtMost (new v) d
settled_kept {labels} {new} {at} now v d h = elim (cases_eq v at.node) [
  | inl e ↦ subst (λ (w : ℕ). IsAtMost (new w) d) (sym e) (subst (λ (o : Option Label). IsAtMost o d) (sym now.here) (here (subst (λ (w : ℕ). IsAtMost (labels w) d) e h)))
  | inr other ↦ subst (λ (o : Option Label). IsAtMost o d) (sym (now.others v other)) h
] where
  here : IsAtMost (labels at.node) d → at.cost ≼ d
  here k = subst (λ (o : Option Label). IsAtMost o d) now.was k

-- A node becomes a step

pub tree_grown : {r : Rule} (steps : List TreeNode) (labels new : Labels) (s : TreeNode) → IsTree r steps labels
    → labels (node_of s) ≡ Some (record { cost = s.cost; before = s.before; settled = true }) → IsNew (node_of s) steps → (step_row s).rank ≡ None
    → ((v : ℕ) (d : Cost) → Lists (step_row s).out v d → IsOfWalks 1 d) → AreFollowed r (step_row s).out s.cost (Some (length steps)) labels new
    → IsTree r (steps ++ s ∷ []) new
tree_grown {r} steps labels new s tree label fresh unranked light followed = record {
  grown = record { each = each; once = once };
  reached = reached;
  settled = settled;
} where
  known : IsLabel r steps (node_of s) (record { cost = s.cost; before = s.before; settled = true })
  known = tree.reached (node_of s) _ label

  each : (k : ℕ) (t : TreeNode) → slice_get (steps ++ s ∷ []) k ≡ Some t → IsTreeStep r (steps ++ s ∷ []) k t
  each k t is = elim (step_cases steps s k t is) [
    | inl h ↦
        let was = tree.grown.each k t h in
        record { reached = reached_still r.from steps s k t.before (node_of t) t.cost was.reached; apart = was.apart; unranked = was.unranked }
    | inr h ↦ subst (λ (u : TreeNode). IsTreeStep r (steps ++ s ∷ []) k u) h.1 (subst (λ (j : ℕ). IsTreeStep r (steps ++ s ∷ []) j s) (sym h.0) (record { reached = reached_still r.from steps s (length steps) s.before (node_of s) s.cost known.reached; apart = known.apart; unranked = unranked }))
  ]

  differs : (k : ℕ) (a b : TreeNode) → slice_get steps k ≡ Some a → s ≡ b → node_of a ≡ node_of b → ⊥
  differs k a b is same e = fresh k a is (e ∙ ap node_of (sym same))

  once : (j k : ℕ) (a b : TreeNode) → slice_get (steps ++ s ∷ []) j ≡ Some a → slice_get (steps ++ s ∷ []) k ≡ Some b → node_of a ≡ node_of b → j ≡ k
  once j k a b at_j at_k e = elim (step_cases steps s j a at_j) [
    | inl h ↦ elim (step_cases steps s k b at_k) [
      | inl i ↦ tree.grown.once j k a b h i e
      | inr i ↦ absurd (differs j a b h i.1 e)
    ]
    | inr h ↦ elim (step_cases steps s k b at_k) [
      | inl i ↦ absurd (differs k b a i h.1 (sym e))
      | inr i ↦ h.0 ∙ sym i.0
    ]
  ]

  still : (v : ℕ) (l : Label) → IsLabel r steps v l → IsLabel r (steps ++ s ∷ []) v l
  still v l was = record {
    reached = reached_more r.from (steps ++ s ∷ []) (length steps) (length (steps ++ s ∷ [])) l.before v l.cost (omega (arith, more_steps steps s)) (reached_still r.from steps s (length steps) l.before v l.cost was.reached);
    apart = was.apart;
    at_most = was.at_most;
    fits = of_walks_more (omega (arith, more_steps steps s)) was.fits;
  }

  opened : (v : ℕ) (l : Label) → IsOpened r (step_row s).out s.cost (Some (length steps)) v l → IsLabel r (steps ++ s ∷ []) v l
  opened v l o = record {
    reached = subst (λ (b : Option ℕ). IsReachedBy r.from (steps ++ s ∷ []) (length (steps ++ s ∷ [])) b v l.cost) (sym o.before) (omega (arith, more_steps steps s), (s, last_step steps s, record { arc = o.arc; listed = o.listed; sum = o.sum }));
    apart = o.apart;
    at_most = o.at_most;
    fits = subst (λ (n : ℕ). IsOfWalks n l.cost) (sym (more_steps steps s)) (subst (λ (c : Cost). IsOfWalks (length steps + 1) c) (sym o.sum) (of_walks_sum known.fits (light v o.arc o.listed)));
  }

  reached : (v : ℕ) (l : Label) → new v ≡ Some l → IsLabel r (steps ++ s ∷ []) v l
  reached v l is = elim (followed.opened v l is) [
    | inl was ↦ still v l (tree.reached v l was)
    | inr o ↦ opened v l o
  ]

  keeps : (v : ℕ) → IsSettled (labels v) → IsSettled (new v)
  keeps v h = subst IsSettled (sym (followed.settled v h)) h

  settled : (k : ℕ) (t : TreeNode) → slice_get (steps ++ s ∷ []) k ≡ Some t → IsSettled (new (node_of t))
  settled k t is = elim (step_cases steps s k t is) [
    | inl h ↦ keeps (node_of t) (tree.settled k t h)
    | inr h ↦ subst (λ (u : TreeNode). IsSettled (new (node_of u))) h.1 (keeps (node_of s) (subst IsSettled (sym label) refl))
  ]

pub step_later : (steps : List TreeNode) (s : TreeNode) (labels new : Labels) → ((v : ℕ) (d : Cost) → IsAtMost (labels v) d → IsAtMost (new v) d) → IsLater steps (steps ++ s ∷ []) labels new
step_later steps s labels new kept = record { steps = λ k t is. old_step steps s k t is; kept = kept }

-- Nodes of one kind

pub names_kept : {r : Rule} (IsKind IsKindNow : ℕ → Type 0) → ((v : ℕ) → IsKind v → IsKindNow v) → {row : Row} {c : Cost} {step : Option ℕ} {labels new : Labels} → NamesAlone IsKindNow row → AllAre IsKind labels → AreFollowed r row.out c step labels new → AllAre IsKindNow new
names_kept IsKind IsKindNow still names all followed v l is = elim (followed.opened v l is) [
  | inl was ↦ still v (all v l was)
  | inr o ↦ subst IsKindNow (ap (λ (e : Entry). e.other) o.listed.among.2 ∙ o.listed.other) (names.out o.listed.among.0 o.listed.entry o.listed.among.1)
]

pub all_settled : (IsKind : ℕ → Type 0) {labels new : Labels} {at : Reached} → IsSettledNow labels at new → AllAre IsKind labels → AllAre IsKind new
all_settled IsKind {at} now all v l is = elim (cases_eq v at.node) [
  | inl e ↦ subst IsKind (sym e) (all at.node _ now.was)
  | inr other ↦ all v l (sym (now.others v other) ∙ is)
]

-- Where nothing changes

pub tree_same : {r : Rule} (steps : List TreeNode) (labels new : Labels) → ((v : ℕ) → new v ≡ labels v) → IsTree r steps labels → IsTree r steps new
tree_same steps labels new same tree = record {
  grown = tree.grown;
  reached = λ v l is. tree.reached v l (sym (same v) ∙ is);
  settled = λ k s is. subst IsSettled (sym (same (node_of s))) (tree.settled k s is);
}

-- Later and later

pub later_start : (steps : List TreeNode) (labels : Labels) → IsLater steps steps labels labels
later_start steps labels = record { steps = λ k s is. is; kept = λ v d h. h }

pub later_more : {a b c : List TreeNode} {k l m : Labels} → IsLater a b k l → IsLater b c l m → IsLater a c k m
later_more h i = record {
  steps = λ j s is. i.steps j s (h.steps j s is);
  kept = λ v d at_most. i.kept v d (h.kept v d at_most);
}

pub later_settled : (steps : List TreeNode) (labels new : Labels) (at : Reached) → IsSettledNow labels at new → IsLater steps steps labels new
later_settled steps labels new at now = record { steps = λ k s is. is; kept = settled_kept now }

pub later_same : (steps : List TreeNode) (labels new : Labels) → ((v : ℕ) → new v ≡ labels v) → IsLater steps steps labels new
later_same steps labels new same = record { steps = λ k s is. is; kept = λ v d h. subst (λ (o : Option Label). IsAtMost o d) (sym (same v)) h }

-- each row that was seen is of the kind, the new one too
pub seen_gone : (IsKind : Seen → Type 0) {r : Rule} {at : Reached} {seen : Seen} {old new : List TreeNode} {known labels : Labels} → IsKind seen → AllSeen IsKind old → IsGoneOn r at seen old new known labels → AllSeen IsKind new
seen_gone IsKind {old} this all gone k s is = elim gone.steps [
  | inl more ↦ elim (step_cases old more.1.0 k s (subst (λ (ss : List TreeNode). slice_get ss k ≡ Some s) more.1.2 is)) [
    | inl h ↦ all k s h
    | inr h ↦ subst (λ (t : TreeNode). IsKind t.seen.value) h.1 (subst IsKind (sym more.1.1.seen_is) this)
  ]
  | inr same ↦ all k s (subst (λ (ss : List TreeNode). slice_get ss k ≡ Some s) same.1 is)
]

-- The start's row is the first that is read, so what it shows is offered, and stays so.
pub start_seen : {r : Rule} {z : Cost} → z ≡ zero_cost → {seen : Seen} {mid : List TreeNode} (steps : List TreeNode) (labels between new : Labels)
    → IsStartAlone r.from labels → IsLater [] mid labels between → IsGoneOn r
    (record { node = r.from; cost = z; before = None }) seen [] mid labels between → IsLater mid steps between new → IsStartSeen r seen steps new
start_seen {r} {z} zero_is {seen} steps labels between new start begun gone later = record { node = gone.node; step = step; direct = direct } where
  step : (row_in seen).rank ≡ None → (k : ℕ) × ((s : TreeNode) × (slice_get steps k ≡ Some s) × (s.seen.value ≡ seen))
  step unranked = elim gone.steps [
    | inl more ↦ (0, (more.1.0, later.steps 0 more.1.0 (subst (λ (ss : List TreeNode). slice_get ss 0 ≡ Some more.1.0) (sym more.1.2) refl), more.1.1.seen_is))
    | inr ranked ↦ absurd (ranked.0 unranked)
  ]

  sum : (d : Cost) → z ⊕ d ≡ d
  sum d = ap (λ (x : Cost). x ⊕ d) zero_is ∙ zero_cost-sum d

  unknown : (v : ℕ) → v ≢ r.from → IsSettled (labels v) → ⊥
  unknown v other h = subst IsSettled (start.others v other) h

  itself : (d : Cost) → IsAtMost (labels r.from) d
  itself d = subst (λ (o : Option Label). IsAtMost o d) (sym start.here) (zero_cost_at_most d)

  direct : (row_in seen).rank ≡ None → (v : ℕ) (d : Cost) → Lists (row_in seen).out v d → v ≢ r.avoid → d ≼ r.cutoff → IsAtMost (new v) d
  direct unranked v d listed apart at_most = elim (cases_eq v r.from) [
    | inl here ↦ later.kept v d (begun.kept v d (subst (λ (w : ℕ). IsAtMost (labels w) d) (sym here) (itself d)))
    | inr other ↦ elim (gone.told unranked v d listed apart (subst (λ (x : Cost). x ≼ r.cutoff) (sym (sum d)) at_most)) [
      | inl settled ↦ absurd (unknown v other settled)
      | inr m ↦ later.kept v d (subst (λ (x : Cost). IsAtMost (between v) x) (sum d) m)
    ]
  ]

pub seen_none : (IsKind : Seen → Type 0) (steps : List TreeNode) → steps ≡ [] → AllSeen IsKind steps
seen_none IsKind steps none k s is = absurd (nothing k s (subst (λ (ss : List TreeNode). slice_get ss k ≡ Some s) none is))

-- only the start is known
pub all_start : (IsKind : ℕ → Type 0) {from : ℕ} {labels : Labels} → IsStartAlone from labels → IsKind from → AllAre IsKind labels
all_start IsKind {from} {labels} start kind v l is = elim (cases_eq v from) [
  | inl at ↦ subst IsKind (sym at) kind
  | inr other ↦ absurd (none-some (labels v) l is (start.others v other))
] where
  none-some : (o : Option Label) (k : Label) → o ≡ Some k → o ≡ None → ⊥
  none-some o k a b = cc
