-- Marks, one of which is written, and what they are compared with.
use Rattle.std.proofs.Common.{◌≡◌, ℕ, ◌+◌, ◌<◌, ◌≤◌, ◌⊎◌, List, length, set, replicate, ap, refl, sym, subst, ◌∙◌, inl, inr, arith}
use Rattle.std.proofs.lemmas.Bool.{cases_eq, cases_lt}
use Rattle.std.proofs.lemmas.List.{get_or-set_same, get_or-set_other, get_or-replicate, get_or_past, length-replicate}
use Rattle.std.proofs.lemmas.List.Elements.{All-from_get_or}
use Rattle.std.proofs.lemmas.List.Sums.{sum_by-set, sum_by-le}
use Rattle.ch_cost.specs.declared.cost.Cost.{Cost}
use Rattle.ch_cost.specs.Cost.{◌≼◌}
use Rattle.ch_cost.specs.Cost.Laws.{at_most_trans, at_most-from_below, below_trans_at_most, cases_cost}
use Rattle.ch_graph.specs.declared.mark.Mark.{Mark}
use Rattle.ch_graph.specs.declared.mark.Mark.TheVariants.{Unseen, Open, Settled}
use Rattle.ch_graph.specs.Marks.{mark, label_in, HasLabel, IsAtMost, Improves, IsPut, settled, settled_count}

module _ {L : Type 0} where
  -- The cases of a mark

  pub unseen-open : {e : L} → Unseen ≡ Open e → ⊥
  unseen-open is = cc

  pub unseen-settled : {e : L} → Unseen ≡ Settled e → ⊥
  unseen-settled is = cc

  pub open-settled : {d e : L} → Open d ≡ Settled e → ⊥
  open-settled is = cc

  pub open-open : {d e : L} → Open d ≡ Open e → d ≡ e
  open-open is = cc

  pub settled-settled : {d e : L} → Settled d ≡ Settled e → d ≡ e
  settled-settled is = cc

  -- Labels

  pub label_open : (m : Mark L) (e : L) → m ≡ Open e → HasLabel m e
  label_open m e is = ap label_in is

  pub label_settled : (m : Mark L) (e : L) → m ≡ Settled e → HasLabel m e
  label_settled m e is = ap label_in is

  pub label_cases : (m : Mark L) (e : L) → HasLabel m e → (m ≡ Open e) ⊎ (m ≡ Settled e)
  label_cases Unseen e is = absurd (cc)
  label_cases (Open d) e is = let same : d ≡ e = cc in inl (ap (λ (l : L). Open l) same)
  label_cases (Settled d) e is = let same : d ≡ e = cc in inr (ap (λ (l : L). Settled l) same)

  pub unseen-label : (m : Mark L) (e : L) → m ≡ Unseen → HasLabel m e → ⊥
  unseen-label m e is has = elim (label_cases m e has) [ inl opens ↦ unseen-open (sym is ∙ opens) | inr closed ↦ unseen-settled (sym is ∙ closed) ]

  pub one_label : (m : Mark L) (d e : L) → HasLabel m d → HasLabel m e → d ≡ e
  one_label m d e first second = cc

  -- One mark is written

  -- what is read then: the new mark, or another node's
  pub record IsWritten (v : ℕ) (m : Mark L) (new : ℕ → Mark L) (u : ℕ) : Type 0 where
    pub at : u ≡ v
    pub reads : new u ≡ m

  pub record IsKept (old : ℕ → Mark L) (v : ℕ) (new : ℕ → Mark L) (u : ℕ) : Type 0 where
    pub other : u ≡ v → ⊥
    pub reads : new u ≡ old u

  pub cases_put : {old : ℕ → Mark L} {v : ℕ} {m : Mark L} {new : ℕ → Mark L} → IsPut old v m new → (u : ℕ) → IsWritten v m new u ⊎ IsKept old v new u
  cases_put {v = v} {m = m} {new = new} put u = elim (cases_eq u v) [
    | inl e ↦ inl (record { at = e; reads = subst (λ w. new w ≡ m) (sym e) put.here })
    | inr d ↦ inr (record { other = d; reads = put.others u d })
  ]

  pub put-set : (marks : List (Mark L)) (v : ℕ) (m : Mark L) → v < length marks → IsPut (mark marks) v m (mark (set marks v m))
  put-set marks v m h = record {
    here = get_or-set_same marks v m Unseen h;
    others = λ u d. get_or-set_other marks v u m Unseen d;
  }

  -- Lists of marks

  pub mark-replicate : (n u : ℕ) → mark (replicate {A = Mark L} n Unseen) u ≡ Unseen
  mark-replicate n u =
      let none : Mark L = Unseen in
      elim (cases_lt u n) [
        | inl h ↦ get_or-replicate n u none none h
        | inr h ↦ get_or_past (replicate n none) u none (omega (arith, h, length-replicate n none))
      ]

  -- a node that has a label is in the list
  pub label-in : (marks : List (Mark L)) (v : ℕ) (e : L) → HasLabel (mark marks v) e → v < length marks
  label-in marks v e has = elim (cases_lt v (length marks)) [
    | inl h ↦ h
    | inr h ↦ absurd (unseen-label (mark marks v) e (get_or_past marks v Unseen h) has)
  ]

  pub open-in : (marks : List (Mark L)) (v : ℕ) (e : L) → mark marks v ≡ Open e → v < length marks
  open-in marks v e is = label-in marks v e (label_open (mark marks v) e is)

  -- How many nodes are settled

  pub count-open : (marks : List (Mark L)) (v : ℕ) (e : L) → v < length marks → settled (mark marks v) ≡ 0 → settled_count (set marks v (Open e)) ≡ settled_count marks
  count-open marks v e h none = omega (arith, sum_by-set settled marks v (Open e) Unseen h, none)

  pub count-settle : (marks : List (Mark L)) (v : ℕ) (d e : L) → mark marks v ≡ Open d → settled_count (set marks v (Settled e)) ≡ settled_count marks + 1
  count-settle marks v d e is = omega (arith, sum_by-set settled marks v (Settled e) Unseen (open-in marks v d is), ap settled is)

  settled-most : (m : Mark L) → settled m ≤ 1
  settled-most Unseen = omega arith
  settled-most (Open e) = omega arith
  settled-most (Settled e) = omega arith

  pub count-most : (marks : List (Mark L)) → settled_count marks ≤ length marks
  count-most marks = omega (arith, sum_by-le settled 1 marks (All-from_get_or (λ (m : Mark L). settled m ≤ 1) marks Unseen (λ k h. settled-most (mark marks k))))

module _ {L : Type 0} (cost : L → Cost) where
  pub at_most-label : (m : Mark L) (e : L) (c : Cost) → HasLabel m e → IsAtMost cost m c → cost e ≼ c
  at_most-label Unseen e c has most = absurd most
  at_most-label (Open d) e c has most = let same : d ≡ e = cc in subst (λ (l : L). cost l ≼ c) same most
  at_most-label (Settled d) e c has most = let same : d ≡ e = cc in subst (λ (l : L). cost l ≼ c) same most

  pub at_most-from_label : (m : Mark L) (e : L) (c : Cost) → HasLabel m e → cost e ≼ c → IsAtMost cost m c
  at_most-from_label Unseen e c has most = absurd (cc)
  at_most-from_label (Open d) e c has most = let same : d ≡ e = cc in subst (λ (l : L). cost l ≼ c) (sym same) most
  at_most-from_label (Settled d) e c has most = let same : d ≡ e = cc in subst (λ (l : L). cost l ≼ c) (sym same) most

  pub at_most-more : (m : Mark L) (c d : Cost) → IsAtMost cost m c → c ≼ d → IsAtMost cost m d
  at_most-more Unseen c d h k = absurd h
  at_most-more (Open e) c d h k = at_most_trans h k
  at_most-more (Settled e) c d h k = at_most_trans h k

  -- the cost that improves a mark is below all that the mark is at most
  pub improves-below : (m : Mark L) (c d : Cost) → Improves cost c m → IsAtMost cost m d → c ≼ d
  improves-below Unseen c d i h = absurd h
  improves-below (Open e) c d i h = at_most-from_below (below_trans_at_most i h)
  improves-below (Settled e) c d i h = absurd i

  -- a cost that doesn't improve a mark is at least the mark's, if it is at least that of each settled node
  pub not_improves-at_most : (m : Mark L) (c : Cost) → (Improves cost c m → ⊥) → ((e : L) → m ≡ Settled e → cost e ≼ c) → IsAtMost cost m c
  not_improves-at_most Unseen c i h = absurd (i tt)
  not_improves-at_most (Open e) c i h = elim (cases_cost c (cost e)) [ inl below ↦ absurd (i below) | inr most ↦ most ]
  not_improves-at_most (Settled e) c i h = h e refl

  pub improves-unsettled : (m : Mark L) (c : Cost) → Improves cost c m → settled m ≡ 0
  improves-unsettled Unseen c i = refl
  improves-unsettled (Open e) c i = refl
  improves-unsettled (Settled e) c i = absurd i

  -- what is settled can't be improved
  pub improves-not_settled : (m : Mark L) (c : Cost) (e : L) → Improves cost c m → m ≡ Settled e → ⊥
  improves-not_settled Unseen c e i is = unseen-settled is
  improves-not_settled (Open d) c e i is = open-settled is
  improves-not_settled (Settled d) c e i is = i
