-- The arcs out of a step, as they are followed one after the other.
use Rattle.std.proofs.Common.{ℕ, ◌≡◌, ◌≢◌, ◌+◌, ◌<◌, ◌≤◌, ◌⊎◌, false, true, List, length, Option, Some, None, refl, ap, sym, subst, ◌∙◌, arith, inl, inr, slice_index_or}
use Rattle.std.proofs.lemmas.Bool.{cases_eq, cases_lt, true≢false}
use Rattle.std.proofs.lemmas.List.{get_or_read}
use Rattle.ch_cost.specs.declared.cost.Cost.{Cost}
use Rattle.ch_cost.specs.Cost.{◌⊕◌, ◌≼◌}
use Rattle.ch_cost.specs.Cost.Laws.{at_most_refl, at_most_trans}
use Rattle.ch_laws.specs.declared.entry.Entry.{Entry}
use Rattle.ch_witness.specs.declared.label.Label.{Label}
use Rattle.ch_witness.specs.declared.rule.Rule.{Rule}
use Rattle.ch_witness.specs.Tree.{Labels, IsSettled, IsAtMost}
use Rattle.ch_witness.specs.Frontier.{IsOffered, IsFollowed, IsOpened}
use Rattle.ch_witness.proofs.SomeValues.{some-same}

-- the first arcs were offered
pub record AreFollowedSoFar (r : Rule) (entries : List Entry) (c : Cost) (step : Option ℕ) (n : ℕ) (old new : Labels) : Type 0 where
  pub opened : (v : ℕ) (l : Label) → new v ≡ Some l → (old v ≡ Some l) ⊎ IsOpened r entries c step v l
  pub settled : (v : ℕ) → IsSettled (old v) → new v ≡ old v
  pub kept : (v : ℕ) (d : Cost) → IsAtMost (old v) d → IsAtMost (new v) d
  pub told : (k : ℕ) (e : Entry) → k < n → slice_index_or entries k e ≡ e → e.other ≢ r.avoid → c ⊕ e.cost ≼ r.cutoff → IsSettled (old e.other) ⊎ IsAtMost (new e.other) (c ⊕ e.cost)

-- an entry read at its place is one and the same
same_entry : (entries : List Entry) (k n : ℕ) {e f : Entry} → n < length entries → slice_index_or entries n e ≡ e → slice_index_or entries k f ≡ f → k ≡ n → f ≡ e
same_entry entries k n {e} {f} within here is at = get_or_read entries n f within (sym (subst (λ (j : ℕ). slice_index_or entries j f ≡ f) at is)) e ∙ here

-- an arc that isn't to be followed
pub followed_past : {r : Rule} {entries : List Entry} {c : Cost} {step : Option ℕ} {n : ℕ} {old new : Labels} {e : Entry} → n < length entries
    → slice_index_or entries n e ≡ e → (e.other ≢ r.avoid → c ⊕ e.cost ≼ r.cutoff → ⊥) → AreFollowedSoFar r entries c step n old new
    → AreFollowedSoFar r entries c step (n + 1) old new
followed_past {r} {entries} {c} {n} {e} within here out h = record {
  opened = h.opened;
  settled = h.settled;
  kept = h.kept;
  told = λ k f below is apart most. elim (cases_lt k n) [
    | inl less ↦ h.told k f less is apart most
    | inr least ↦ absurd (not_this k f below is apart most least)
  ];
} where
  not_this : (k : ℕ) (f : Entry) → k < n + 1 → slice_index_or entries k f ≡ f → f.other ≢ r.avoid → c ⊕ f.cost ≼ r.cutoff → n ≤ k → ⊥
  not_this k f below is apart most least =
      let at : k ≡ n = omega (arith, below, least) in
      subst (λ (g : Entry). g.other ≢ r.avoid → c ⊕ g.cost ≼ r.cutoff → ⊥) (sym (same_entry entries k n within here is at)) out apart most

-- what is known at most this
known_at_most : (o : Option Label) (d : Cost) → IsAtMost o d → (l : Label) × (o ≡ Some l) × (l.cost ≼ d)
known_at_most None d h = absurd h
known_at_most (Some l) d h = (l, refl, h)

known_settled : (o : Option Label) → IsSettled o → (l : Label) × (o ≡ Some l) × (l.settled ≡ true)
known_settled None h = absurd h
known_settled (Some l) h = (l, refl, h)

-- an offer makes no label worse
offer_kept : {new next : Labels} {v : ℕ} {c : Cost} {step : Option ℕ} → IsOffered new v c step next → (u : ℕ) (d : Cost) → IsAtMost (new u) d → IsAtMost (next u) d
offer_kept {new} {next} {v} {c} offered u d h = elim (cases_eq u v) [
  | inl e ↦ subst (λ (w : ℕ). IsAtMost (next w) d) (sym e) (elim offered.here [
    | inl o ↦ subst (λ (l : Option Label). IsAtMost l d) (sym o.0) (better o.1 e)
    | inr s ↦ subst (λ (l : Option Label). IsAtMost l d) (sym s.0) (subst (λ (w : ℕ). IsAtMost (new w) d) e h)
  ])
  | inr apart ↦ subst (λ (l : Option Label). IsAtMost l d) (sym (offered.others u apart)) h
] where
  better : ((l : Label) → new v ≡ Some l → (l.settled ≡ false) × (c ≼ l.cost)) → (e : u ≡ v) → c ≼ d
  better was e =
      let k = known_at_most (new v) d (subst (λ (w : ℕ). IsAtMost (new w) d) e h) in
      at_most_trans (was k.0 k.1).1 k.2

-- an offer leaves what is settled
offer_settled : {new next : Labels} {v : ℕ} {c : Cost} {step : Option ℕ} → IsOffered new v c step next → (u : ℕ) → IsSettled (new u) → next u ≡ new u
offer_settled {new} {next} {v} {c} offered u h = elim (cases_eq u v) [
  | inl e ↦ subst (λ (w : ℕ). next w ≡ new w) (sym e) (elim offered.here [
    | inl o ↦ absurd (not_open o.1 (subst (λ (w : ℕ). IsSettled (new w)) e h))
    | inr s ↦ s.0
  ])
  | inr apart ↦ offered.others u apart
] where
  not_open : ((l : Label) → new v ≡ Some l → (l.settled ≡ false) × (c ≼ l.cost)) → IsSettled (new v) → ⊥
  not_open was settled =
      let k = known_settled (new v) settled in
      true≢false (sym k.2 ∙ (was k.0 k.1).0)

-- the arc at the next place is offered
pub followed_offer : {r : Rule} {entries : List Entry} {c : Cost} {step : Option ℕ} {n : ℕ} {old new next : Labels} {e : Entry} → n < length entries
    → slice_index_or entries n e ≡ e → e.other ≢ r.avoid → c ⊕ e.cost ≼ r.cutoff → IsOffered new e.other (c ⊕ e.cost) step next
    → AreFollowedSoFar r entries c step n old new → AreFollowedSoFar r entries c step (n + 1) old next
followed_offer {r} {entries} {c} {step} {n} {old} {new} {next} {e} within here apart most offered h = record {
  opened = opened;
  settled = λ v s. offer_settled offered v (subst IsSettled (sym (h.settled v s)) s) ∙ h.settled v s;
  kept = λ v d k. offer_kept offered v d (h.kept v d k);
  told = λ k f below is other at_most. elim (cases_lt k n) [
    | inl less ↦ elim (h.told k f less is other at_most) [
      | inl s ↦ inl s
      | inr m ↦ inr (offer_kept offered f.other (c ⊕ f.cost) m)
    ]
    | inr least ↦ subst (λ (g : Entry). IsSettled (old g.other) ⊎ IsAtMost (next g.other) (c ⊕ g.cost)) (sym (same_entry entries k n within here is (omega (arith, below, least)))) this
  ];
} where
  opens : (v : ℕ) (l : Label) → v ≡ e.other → next v ≡ Some l → next e.other ≡ Some (record { cost = c ⊕ e.cost; before = step; settled = false }) → IsOpened r entries c step v l
  opens v l at is now =
      let it : record { cost = c ⊕ e.cost; before = step; settled = false } ≡ l = some-same _ l (sym now ∙ subst (λ (w : ℕ). next w ≡ Some l) at is) in
      record {
        arc = e.cost;
        listed = record { entry = e; among = (n, within, here); other = sym at; costs = refl };
        sum = ap (λ (k : Label). k.cost) (sym it);
        before = ap (λ (k : Label). k.before) (sym it);
        open_yet = ap (λ (k : Label). k.settled) (sym it);
        apart = subst (λ (w : ℕ). w ≢ r.avoid) (sym at) apart;
        at_most = subst (λ (k : Label). k.cost ≼ r.cutoff) it most;
      }

  opened : (v : ℕ) (l : Label) → next v ≡ Some l → (old v ≡ Some l) ⊎ IsOpened r entries c step v l
  opened v l is = elim (cases_eq v e.other) [
    | inl at ↦ elim offered.here [
      | inl o ↦ inr (opens v l at is o.0)
      | inr s ↦ h.opened v l (subst (λ (w : ℕ). new w ≡ Some l) (sym at) (sym s.0 ∙ subst (λ (w : ℕ). next w ≡ Some l) at is))
    ]
    | inr other ↦ h.opened v l (sym (offered.others v other) ∙ is)
  ]

  was_settled : IsSettled (new e.other) → IsSettled (old e.other)
  was_settled s =
      let k = known_settled (new e.other) s in
      elim (h.opened e.other k.0 k.1) [
        | inl before ↦ subst IsSettled (sym before) k.2
        | inr o ↦ absurd (true≢false (sym k.2 ∙ o.open_yet))
      ]

  this : IsSettled (old e.other) ⊎ IsAtMost (next e.other) (c ⊕ e.cost)
  this = elim offered.here [
    | inl o ↦ inr (subst (λ (l : Option Label). IsAtMost l (c ⊕ e.cost)) (sym o.0) (at_most_refl (c ⊕ e.cost)))
    | inr s ↦ elim s.1 [
      | inl settled ↦ inl (was_settled settled)
      | inr m ↦ inr (subst (λ (l : Option Label). IsAtMost l (c ⊕ e.cost)) (sym s.0) m)
    ]
  ]

-- one more arc is followed
pub followed_more : {r : Rule} {entries : List Entry} {c : Cost} {step : Option ℕ} {n : ℕ} {old new : Labels} (next : Labels) {e : Entry} → n < length entries
    → slice_index_or entries n e ≡ e → IsFollowed r e c step new next → AreFollowedSoFar r entries c step n old new
    → AreFollowedSoFar r entries c step (n + 1) old next
followed_more {r} {entries} {c} {step} {n} {old} {new} next {e} within here one h = elim one [
  | inl o ↦ followed_offer within here o.0 o.1 o.2 h
  | inr p ↦ subst (λ (ls : Labels). AreFollowedSoFar r entries c step (n + 1) old ls) (sym p.1) (followed_past within here p.0 h)
]
