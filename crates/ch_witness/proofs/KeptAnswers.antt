-- Answers that are kept: what the source vouches for, as it moves and answers more.
use Rattle.std.proofs.Common.{ℕ, ◌≡◌, ◌≢◌, get_or, length, Option, Some, None, true, false, refl, ap, sym, subst, ◌∙◌, arith, inl, inr}
use Rattle.std.specs.List.{slice_get}
use Rattle.std.specs.Option.{is_some}
use Rattle.std.proofs.lemmas.Option.{slice_get-get_or}
use Rattle.std.proofs.lemmas.Bool.{cases_eq}
use Rattle.ch_cost.specs.declared.cost.Cost.{Cost}
use Rattle.ch_overlay.specs.declared.source.Seen.{Seen}
use Rattle.ch_overlay.specs.Source.{IsBound, IsSeenRow}
use Rattle.ch_witness.specs.Kept.{Kept, joined, kept_of, AreKept, IsAnswer, IsKept, IsMore}
use Rattle.ch_witness.specs.Places.{IsFirstAt}
use Rattle.ch_witness.specs.declared.rows.Rows.{Rows}
use Rattle.ch_witness.proofs.SomeValues.{some-same}
use Rattle.ch_witness.proofs.ValuesOfNodes.{value_found}

module _ (Bears Shows Now : Seen → Type 0) {bound now : Cost} (kept : Kept) (same : now ≡ bound) (still : (s : Seen) → Shows s → Now s) (are : AreKept Bears Shows bound kept) where
  -- the source moves
  pub kept_moved : AreKept Bears Now now kept
  kept_moved x s is =
      let was = are x s is in
      record {
        node = was.node;
        bears = was.bears;
        shows = still s was.shows;
        row = subst (λ (b : Cost). IsSeenRow b s) (sym same) was.row;
        limit = subst IsBound (sym same) was.limit;
      }

  -- and one more answer is kept
  pub kept_put : (new : Kept) (v : ℕ) (t : Seen) → IsAnswer Bears Now now v t → new v ≡ Some t → ((q : ℕ) → q ≢ v → new q ≡ kept q) → AreKept Bears Now now new
  kept_put new v t answer here others x s is = elim (cases_eq x v) [
    | inl at ↦
        let it : t ≡ s = some-same t s (sym here ∙ subst (λ (w : ℕ). new w ≡ Some s) at is) in
        subst (λ (u : Seen). IsAnswer Bears Now now x u) it (subst (λ (w : ℕ). IsAnswer Bears Now now w t) (sym at) answer)
    | inr other ↦ kept_moved x s (sym (others x other) ∙ is)
  ]

-- what is kept stays so
pub kept_still : (old new : Kept) (s : Seen) → IsMore old new → IsKept old s → IsKept new s
kept_still old new s more is = more s.node s is

pub more_refl : (kept : Kept) → IsMore kept kept
more_refl kept x s is = is

pub more_trans : (a b c : Kept) → IsMore a b → IsMore b c → IsMore a c
more_trans a b c h k x s is = k x s (h x s is)

-- what is at the place of a node is what is kept for it, if anything is
pub stands : (r : Rows) {v k : ℕ} {o : Option Seen} → length r.kept.items ≡ length r.nodes → IsFirstAt r.nodes v k → o ≡ get_or r.kept.items k o → (slice_get r.kept.items k ≡ Some o) × (kept_of r v ≡ o)
stands r {v} {k} {o} paired at is = (
  slice_get-get_or r.kept.items k o (omega (arith, paired, at.within)) ∙ ap (λ (p : Option Seen). Some p) (sym is),
  ap joined (value_found r.kept.items o paired at) ∙ sym is,
)

pub some_there : (o : Option Seen) → true ≡ is_some o → (s : Seen) × (o ≡ Some s)
some_there None e = absurd (cc)
some_there (Some s) e = (s, refl)

pub none_there : {A : Type 0} (o : Option A) → false ≡ is_some o → o ≡ None
none_there None e = refl
none_there (Some s) e = absurd (cc)
