-- What a search gives, by its tree.
use Rattle.std.proofs.Common.{ℕ, ◌≡◌, ◌≢◌, ◌<◌, List, [], ◌∷◌, length, Option, Some, None, zero, suc, refl, ap, sym, subst, ◌∙◌, arith, get_or, slice_index}
use Rattle.std.specs.List.{slice_get, All, Contains}
use Rattle.std.specs.Option.{IfSome, IsSomeAnd}
use Rattle.std.proofs.lemmas.List.{get_or_default}
use Rattle.std.proofs.lemmas.Option.{slice_get-get_or, slice_get_within, get_or_from_slice_get}
use Rattle.ch_cost.specs.declared.cost.Cost.{Cost}
use Rattle.ch_cost.specs.Cost.{◌≼◌}
use Rattle.ch_overlay.specs.declared.source.Seen.{Seen}
use Rattle.ch_overlay.specs.Source.{row_in}
use Rattle.ch_witness.specs.declared.label.Label.{Label}
use Rattle.ch_witness.specs.declared.rule.Rule.{Rule}
use Rattle.ch_witness.specs.declared.step.TreeNode.{TreeNode}
use Rattle.ch_witness.specs.declared.way.Way.{Way}
use Rattle.ch_witness.specs.Tree.{Labels, AreSteps, IsTree, IsAtMost, IsStartSeen, AllSeen}
use Rattle.ch_witness.specs.Ways.{IsWay, IsWayOf, AreWays, AreUnrankedRows, IsFound, IsStartRead, way_at}
use Rattle.ch_witness.specs.Tree.{seen_of}
use Rattle.ch_witness.proofs.SomeValues.{some-same}

-- a row that was seen is that of a step
step_of : (steps : List TreeNode) (k : ℕ) (a : Seen) → slice_get (seen_of steps) k ≡ Some a → (s : TreeNode) × (slice_get steps k ≡ Some s) × (s.seen.value ≡ a)
step_of [] k a is = absurd (cc)
step_of (t ∷ ts) zero a is = (t, refl, some-same t.seen.value a is)
step_of (t ∷ ts) (suc k) a is = step_of ts k a is

-- the row of a step was seen
seen_at : (steps : List TreeNode) (k : ℕ) (s : TreeNode) → slice_get steps k ≡ Some s → slice_get (seen_of steps) k ≡ Some s.seen.value
seen_at [] k s is = absurd (cc)
seen_at (t ∷ ts) zero s is = ap (λ (u : TreeNode). Some u.seen.value) (some-same t s is)
seen_at (t ∷ ts) (suc k) s is = seen_at ts k s is

pub all_seen : (IsKind : Seen → Type 0) (steps : List TreeNode) → AllSeen IsKind steps → All IsKind (seen_of steps)
all_seen IsKind steps all k d h =
    let at = step_of steps k _ (slice_get-get_or (seen_of steps) k d h) in
    subst IsKind at.2 (all k at.0 at.1)

pub rows : (r : Rule) (steps : List TreeNode) → AreSteps r steps → AreUnrankedRows (seen_of steps)
rows r steps are = record {
  once = once;
  unranked = all_seen (λ s. (row_in s).rank ≡ None) steps (λ k s is. (are.each k s is).unranked);
} where
  once : (i j : ℕ) (d : Seen) → i < j → j < length (seen_of steps) → (get_or (seen_of steps) i d).node ≢ (get_or (seen_of steps) j d).node
  once i j d h k e =
      let a = step_of steps i _ (slice_get-get_or (seen_of steps) i d (omega (arith, h, k))) in
      let b = step_of steps j _ (slice_get-get_or (seen_of steps) j d k) in
      let same : i ≡ j = are.once i j a.0 b.0 a.1 b.1 (ap (λ (s : Seen). s.node) a.2 ∙ e ∙ ap (λ (s : Seen). s.node) (sym b.2)) in
      omega (arith, h, same)

leads : (seen : List Seen) (avoid from to : ℕ) (o : Option Label) (w : Option Way) → IsWayOf seen avoid from to o w → IfSome w (IsWay seen avoid from to)
leads seen avoid from to None None h = h
leads seen avoid from to (Some l) (Some w) h = h.1
leads seen avoid from to None (Some w) h = absurd h
leads seen avoid from to (Some l) None h = absurd h

at_most : (seen : List Seen) (avoid from to : ℕ) (cutoff : Cost) (o : Option Label) (w : Option Way) → ((l : Label) → o ≡ Some l → l.cost ≼ cutoff) → IsWayOf seen avoid from to o w → IfSome w (λ v. v.cost ≼ cutoff)
at_most seen avoid from to cutoff None None known h = h
at_most seen avoid from to cutoff (Some l) (Some w) known h = subst (λ (c : Cost). c ≼ cutoff) (sym h.0) (known l refl)
at_most seen avoid from to cutoff None (Some w) known h = absurd h
at_most seen avoid from to cutoff (Some l) None known h = absurd h

found : (seen : List Seen) (avoid from to : ℕ) (c : Cost) (o : Option Label) (ways : List (Option Way)) (k : ℕ) (w : Option Way) → way_at ways k ≡ w → IsWayOf seen avoid from to o w → IsAtMost o c → IsFound ways k c
found seen avoid from to c None ways k w is h m = absurd m
found seen avoid from to c (Some l) ways k None is h m = absurd h
found seen avoid from to c (Some l) ways k (Some w) is h m = subst (λ (o : Option Way). IsSomeAnd o (λ v. v.cost ≼ c)) (sym is) (subst (λ (d : Cost). d ≼ c) (sym h.0) m)

-- the ways of the labels
pub ways_given : {r : Rule} (steps : List TreeNode) (labels : Labels) (targets : List ℕ) (ways : List (Option Way)) → IsTree r steps labels
    → length ways ≡ length targets → ((k : ℕ) → k < length targets
    → IsWayOf (seen_of steps) r.avoid r.from (slice_index targets k) (labels (slice_index targets k)) (way_at ways k))
    → AreWays (seen_of steps) r.from r.avoid r.cutoff targets ways
ways_given {r} steps labels targets ways tree many each = record {
  many = many;
  leads = λ k h. leads (seen_of steps) r.avoid r.from (slice_index targets k) (labels (slice_index targets k)) (way_at ways k) (each k h);
  at_most = λ k h. at_most (seen_of steps) r.avoid r.from (slice_index targets k) r.cutoff (labels (slice_index targets k)) (way_at ways k) (λ l is. (tree.reached (slice_index targets k) l is).at_most) (each k h);
}

-- the start's row, and the targets that it has an arc to
pub start_given : {r : Rule} (steps : List TreeNode) (labels : Labels) (targets : List ℕ) (ways : List (Option Way)) (s : Seen)
    → (Contains targets r.avoid → ⊥) → ((k : ℕ) → k < length targets
    → IsWayOf (seen_of steps) r.avoid r.from (slice_index targets k) (labels (slice_index targets k)) (way_at ways k)) → IsStartSeen r s steps labels
    → IsStartRead (seen_of steps) r.from r.cutoff targets ways s
start_given {r} steps labels targets ways s free each start = record {
  node = start.node;
  among = among;
  direct = λ unranked k c h listed most. found (seen_of steps) r.avoid r.from (slice_index targets k) c (labels (slice_index targets k)) ways k (way_at ways k) refl (each k h) (start.direct unranked (slice_index targets k) c listed (allowed k h) most);
} where
  allowed : (k : ℕ) → k < length targets → slice_index targets k ≢ r.avoid
  allowed k h e = free (k, h, get_or_default targets k r.avoid 0 h ∙ e)

  among : (row_in s).rank ≡ None → Contains (seen_of steps) s
  among unranked =
      let step = start.step unranked in
      let at : slice_get (seen_of steps) step.0 ≡ Some s = seen_at steps step.0 step.1.0 step.1.1 ∙ ap Some step.1.2 in
      (step.0, slice_get_within (seen_of steps) step.0 s at, get_or_from_slice_get (seen_of steps) step.0 s s at)
