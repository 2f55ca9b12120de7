-- A half that climbs as far as its links lead, turn by turn.
use Rattle.std.specs.Prelude.{ℕ, ◌≡◌, ◌≢◌, ◌+◌, ◌<◌, ◌⊎◌, List, length, slice_index_or, All}
use Rattle.ch_cost.specs.Cost.{length_of}
use Rattle.ch_graph.specs.declared.mark.Mark.{Mark}
use Rattle.ch_graph.specs.declared.mark.Mark.TheVariants.{Settled}
use Rattle.ch_graph.specs.Marks.{mark, NoneOpen, settled_count}
use Rattle.ch_query.specs.declared.climb.Climbed.{Climbed}
use Rattle.ch_query.specs.declared.label.Label.{Label}

-- a turn settled the node of rank r with the label e, and no other
pub record IsClimbedOn (r : ℕ) (e : Label) (old new : List (Mark Label)) : Type 0 where
  pub here : mark new r ≡ Settled e
  pub stays : (q : ℕ) (d : Label) → mark old q ≡ Settled d → mark new q ≡ Settled d
  pub settled : (q : ℕ) (d : Label) → mark new q ≡ Settled d → (q ≡ r) ⊎ (mark old q ≡ Settled d)
  pub count : settled_count new ≡ settled_count old + 1

-- there was no node to settle
pub record IsEnd (old new : List (Mark Label)) : Type 0 where
  pub same : new ≡ old
  pub none : NoneOpen (mark new)

-- the settled nodes are listed, each with the length of its label, and behind the one that it was come to from
pub record AreListed (marks : List (Mark Label)) (climbs : List Climbed) : Type 0 where
  pub each : All (λ (c : Climbed). (e : Label) × (mark marks c.rank ≡ Settled e) × (c.length ≡ length_of e.cost)) climbs
  pub all : (r : ℕ) (e : Label) → mark marks r ≡ Settled e → (k : ℕ) × (k < length climbs) × ((d : Climbed) → (slice_index_or climbs k d).rank ≡ r)
  pub before : (k : ℕ) (c : Climbed) (e : Label) → k < length climbs → mark marks (slice_index_or climbs k c).rank ≡ Settled e → e.foot ≢ (slice_index_or climbs k c).rank → (j : ℕ) × (j < k) × ((d : Climbed) → (slice_index_or climbs j d).rank ≡ e.foot)
