-- The step from one rank to another, looked for among those from the lower rank.
use Rattle.std.proofs.Common.{ℕ, ◌≡◌, ◌≢◌, ◌+◌, ◌<◌, ◌≤◌, List, length, slice_index, ap, sym, subst, ◌∙◌, inl, inr, arith}
use Rattle.std.proofs.lemmas.Bool.{cases_eq}
use Rattle.ch_graph.specs.Hierarchy.{Hierarchy, IsWellMade}
use Rattle.ch_query.specs.declared.side.Side.{Side}
use Rattle.ch_query.specs.declared.upward.UpwardStep.{UpwardStep}
use Rattle.ch_query.specs.Climb.{head_rank, LeadsUp}
use Rattle.ch_query.specs.Upward.{IsLaidOut}
use Rattle.ch_query.specs.Searching.{IsStepAt}
use Rattle.ch_query.proofs.LinkEnds.{foot_in}
use Rattle.ch_query.proofs.NodeOfRank.{rank_below, rank_taken}
use Rattle.ch_query.proofs.LaidLinks.{links_are}
use Rattle.ch_query.proofs.FollowedLinks.{from-climbs, step-made, foot-made}

-- at this place, or after it, is a step from the rank q to the rank r
pub record IsAhead (h : Hierarchy) (side : Side) (first links : List ℕ) (q r place : ℕ) : Type 0 where
  pub from : slice_index first q ≤ place
  pub at : ℕ
  pub still : place ≤ at
  pub within : at < slice_index first (q + 1)
  pub head : head_rank h side (slice_index links at) ≡ r

module _ {h : Hierarchy} (made : IsWellMade h) {side : Side} {first links : List ℕ} {steps : List UpwardStep} (laid : IsLaidOut h side first links steps) {q r k : ℕ} (leads : LeadsUp h side q r k) where
  pub lower_in : q < length h.ranks
  lower_in = subst (λ p. p < length h.ranks) leads.foot (rank_below made (foot_in made side leads.climbs.within))

  pub ahead-first : IsAhead h side first links q r (slice_index first q)
  ahead-first =
      let v = rank_taken made lower_in in
      let among = (links_are laid v.1 v.2).each k (from-climbs made v.1 leads.climbs (leads.foot ∙ sym v.2)) in
      record {
        from = omega arith;
        at = among.0;
        still = among.1;
        within = among.2;
        head = ap (head_rank h side) among.3 ∙ leads.head;
      }

  module _ {place : ℕ} (ahead : IsAhead h side first links q r place) where
    place_within : place < slice_index first (q + 1)
    place_within = omega (arith, ahead.still, ahead.within)

    pub ahead-step : IsStepAt h side links steps place
    ahead-step = step-made made laid lower_in ahead.from place_within

    -- where it isn't this step, it is a later one
    pub ahead-next : head_rank h side (slice_index links place) ≢ r → IsAhead h side first links q r (place + 1)
    ahead-next other = elim (cases_eq place ahead.at) [
      | inl here ↦ absurd (other (ap (λ i. head_rank h side (slice_index links i)) here ∙ ahead.head))
      | inr later ↦ record {
        from = omega (arith, ahead.from);
        at = ahead.at;
        still = omega (arith, later, ahead.still);
        within = ahead.within;
        head = ahead.head;
      }
    ]

    pub ahead-here : head_rank h side (slice_index links place) ≡ r → LeadsUp h side q r (slice_index links place)
    ahead-here head = record {
      climbs = ahead-step.climbs;
      foot = foot-made made laid lower_in ahead.from place_within;
      head = head;
    }
