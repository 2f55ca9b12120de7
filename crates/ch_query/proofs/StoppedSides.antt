-- Two sides that have stopped give the value, and walks of that cost.
use Rattle.std.proofs.Common.{ℕ, ◌≡◌, List, [], ◌∷◌, ◌++◌, reverse, Option, Some, None, All, IfSome, slice_get, ap, refl, ◌∙◌}
use Rattle.std.proofs.lemmas.List.{map-append}
use Rattle.std.proofs.lemmas.List.Elements.{All-append, All-head, All-tail}
use Rattle.std.proofs.lemmas.Option.{slice_get-get_or}
use Rattle.ch_cost.specs.declared.cost.Cost.{Cost}
use Rattle.ch_cost.specs.Cost.{◌⊕◌}
use Rattle.ch_graph.specs.declared.hierarchy.LinkId.{LinkId}
use Rattle.ch_graph.specs.declared.mark.Mark.{Mark}
use Rattle.ch_graph.specs.Hierarchy.{Hierarchy, IsWellMade, IsRiseFall}
use Rattle.ch_graph.specs.Unfolding.{AreAt, RiseFallJoins}
use Rattle.ch_query.specs.declared.label.Label.{Label}
use Rattle.ch_query.specs.declared.meeting.Meeting.{Meeting}
use Rattle.ch_query.specs.declared.seed.Seed.{Seed}
use Rattle.ch_query.specs.declared.side.Side.TheVariants.{Rise, Fall}
use Rattle.ch_query.specs.Labels.{IsBest}
use Rattle.ch_query.specs.Places.{link_at, IsRiseFallAt}
use Rattle.ch_query.specs.Seeds.{AreSeeds, IsValueBetween, IsWalkBetween}
use Rattle.ch_query.specs.Climb.{Descends}
use Rattle.ch_query.specs.Marks.{costs_of, IsStopped}
use Rattle.ch_query.specs.Searching.{IsClimbing, IsSearching}
use Rattle.ch_query.specs.Meeting.{IsBestMeeting, IsMeetingOf, cost_of}
use Rattle.ch_query.proofs.LeastSum.{stop_right, both_parts}
use Rattle.ch_query.proofs.ClimbLinks.{IsPlace, links_at, IsRiseOf, IsFallOf, rise-chain, fall-chain, descends-places, all-reverse}

-- two sides that have stopped give the value
pub answered : {h : Hierarchy} → IsWellMade h → {starts ends : List Seed} → AreSeeds h starts → AreSeeds h ends
    → {bound : Cost} (up down : List (Mark Label)) (best : Option Meeting) → IsClimbing h Rise starts bound (cost_of best) up
    → IsClimbing h Fall ends bound (cost_of best) down → IsStopped up (cost_of best) → IsStopped down (cost_of best)
    → IsBestMeeting bound (costs_of up) (costs_of down) best → IsValueBetween h starts ends bound (cost_of best)
answered {h} made {starts} {ends} begins stops {bound} up down best rises falls up_stopped down_stopped is = stop_right h starts ends bound up down (cost_of best) made begins stops rises falls up_stopped down_stopped (best_sum best is)
  where
    best_sum : (best : Option Meeting) → IsBestMeeting bound (costs_of up) (costs_of down) best → IsBest bound (costs_of up) (costs_of down) (cost_of best)
    best_sum None is = λ c meets. is meets.0 c meets.1
    best_sum (Some m) is = ((m.rank, is.meets), λ d meets. is.least meets.0 d meets.1)

-- where two halves meet, as a walk over the meeting's node takes it
pub meeting_of : {h : Hierarchy} {starts ends : List Seed} {bound : Cost} {up down : List (Mark Label)} → IsSearching h Rise starts bound up → IsSearching h Fall ends bound down
    → (best : Option Meeting) → IsBestMeeting bound (costs_of up) (costs_of down) best → IfSome best (IsMeetingOf h starts ends bound up down)
meeting_of rises falls None is = tt
meeting_of rises falls (Some m) is = record { rises = rises; falls = falls; meets = is.meets }

-- at places of links are the links that are read there
are_at-places : (h : Hierarchy) (ids : List LinkId) → All (IsPlace h) ids → AreAt h ids (links_at h ids)
are_at-places h [] within = tt
are_at-places h (id ∷ ids) within = (slice_get-get_or h.links id.0 _ (All-head (IsPlace h) id ids within), are_at-places h ids (All-tail (IsPlace h) id ids within))

module _ {h : Hierarchy} {x : ℕ} {a b : Cost} {start stop : Seed} {ups downs : List LinkId} (rises : Descends h Rise start ups x a) (falls : Descends h Fall stop downs x b) where
  up : IsRiseOf h start ups x a
  up = rise-chain rises

  down : IsFallOf h stop downs x b
  down = fall-chain falls

  -- the links of both sides make the walk
  walk_leads : IsRiseFall h (links_at h (reverse ups ++ downs)) start.node stop.node (up.way ⊕ down.way)
  walk_leads = record {
    rise = links_at h (reverse ups);
    fall = links_at h downs;
    top = x;
    up = up.way;
    down = down.way;
    parts = map-append (λ (id : LinkId). link_at h id.0) (reverse ups) downs;
    rises = up.chain;
    falls = down.chain;
    sum = refl;
  }

  walk_places : All (IsPlace h) (reverse ups ++ downs)
  walk_places = All-append (IsPlace h) (reverse ups) downs (all-reverse (IsPlace h) ups (descends-places rises)) (descends-places falls)

  walk_at : IsRiseFallAt h (reverse ups ++ downs) start.node stop.node (up.way ⊕ down.way)
  walk_at = record {
    links = links_at h (reverse ups ++ downs);
    are_at = are_at-places h (reverse ups ++ downs) walk_places;
    leads = walk_leads;
  }

  -- from one seed to the other
  pub walk_between : RiseFallJoins → {starts ends : List Seed} {from to : ℕ} → slice_get starts from ≡ Some start → slice_get ends to ≡ Some stop → {c : Cost} → c ≡ a ⊕ b → IsWalkBetween h starts ends from to (reverse ups ++ downs) c
  walk_between joins begins stops sum = record {
    start = start;
    stop = stop;
    begins = begins;
    stops = stops;
    way = up.way ⊕ down.way;
    leads = walk_at;
    joined = joins h (reverse ups ++ downs) walk_at.links start.node stop.node (up.way ⊕ down.way) walk_at.are_at walk_at.leads;
    sum = sum ∙ (ap (λ (d : Cost). d ⊕ b) up.sum ∙ (ap (λ (d : Cost). (start.cost ⊕ up.way) ⊕ d) down.sum ∙ both_parts start.cost up.way stop.cost down.way));
  }
