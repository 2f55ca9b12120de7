-- The links that fall to a node, listed one by one.
use Rattle.std.proofs.Common.{ℕ, ◌≡◌, ◌+◌, ◌<◌, ◌≤◌, List, [], ◌∷◌, ◌++◌, length, get_or, map, slice_index, All, Contains, ap, sym, subst, ◌∙◌, inl, inr, arith}
use Rattle.std.proofs.lemmas.Bool.{cases_lt}
use Rattle.std.proofs.lemmas.List.{map_push}
use Rattle.std.proofs.lemmas.List.Elements.{All-push, Contains-push, Contains-append_left}
use Rattle.ch_cost.specs.declared.cost.Cost.{Cost}
use Rattle.ch_cost.specs.Cost.{length_of}
use Rattle.ch_cost.specs.Cost.Laws.{cost_of_arcs_in_limit, in_limit-from_within, within_trans}
use Rattle.ch_cost.specs.Cost.Numbers.{lengths-in_limit}
use Rattle.ch_graph.specs.Hierarchy.{Hierarchy, IsWellMade}
use Rattle.ch_query.specs.declared.fall.Fall.{Fall}
use Rattle.ch_query.specs.declared.side.Side.TheVariants.{Fall as falling}
use Rattle.ch_query.specs.declared.upward.UpwardStep.{UpwardStep}
use Rattle.ch_query.specs.Climb.{head_rank, cost_at}
use Rattle.ch_query.specs.Searching.{IsStepAt}
use Rattle.ch_query.specs.Upward.{step_along, IsLaidOut}
use Rattle.ch_query.specs.Ways.{fall_along, FallsTo, IsFallAbove, AreFallsTo}
use Rattle.ch_query.proofs.LinkEnds.{head_in, link-made}
use Rattle.ch_query.proofs.NodeOfRank.{rank_below, rank_taken}
use Rattle.ch_query.proofs.LaidLinks.{links_are}
use Rattle.ch_query.proofs.FollowedLinks.{from-climbs, foot-made, step-made}

-- the links from one place to that before the next are listed
pub record IsListing (h : Hierarchy) (r : ℕ) (links : List ℕ) (begin next : ℕ) (falls : List Fall) : Type 0 where
  pub listed : List ℕ
  pub along : falls ≡ map (fall_along h) listed
  pub only : All (FallsTo h r) listed
  pub above : All (IsFallAbove h r) falls
  pub each : (i : ℕ) → begin ≤ i → i < next → Contains listed (slice_index links i)

fall-above : {h : Hierarchy} → IsWellMade h → {r k : ℕ} → FallsTo h r k → IsFallAbove h r (fall_along h k)
fall-above {h} made {k} to = record {
  tail_in = rank_below made (head_in made falling to.falls.within);
  above = omega (arith, to.to, to.falls.rises);
  short = lengths-in_limit (cost_at h k) (in_limit-from_within (within_trans (link-made made to.falls.within).within made.bound) (cost_of_arcs_in_limit _ _ (omega (arith, made.few_nodes)) (omega arith)));
}

pub listing-more : {h : Hierarchy} → IsWellMade h → {r : ℕ} {links : List ℕ} {begin next : ℕ} {falls : List Fall} {fall : Fall} → fall ≡ fall_along h (slice_index links next)
    → FallsTo h r (slice_index links next) → IsListing h r links begin next falls → IsListing h r links begin (next + 1) (falls ++ fall ∷ [])
listing-more {h} made {r} {links} {next} {falls} {fall} is to was = record {
  listed = was.listed ++ k ∷ [];
  along = ap (λ (f : Fall). falls ++ f ∷ []) is ∙ (ap (λ (fs : List Fall). fs ++ fall_along h k ∷ []) was.along ∙ sym (map_push (fall_along h) was.listed k));
  only = All-push (FallsTo h r) was.listed k was.only to;
  above = All-push (IsFallAbove h r) falls fall was.above (subst (IsFallAbove h r) (sym is) (fall-above made to));
  each = λ i from low. elim (cases_lt i next) [
    | inl before ↦ Contains-append_left was.listed (k ∷ []) (slice_index links i) (was.each i from before)
    | inr last ↦
        let same : i ≡ next = omega (arith, low, last) in
        subst (λ j. Contains (was.listed ++ k ∷ []) (slice_index links j)) (sym same) (Contains-push was.listed k)
  ];
}
  where
    k : ℕ
    k = slice_index links next

-- what is read of a step is its fall
pub fall-is : {h : Hierarchy} {links : List ℕ} {steps : List UpwardStep} {place : ℕ} → IsStepAt h falling links steps place → {step : UpwardStep} → step ≡ get_or steps place step
    → {cost : Cost} → cost ≡ cost_at h (slice_index links place) → {long : ℕ} → long ≡ length_of cost → record { tail = step.head; length = long } ≡ fall_along h (slice_index links place)
fall-is {h} {links} {place} at {step} read is {long} is_long =
    let here : step ≡ step_along h falling (slice_index links place) = read ∙ at.along step in
    let head : step.head ≡ head_rank h falling (slice_index links place) = ap (λ (s : UpwardStep). s.head) here in
    let own : long ≡ length_of (cost_at h (slice_index links place)) = is_long ∙ ap length_of is in
    λ i. record { tail = head i; length = own i }

-- what a rank has in the lists of the side
module _ {h : Hierarchy} (made : IsWellMade h) {first links : List ℕ} {steps : List UpwardStep} (laid : IsLaidOut h falling first links steps) {r : ℕ} (low : r < length h.ranks) where
  pub falls-here : {i : ℕ} → slice_index first r ≤ i → i < slice_index first (r + 1) → FallsTo h r (slice_index links i)
  falls-here from before = record {
    falls = (step-made made laid low from before).climbs;
    to = foot-made made laid low from before;
  }

  -- all of them are listed
  pub falls-listed : {next : ℕ} {falls : List Fall} → slice_index first (r + 1) ≤ next → IsListing h r links (slice_index first r) next falls → AreFallsTo h r falls
  falls-listed whole is = record {
    links = is.listed;
    along = is.along;
    only = is.only;
    above = is.above;
    each = λ k to.
        let v = rank_taken made low in
        let among = (links_are laid v.1 v.2).each k (from-climbs made v.1 to.falls (to.to ∙ sym v.2)) in
        subst (λ j. Contains is.listed j) among.3 (is.each among.0 among.1 (omega (arith, among.2, whole)));
  }
