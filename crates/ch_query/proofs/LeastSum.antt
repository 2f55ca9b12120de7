-- Two sides that have stopped: no rise-fall walk costs less than the best sum of two labels.
use Rattle.std.proofs.Common.{ℕ, ◌≡◌, ◌<◌, List, [], ◌∷◌, ◌++◌, length, Option, Some, None, Contains, refl, sym, ap, subst, ◌∙◌, inl, inr}
use Rattle.std.proofs.lemmas.List.{get_or_default}
use Rattle.ch_cost.specs.declared.cost.Cost.{Cost}
use Rattle.ch_cost.specs.Cost.{zero_cost, ◌⊕◌, ◌≼◌, ◌≺◌}
use Rattle.ch_cost.specs.Cost.Laws.{sum_assoc, sum_comm, at_most_trans, at_most_trans_below, below_not_at_most, cases_cost, sum_at_most, no_longer_at_most}
use Rattle.ch_graph.specs.declared.link.Link.{Link}
use Rattle.ch_graph.specs.declared.mark.Mark.{Mark}
use Rattle.ch_graph.specs.Walk.{Walk, Walk.stay, Walk.go}
use Rattle.ch_graph.specs.Hierarchy.{Hierarchy, Chain, Chain.nothing, Chain.then, IsWellMade, IsRising, IsFalling, rank_of}
use Rattle.ch_graph.specs.Marks.{mark}
use Rattle.ch_graph.specs.Searching.{StartedWalk, IsDownward}
use Rattle.ch_graph.specs.Walk.Laws.{one_arc, join}
use Rattle.ch_graph.specs.Hierarchy.Chains.{chain-same, chain-join, one_link}
use Rattle.ch_graph.specs.Searching.Laws.{HasOpen, both_labelled_or_open}
use Rattle.ch_query.specs.declared.label.Label.{Label}
use Rattle.ch_query.specs.declared.seed.Seed.{Seed}
use Rattle.ch_query.specs.declared.side.Side.{Side}
use Rattle.ch_query.specs.declared.side.Side.TheVariants.{Rise, Fall}
use Rattle.ch_query.specs.Places.{link_at}
use Rattle.ch_query.specs.Climb.{foot_of, head_of}
use Rattle.ch_query.specs.Labels.{Meets, CountsBelow}
use Rattle.ch_query.specs.Seeds.{AreSeeds, IsSeedAt, HasWalkBetween, cost_between}
use Rattle.ch_query.proofs.SeedPlaces.{seed-in}
use Rattle.ch_query.specs.Marks.{label_cost, costs_of, IsStopped}
use Rattle.ch_query.specs.Searching.{LinkArc, IsClimbing, StopIsRight}
use Rattle.ch_query.proofs.LinkEnds.{link-among, foot_in, head_in}
use Rattle.ch_query.proofs.NodeOfRank.{rank_below, rank_taken, same_node}
use Rattle.ch_query.proofs.MarkOrder.{from_cost, cost_is, has_label}

-- Rises and falls as walks of a side over ranks

-- a link of the hierarchy is an arc of the side that climbs it
link-arc : {h : Hierarchy} {side : Side} {l : Link} → Contains h.links l → rank_of h (foot_of side l) < rank_of h (head_of side l) → LinkArc h side (rank_of h (foot_of side l)) (rank_of h (head_of side l)) l.cost
link-arc {h} {side} {l} among rises =
    let same : link_at h among.0 ≡ l = get_or_default h.links among.0 _ l among.1 ∙ among.2 in
    record {
      link = among.0;
      leads = record {
        climbs = record { within = among.1; rises = subst (λ (m : Link). rank_of h (foot_of side m) < rank_of h (head_of side m)) (sym same) rises };
        foot = ap (λ (m : Link). rank_of h (foot_of side m)) same;
        head = ap (λ (m : Link). rank_of h (head_of side m)) same;
      };
      cost = ap (λ (m : Link). m.cost) same;
    }

pub rise-walk : {h : Hierarchy} {ls : List Link} {x z : ℕ} {c : Cost} → Chain (IsRising h) ls x z c → Walk (LinkArc h Rise) (rank_of h x) (rank_of h z) c
rise-walk nothing = stay
rise-walk {h} (then {l = l} rising from rest) = go (subst (λ n. LinkArc h Rise (rank_of h n) (rank_of h l.to) l.cost) from (link-arc rising.among rising.rises)) (rise-walk rest)

-- against the links that fall
pub fall-walk : {h : Hierarchy} {ls : List Link} {x z : ℕ} {c : Cost} → Chain (IsFalling h) ls x z c → Walk (LinkArc h Fall) (rank_of h z) (rank_of h x) c
fall-walk nothing = stay
fall-walk {h} (then {l = l} {x = x} {z = z} {d = d} falling from rest) =
    let last : LinkArc h Fall (rank_of h l.to) (rank_of h x) l.cost = subst (λ n. LinkArc h Fall (rank_of h l.to) (rank_of h n) l.cost) from (link-arc falling.among falling.falls) in
    subst (λ (e : Cost). Walk (LinkArc h Fall) (rank_of h z) (rank_of h x) e) (sum_comm d l.cost) (join (fall-walk rest) (one_arc last))

module _ {h : Hierarchy} (made : IsWellMade h) where
  -- a walk of a side from the rank of a node ends at one
  pub end_in : {side : Side} {q r : ℕ} {c : Cost} → Walk (LinkArc h side) q r c → q < length h.ranks → r < length h.ranks
  end_in stay low = low
  end_in {side} (go arc rest) low = end_in rest (subst (λ p. p < length h.ranks) arc.leads.head (rank_below made (head_in made side arc.leads.climbs.within)))

  -- and is a rise, or a fall back to where it began
  pub walk-rise : {q r : ℕ} {c : Cost} → Walk (LinkArc h Rise) q r c → {x z : ℕ} → x < length h.ranks → z < length h.ranks → rank_of h x ≡ q → rank_of h z ≡ r → (ls : List Link) × Chain (IsRising h) ls x z c
  walk-rise stay {x} x_in z_in at there = ([], subst (λ y. Chain (IsRising h) [] x y zero_cost) (same_node made x_in z_in (at ∙ sym there)) nothing)
  walk-rise (go {d = d} arc rest) {x} x_in z_in at there =
      let l : Link = link_at h arc.link in
      let from : l.from ≡ x = same_node made (foot_in made Rise arc.leads.climbs.within) x_in (arc.leads.foot ∙ sym at) in
      let more = walk-rise rest (head_in made Rise arc.leads.climbs.within) z_in arc.leads.head there in
      (l ∷ more.0, chain-same (ap (λ (e : Cost). e ⊕ d) arc.cost) (then (record { among = link-among h arc.leads.climbs.within; rises = arc.leads.climbs.rises }) from more.1))

  pub walk-fall : {q r : ℕ} {c : Cost} → Walk (LinkArc h Fall) q r c → {x z : ℕ} → x < length h.ranks → z < length h.ranks → rank_of h x ≡ q → rank_of h z ≡ r → (ls : List Link) × Chain (IsFalling h) ls z x c
  walk-fall stay {x} x_in z_in at there = ([], subst (λ y. Chain (IsFalling h) [] y x zero_cost) (same_node made x_in z_in (at ∙ sym there)) nothing)
  walk-fall (go {c = c} {d = d} arc rest) {x} {z} x_in z_in at there =
      let l : Link = link_at h arc.link in
      let to : l.to ≡ x = same_node made (foot_in made Fall arc.leads.climbs.within) x_in (arc.leads.foot ∙ sym at) in
      let more = walk-fall rest (head_in made Fall arc.leads.climbs.within) z_in arc.leads.head there in
      let longer = chain-join more.1 (one_link l (record { among = link-among h arc.leads.climbs.within; falls = arc.leads.climbs.rises })) in
      (more.0 ++ l ∷ [], subst (λ n. Chain (IsFalling h) (more.0 ++ l ∷ []) z n (c ⊕ d)) to (chain-same (ap (λ (e : Cost). d ⊕ e) arc.cost ∙ sum_comm d c) longer))

-- The law of the stop

-- what costs no more than one that counts, counts too
pub counts_less : (bound : Cost) (best : Option Cost) → IsDownward (CountsBelow bound best)
counts_less bound best c d less counts = record {
  short = no_longer_at_most less counts.short;
  below = λ b is. at_most_trans_below less (counts.below b is);
}

-- two walks, each with a seed's cost before it, cost together what both and the seeds do
pub both_parts : (p a q b : Cost) → (p ⊕ a) ⊕ (q ⊕ b) ≡ (p ⊕ (a ⊕ b)) ⊕ q
both_parts p a q b =
    ap (λ (d : Cost). (p ⊕ a) ⊕ d) (sum_comm q b)
    ∙ (sym (sum_assoc (p ⊕ a) b q) ∙ ap (λ (d : Cost). d ⊕ q) (sum_assoc p a b))

-- what the walk to a label costs, by its seed and the rest
pub seed_parts : {h : Hierarchy} {side : Side} {seeds : List Seed} {r : ℕ} {d c : Cost} (w : StartedWalk (LinkArc h side) (IsSeedAt h seeds) r d) → d ≡ c → c ≡ w.begins.seed.cost ⊕ w.rest
seed_parts w is = sym is ∙ (sym w.sum ∙ ap (λ (e : Cost). e ⊕ w.rest) (sym w.begins.cost))

module _ {h : Hierarchy} (made : IsWellMade h) {starts ends : List Seed} (begins : AreSeeds h starts) (stops : AreSeeds h ends) {bound : Cost} (up down : List (Mark Label)) {best : Option Cost} (rises : IsClimbing h Rise starts bound best up) (falls : IsClimbing h Fall ends bound best down) where
  -- two labels of a node are the two parts of a rise-fall walk
  meeting_walk : (r : ℕ) {c : Cost} → Meets bound (costs_of up) (costs_of down) r c → HasWalkBetween h starts ends bound c
  meeting_walk r meets =
      let e = from_cost meets.risen in
      let f = from_cost meets.fallen in
      let w : StartedWalk (LinkArc h Rise) (IsSeedAt h starts) r e.0.cost = rises.walks r e.0 e.1 in
      let v : StartedWalk (LinkArc h Fall) (IsSeedAt h ends) r f.0.cost = falls.walks r f.0 f.1 in
      let a : Seed = w.begins.seed in
      let b : Seed = v.begins.seed in
      let a_in : a.node < length h.ranks = (seed-in starts begins w.begins.among).node_in in
      let b_in : b.node < length h.ranks = (seed-in ends stops v.begins.among).node_in in
      let low : w.start < length h.ranks = subst (λ q. q < length h.ranks) w.begins.rank (rank_below made a_in) in
      let node = rank_taken made (end_in made w.walk low) in
      let rise = walk-rise made w.walk a_in node.1 w.begins.rank node.2 in
      let fall = walk-fall made v.walk b_in node.1 v.begins.rank node.2 in
      let risen : meets.rise ≡ a.cost ⊕ w.rest = seed_parts w e.2 in
      let fallen : meets.fall ≡ b.cost ⊕ v.rest = seed_parts v f.2 in
      record {
        start = a;
        stop = b;
        begins = w.begins.among;
        stops = v.begins.among;
        links = rise.0 ++ fall.0;
        way = w.rest ⊕ v.rest;
        leads = record {
          rise = rise.0;
          fall = fall.0;
          top = node.0;
          up = w.rest;
          down = v.rest;
          parts = refl {a = rise.0 ++ fall.0};
          rises = rise.1;
          falls = fall.1;
          sum = refl;
        };
        sum = meets.sum ∙ (ap (λ (d : Cost). d ⊕ meets.fall) risen ∙ (ap (λ (d : Cost). (a.cost ⊕ w.rest) ⊕ d) fallen ∙ both_parts a.cost w.rest b.cost v.rest));
        short = meets.short;
      }

  module _ (up_stopped : IsStopped up best) (down_stopped : IsStopped down best) where
    -- a walk below the best sum has a node whose two labels cost no more
    met_below : {c : Cost} → HasWalkBetween h starts ends bound c → CountsBelow bound best c → (r : ℕ) × (d : Cost) × Meets bound (costs_of up) (costs_of down) r d × (d ≼ c)
    met_below {c} walk counts = elim (both_labelled_or_open label_cost (counts_less bound best) rises falls risen fallen (subst (λ (d : Cost). CountsBelow bound best d) sum counts)) [
      | inl both ↦
          let e = has_label (mark up top) both.0 in
          let f = has_label (mark down top) both.1 in
          let less : e.0.cost ⊕ f.0.cost ≼ c = subst (λ (d : Cost). e.0.cost ⊕ f.0.cost ≼ d) (sym sum) (sum_at_most e.2 f.2) in (
            top,
            e.0.cost ⊕ f.0.cost,
            record {
              rise = e.0.cost;
              fall = f.0.cost;
              risen = cost_is up top e.1;
              fallen = cost_is down top f.1;
              sum = refl;
              short = no_longer_at_most less walk.short;
            },
            less,
          )
      | inr opened ↦ elim opened [
        | inl rose ↦ absurd (above up up_stopped rose)
        | inr fell ↦ absurd (above down down_stopped fell)
      ]
    ]
      where
        top : ℕ
        top = rank_of h walk.leads.top

        rise : Cost
        rise = walk.start.cost ⊕ walk.leads.up

        fall : Cost
        fall = walk.stop.cost ⊕ walk.leads.down

        sum : c ≡ (walk.start.cost ⊕ walk.leads.up) ⊕ (walk.stop.cost ⊕ walk.leads.down)
        sum = walk.sum ∙ (ap (λ (d : Cost). cost_between walk.start d walk.stop) walk.leads.sum ∙ sym (both_parts walk.start.cost walk.leads.up walk.stop.cost walk.leads.down))

        risen : StartedWalk (LinkArc h Rise) (IsSeedAt h starts) (rank_of h walk.leads.top) (walk.start.cost ⊕ walk.leads.up)
        risen = record {
          start = rank_of h walk.start.node;
          first = walk.start.cost;
          begins = record { seed = walk.start; among = walk.begins; rank = refl; cost = refl };
          rest = walk.leads.up;
          walk = rise-walk walk.leads.rises;
          sum = refl;
        }

        fallen : StartedWalk (LinkArc h Fall) (IsSeedAt h ends) (rank_of h walk.leads.top) (walk.stop.cost ⊕ walk.leads.down)
        fallen = record {
          start = rank_of h walk.stop.node;
          first = walk.stop.cost;
          begins = record { seed = walk.stop; among = walk.stops; rank = refl; cost = refl };
          rest = walk.leads.down;
          walk = fall-walk walk.leads.falls;
          sum = refl;
        }

        -- but no open node is below the best sum
        above : (marks : List (Mark Label)) → IsStopped marks best → HasOpen label_cost (mark marks) ((walk.start.cost ⊕ walk.leads.up) ⊕ (walk.stop.cost ⊕ walk.leads.down)) → ⊥
        above marks stopped is =
            let limit = stopped is.node is.label is.opens in
            below_not_at_most (counts.below limit.0 limit.1) (at_most_trans limit.2 (subst (λ (d : Cost). is.label.cost ≼ d) (sym sum) is.at_most))

some_same : {b a : Cost} → Some b ≡ Some a → b ≡ a
some_same is = cc

some_none : {a : Cost} → None ≡ Some a → ⊥
some_none is = cc

pub stop_right : StopIsRight
stop_right h starts ends bound up down None made begins stops rises falls up_stopped down_stopped is = λ c walk.
    let counts : CountsBelow bound None c = record { short = walk.short; below = λ b none_is. absurd (some_none none_is) } in
    let met = met_below made begins stops up down rises falls up_stopped down_stopped walk counts in
    is met.1 (met.0, met.2)
stop_right h starts ends bound up down (Some b) made begins stops rises falls up_stopped down_stopped is = (
  meeting_walk made begins stops up down rises falls is.0.0 is.0.1,
  λ d walk. elim (cases_cost d b) [
    | inl below ↦
        let counts : CountsBelow bound (Some b) d = record { short = walk.short; below = λ a same. subst (λ (e : Cost). d ≺ e) (some_same same) below } in
        let met = met_below made begins stops up down rises falls up_stopped down_stopped walk counts in
        at_most_trans (is.1 met.1 (met.0, met.2)) met.3
    | inr most ↦ most
  ],
)
