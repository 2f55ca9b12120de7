-- A query from one node to one other, each at no cost: its walks are those between the two nodes.
use Rattle.std.proofs.Common.{ℕ, ◌≡◌, ◌<◌, zero, suc, List, [], ◌∷◌, length, get_or, Option, Some, None, Contains, ap, refl, sym, subst, ◌∙◌, arith}
use Rattle.ch_cost.specs.declared.cost.Cost.{Cost}
use Rattle.ch_cost.specs.Cost.{zero_cost, ◌⊕◌, IsSummable}
use Rattle.ch_cost.specs.Cost.Laws.{zero_cost-sum, sum-zero_cost, summable-from_in_limit}
use Rattle.ch_graph.specs.declared.hierarchy.LinkId.{LinkId}
use Rattle.ch_graph.specs.Hierarchy.{Hierarchy, IsWellMade, IsRiseFall, HasRiseFall, IsValue}
use Rattle.ch_graph.specs.Unfolding.{Joined}
use Rattle.ch_query.specs.declared.seed.Seed.{Seed}
use Rattle.ch_query.specs.Places.{IsRiseFallAt}
use Rattle.ch_query.specs.Ways.{free}
use Rattle.ch_query.specs.Seeds.Laws.{seed-node, seeds-none, seeds-cons}
use Rattle.ch_query.specs.Seeds.{AreSeeds, HasWalkBetween, IsValueBetween, IsWalkBetween, cost_between}
use Rattle.ch_query.proofs.SeedPlaces.{among-from_get}
use Rattle.ch_query.proofs.OneTurn.{bound_in_limit}

abbrev pub only : ℕ → List Seed
only v = free v ∷ []

pub free-seeds : {h : Hierarchy} {v : ℕ} → v < length h.ranks → AreSeeds h (only v)
free-seeds {h} {v} low = seeds-cons h (free v) [] (seed-node h v low) (seeds-none h)

same_at : {v k : ℕ} {seed : Seed} → k < 1 → get_or (only v) k seed ≡ seed → seed ≡ free v
same_at {k = zero} low is = sym is
same_at {k = suc k} low is = absurd (omega (arith, low))

pub same_seed : {v : ℕ} {seed : Seed} → Contains (only v) seed → seed ≡ free v
same_seed among = same_at among.1 among.2

free_cost : (w : Cost) → (zero_cost ⊕ w) ⊕ zero_cost ≡ w
free_cost w = sum-zero_cost (zero_cost ⊕ w) ∙ zero_cost-sum w

-- what a walk between two such seeds costs is its own
own_way : {s t : ℕ} {start stop : Seed} {way c : Cost} → start ≡ free s → stop ≡ free t → c ≡ cost_between start way stop → way ≡ c
own_way {s} {stop} {way} from to sum = sym (sum ∙ (ap (λ (p : Seed). cost_between p way stop) from ∙ (ap (λ (q : Seed). cost_between (free s) way q) to ∙ free_cost way)))

module _ (h : Hierarchy) (s t : ℕ) where
  walk-from_between : {c : Cost} → HasWalkBetween h (only s) (only t) h.bound c → HasRiseFall h s t c
  walk-from_between walk =
      let from : walk.start ≡ free s = same_seed walk.begins in
      let to : walk.stop ≡ free t = same_seed walk.stops in
      record {
        links = walk.links;
        leads = subst (λ (d : Cost). IsRiseFall h walk.links s t d) (own_way from to walk.sum)
            (subst (λ (p : Seed). IsRiseFall h walk.links p.node t walk.way) from (subst (λ (q : Seed). IsRiseFall h walk.links walk.start.node q.node walk.way) to walk.leads));
        short = walk.short;
      }

  between-from_walk : {c : Cost} → HasRiseFall h s t c → HasWalkBetween h (only s) (only t) h.bound c
  between-from_walk {c} walk = record {
    start = free s;
    stop = free t;
    begins = (0, omega arith, refl);
    stops = (0, omega arith, refl);
    links = walk.links;
    way = c;
    leads = walk.leads;
    sum = sym (free_cost c);
    short = walk.short;
  }

  pub value-one : (v : Option Cost) → IsValueBetween h (only s) (only t) h.bound v → IsValue h s t v
  value-one None is = λ c walk. is c (between-from_walk walk)
  value-one (Some c) is = (walk-from_between is.0, λ d walk. is.1 d (between-from_walk walk))

  pub walk-one : {from to : ℕ} {places : List LinkId} {c : Cost} → IsWalkBetween h (only s) (only t) from to places c → IsRiseFallAt h places s t c × Joined h s places
  walk-one {from} {to} {places} walk =
      let start : walk.start ≡ free s = same_seed (among-from_get (only s) from walk.begins) in
      let stop : walk.stop ≡ free t = same_seed (among-from_get (only t) to walk.stops) in (
        subst (λ (d : Cost). IsRiseFallAt h places s t d) (own_way start stop walk.sum)
            (subst (λ (p : Seed). IsRiseFallAt h places p.node t walk.way) start (subst (λ (q : Seed). IsRiseFallAt h places walk.start.node q.node walk.way) stop walk.leads)),
        subst (λ (p : Seed). Joined h p.node places) start walk.joined,
      )

-- the same where the seeds and the bound are given by equations
pub value-of : (h : Hierarchy) {s t : ℕ} {a b : Seed} → a ≡ free s → b ≡ free t → {bound : Cost} → bound ≡ h.bound → (v : Option Cost) → IsValueBetween h (a ∷ []) (b ∷ []) bound v → IsValue h s t v
value-of h {s} {t} {b} start stop {bound} is_bound v value =
    let first = subst (λ (p : Seed). IsValueBetween h (p ∷ []) (b ∷ []) bound v) start value in
    let both = subst (λ (q : Seed). IsValueBetween h (only s) (q ∷ []) bound v) stop first in
    value-one h s t v (subst (λ (d : Cost). IsValueBetween h (only s) (only t) d v) is_bound both)

pub walk-of : {h : Hierarchy} {s t : ℕ} {a b : Seed} → a ≡ free s → b ≡ free t → {from to : ℕ} {places : List LinkId} {c : Cost} → IsWalkBetween h (a ∷ []) (b ∷ []) from to places c → IsRiseFallAt h places s t c × Joined h s places
walk-of {h} {s} {t} {b} start stop {from} {to} {places} {c} walk =
    let first = subst (λ (p : Seed). IsWalkBetween h (p ∷ []) (b ∷ []) from to places c) start walk in
    walk-one h s t (subst (λ (q : Seed). IsWalkBetween h (only s) (q ∷ []) from to places c) stop first)

pub seeds-of : {h : Hierarchy} {s : ℕ} {a : Seed} → a ≡ free s → s < length h.ranks → AreSeeds h (a ∷ [])
seeds-of {h} start low = subst (λ (p : Seed). AreSeeds h (p ∷ [])) (sym start) (free-seeds low)

pub bound-of : {h : Hierarchy} → IsWellMade h → {bound : Cost} → bound ≡ h.bound → IsSummable bound
bound-of made is = subst IsSummable (sym is) (summable-from_in_limit (bound_in_limit made))
