-- Ways to a rank, by their last link: the least climb, and the least over each link that falls to it.
use Rattle.std.proofs.Common.{ℕ, ◌≡◌, ◌+◌, ◌<◌, ◌≤◌, ◌⊎◌, List, slice_index, ap, refl, sym, subst, ◌∙◌, inl, inr, arith}
use Rattle.std.proofs.lemmas.Bool.{cases_lt}
use Rattle.ch_cost.specs.declared.cost.Cost.{Cost}
use Rattle.ch_cost.specs.Cost.{zero_cost, ◌⊕◌, ◌≼◌, length_of, IsNoLonger}
use Rattle.ch_cost.specs.Cost.Laws.{sum_assoc, sum_comm, sum-zero_cost, at_most_refl, sum_at_most, at_most_sum_right, no_longer_at_most}
use Rattle.ch_graph.specs.Hierarchy.{Hierarchy}
use Rattle.ch_graph.specs.Searching.{StartedWalk}
use Rattle.ch_graph.specs.Walk.{Walk, Walk.stay, Walk.go}
use Rattle.ch_query.specs.declared.seed.Seed.{Seed}
use Rattle.ch_query.specs.declared.side.Side.TheVariants.{Rise, Fall as falling}
use Rattle.ch_query.specs.Climb.{head_rank, cost_at}
use Rattle.ch_query.specs.Searching.{LinkArc}
use Rattle.ch_query.specs.Seeds.{IsSeedAt}
use Rattle.ch_query.specs.Ways.{IsClimb, IsWay, FallsTo}
use Rattle.ch_table.specs.Labels.{IsLabel}
use Rattle.ch_table.proofs.LeastLabels.{IsOver, label-same, label-less, label-stays}

-- a way over the link at a place
abbrev pub IsWayOver : Hierarchy → List Seed → Cost → ℕ → Cost → Type 0
IsWayOver h starts bound k c = IsOver (IsWay h starts bound (head_rank h falling k)) bound (cost_at h k) c

-- a climb, or a way over one of the first n links
abbrev pub Comes : Hierarchy → List Seed → Cost → ℕ → List ℕ → ℕ → Cost → Type 0
Comes h starts bound r links n c = IsClimb h Rise starts bound r c ⊎ ((j : ℕ) × (j < n) × IsWayOver h starts bound (slice_index links j) c)

module _ (h : Hierarchy) (starts : List Seed) (bound : Cost) where
  -- a way over a link that falls to a rank is a way to that
  way-over : (r k : ℕ) (c : Cost) → FallsTo h r k → IsWayOver h starts bound k c → IsWay h starts bound r c
  way-over r k c to over =
      let way : IsWay h starts bound (head_rank h falling k) over.rest = over.has in
      let arc : LinkArc h falling r (head_rank h falling k) (cost_at h k) = record { link = k; leads = record { climbs = to.falls; foot = to.to; head = refl }; cost = refl } in
      record {
        top = way.top;
        up = way.up;
        rise = way.rise;
        down = cost_at h k ⊕ way.down;
        fall = go arc way.fall;
        sum = over.sum ∙ (ap (λ (d : Cost). d ⊕ cost_at h k) way.sum ∙ (sum_assoc way.up way.down (cost_at h k) ∙ ap (λ (d : Cost). way.up ⊕ d) (sum_comm way.down (cost_at h k))));
        short = over.short;
      }

  -- and each way is a climb, or comes over some link
  by_fall : {r top : ℕ} {up down : Cost} (c : Cost) → StartedWalk (LinkArc h Rise) (IsSeedAt h starts) top up → Walk (LinkArc h falling) r top down → c ≡ up ⊕ down → IsNoLonger c bound
      → IsClimb h Rise starts bound r c ⊎ ((k : ℕ) × FallsTo h r k × IsWayOver h starts bound k c)
  by_fall {up = up} c rise (stay {x}) sum short = inl (record {
    climb = subst (λ (d : Cost). StartedWalk (LinkArc h Rise) (IsSeedAt h starts) x d) (sym (sum ∙ sum-zero_cost up)) rise;
    short = short;
  })
  by_fall {r = r} {top = top} {up = up} c rise (go {y = y} {c = a} {d = d} arc rest) sum short =
      let moved : (up ⊕ d) ⊕ a ≡ up ⊕ (a ⊕ d) = sum_assoc up d a ∙ ap (λ (e : Cost). up ⊕ e) (sum_comm d a) in
      let less : up ⊕ d ≼ c = subst (λ (e : Cost). up ⊕ d ≼ e) (sym sum) (sum_at_most (at_most_refl up) (at_most_sum_right a d)) in
      inr (
        arc.link,
        record { falls = arc.leads.climbs; to = arc.leads.foot },
        record {
          rest = up ⊕ d;
          has = record {
            top = top;
            up = up;
            rise = rise;
            down = d;
            fall = subst (λ q. Walk (LinkArc h falling) q top d) (sym arc.leads.head) rest;
            sum = refl;
            short = no_longer_at_most less short;
          };
          sum = sum ∙ (sym moved ∙ ap (λ (e : Cost). (up ⊕ d) ⊕ e) (sym arc.cost));
          short = short;
        },
      )

  climb-way : (r : ℕ) (c : Cost) → IsClimb h Rise starts bound r c → IsWay h starts bound r c
  climb-way r c climb = record { top = r; up = c; rise = climb.climb; down = zero_cost; fall = stay; sum = sym (sum-zero_cost c); short = climb.short }

  module _ (r : ℕ) (links : List ℕ) where
    -- where no link was looked at
    pub comes-none : {n : ℕ} → IsLabel (IsClimb h Rise starts bound r) bound n → IsLabel (Comes h starts bound r links 0) bound n
    comes-none label = label-same (λ c climb. inl climb) (λ c comes. elim comes [ inl climb ↦ climb | inr over ↦ absurd (omega (arith, over.1)) ]) label

    comes-short : (i : ℕ) (c : Cost) → Comes h starts bound r links i c → IsNoLonger c bound
    comes-short i c comes = elim comes [ inl climb ↦ climb.short | inr over ↦ over.2.short ]

    comes-next : (i : ℕ) {n : ℕ} → IsLabel (λ (c : Cost). Comes h starts bound r links i c ⊎ IsWayOver h starts bound (slice_index links i) c) bound n → IsLabel (Comes h starts bound r links (i + 1)) bound n
    comes-next i label = label-same there back label
      where
        there : (c : Cost) → Comes h starts bound r links i c ⊎ IsWayOver h starts bound (slice_index links i) c → Comes h starts bound r links (i + 1) c
        there c both = elim both [
          | inl before ↦ elim before [ inl climb ↦ inl climb | inr over ↦ inr (over.0, omega (arith, over.1), over.2) ]
          | inr over ↦ inr (i, omega arith, over)
        ]

        back : (c : Cost) → Comes h starts bound r links (i + 1) c → Comes h starts bound r links i c ⊎ IsWayOver h starts bound (slice_index links i) c
        back c comes = elim comes [
          | inl climb ↦ inl (inl climb)
          | inr over ↦ elim (cases_lt over.0 i) [
            | inl before ↦ inl (inr (over.0, before, over.2))
            | inr last ↦
                let same : over.0 ≡ i = omega (arith, over.1, last) in
                inr (subst (λ j. IsWayOver h starts bound (slice_index links j) c) same over.2)
          ]
        ]

    module _ (i : ℕ) {n m sum : ℕ} (here : IsLabel (Comes h starts bound r links i) bound n) (there : IsLabel (IsWay h starts bound (head_rank h falling (slice_index links i))) bound m) (is : sum ≡ m + length_of (cost_at h (slice_index links i))) where
      pub comes-less : sum < n → IsLabel (Comes h starts bound r links (i + 1)) bound sum
      comes-less less = subst (λ x. IsLabel (Comes h starts bound r links (i + 1)) bound x) (sym is) (comes-next i (label-less bound (cost_at h (slice_index links i)) n m (comes-short i) here there (omega (arith, less, is))))

      pub comes-stays : n ≤ sum → IsLabel (Comes h starts bound r links (i + 1)) bound n
      comes-stays more = comes-next i (label-stays bound (cost_at h (slice_index links i)) n m (comes-short i) here there (omega (arith, more, is)))

    -- where all links were that fall to the rank
    pub comes-all : (count : ℕ) {n : ℕ} → ((j : ℕ) → j < count → FallsTo h r (slice_index links j)) → ((k : ℕ) → FallsTo h r k → (j : ℕ) × (j < count) × (slice_index links j ≡ k))
        → IsLabel (Comes h starts bound r links count) bound n → IsLabel (IsWay h starts bound r) bound n
    comes-all count only each label = label-same there back label
      where
        there : (c : Cost) → Comes h starts bound r links count c → IsWay h starts bound r c
        there c comes = elim comes [ inl climb ↦ climb-way r c climb | inr over ↦ way-over r (slice_index links over.0) c (only over.0 over.1) over.2 ]

        back : (c : Cost) → IsWay h starts bound r c → Comes h starts bound r links count c
        back c way = elim (by_fall c way.rise way.fall way.sum way.short) [
          | inl climb ↦ inl climb
          | inr over ↦
              let at = each over.0 over.1 in
              inr (at.0, at.1, subst (λ k. IsWayOver h starts bound k c) (sym at.2) over.2)
        ]
