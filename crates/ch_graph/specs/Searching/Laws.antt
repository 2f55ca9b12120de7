-- The laws of a search by marks: its start, a turn, and what is known of walks in between.
use Rattle.std.proofs.Common.{◌≡◌, ℕ, ◌⊎◌, ap, refl, sym, subst, ◌∙◌, inl, inr}
use Rattle.ch_cost.specs.declared.cost.Cost.{Cost}
use Rattle.ch_cost.specs.Cost.{zero_cost, ◌⊕◌, ◌≼◌}
use Rattle.ch_cost.specs.Cost.Laws.{sum_assoc, zero_cost-sum, sum-zero_cost, at_most_refl, at_most_trans, at_most_sum_left, at_most_sum_right, sum_at_most}
use Rattle.ch_graph.specs.declared.mark.Mark.{Mark}
use Rattle.ch_graph.specs.declared.mark.Mark.TheVariants.{Unseen, Open, Settled}
use Rattle.ch_graph.specs.Walk.{Walk, stay, go}
use Rattle.ch_graph.specs.Marks.{HasLabel, IsAtMost, Improves, IsPut, NoneOpen}
use Rattle.ch_graph.specs.Searching.{Arcs, Order, LeadsTo, Beginning, Only, StartedWalk, IsOrder, IsDownward, IsLatest, IsLeastOpen, IsFollowed, IsSearch, IsOpenedBy, IsTurn}
use Rattle.ch_graph.specs.Walk.Laws.{one_arc, join}
use Rattle.ch_graph.specs.Marks.Laws.{cases_put, label_open, label_settled, label_cases, unseen-label, one_label, unseen-settled, open-settled, open-open, settled-settled, at_most-label, at_most-from_label, at_most-more, improves-below, improves-not_settled}

-- Nodes are opened

module _ {L : Type 0} (cost : L → Cost) (IsNew : ℕ → L → Type 0) where
  -- none yet
  pub opened-none : (marks : ℕ → Mark L) → IsOpenedBy cost IsNew marks marks
  opened-none marks = record {
    stays = λ u d is. is;
    settled = λ u d is. is;
    opened = λ u d is. inl is;
    kept = λ u c most. most;
  }

  -- some, and then others
  pub opened-more : {old mid new : ℕ → Mark L} → IsOpenedBy cost IsNew old mid → IsOpenedBy cost IsNew mid new → IsOpenedBy cost IsNew old new
  opened-more first second = record {
    stays = λ u d is. second.stays u d (first.stays u d is);
    settled = λ u d is. first.settled u d (second.settled u d is);
    opened = λ u d is. elim (second.opened u d is) [
      | inl there ↦ first.opened u d there
      | inr this ↦ inr this
    ];
    kept = λ u c most. second.kept u c (first.kept u c most);
  }

  -- one node, with a label that costs less than what is known of it
  pub opened-one : {old new : ℕ → Mark L} (v : ℕ) (e : L) → IsNew v e → Improves cost (cost e) (old v) → IsPut old v (Open e) new → IsOpenedBy cost IsNew old new
  opened-one {old} {new} v e is_new improves put = record {
    stays = λ u d is. elim (cases_put put u) [
      | inl w ↦ absurd (improves-not_settled cost (old v) (cost e) d improves (subst (λ n. old n ≡ Settled d) w.at is))
      | inr k ↦ k.reads ∙ is
    ];
    settled = λ u d is. elim (cases_put put u) [
      | inl w ↦ absurd (open-settled (sym w.reads ∙ is))
      | inr k ↦ sym k.reads ∙ is
    ];
    opened = λ u d is. elim (cases_put put u) [
      | inl w ↦
          let same : e ≡ d = open-open (sym w.reads ∙ is) in
          inr (subst (λ n. IsNew n d) (sym w.at) (subst (λ (l : L). IsNew v l) same is_new))
      | inr k ↦ inl (sym k.reads ∙ is)
    ];
    kept = λ u c most. elim (cases_put put u) [
      | inl w ↦ subst (λ (m : Mark L). IsAtMost cost m c) (sym w.reads) (improves-below cost (old v) (cost e) c improves (subst (λ n. IsAtMost cost (old n) c) w.at most))
      | inr k ↦ subst (λ (m : Mark L). IsAtMost cost m c) (sym k.reads) most
    ];
  }

-- A node is settled

module _ {L : Type 0} (cost : L → Cost) (NoLater : Order) {v : ℕ} {e : L} {old mid : ℕ → Mark L} (next : IsLeastOpen cost NoLater old v e) (put : IsPut old v (Settled e) mid) where
  pub settle-stays : (u : ℕ) (d : L) → old u ≡ Settled d → mid u ≡ Settled d
  settle-stays u d is = elim (cases_put put u) [
    | inl w ↦ absurd (open-settled (sym next.opens ∙ subst (λ n. old n ≡ Settled d) w.at is))
    | inr k ↦ k.reads ∙ is
  ]

  pub settle-settled : (u : ℕ) (d : L) → mid u ≡ Settled d → ((u ≡ v) × (e ≡ d)) ⊎ (old u ≡ Settled d)
  settle-settled u d is = elim (cases_put put u) [
    | inl w ↦ inl (w.at, settled-settled (sym w.reads ∙ is))
    | inr k ↦ inr (sym k.reads ∙ is)
  ]

  pub settle-open : (u : ℕ) (d : L) → mid u ≡ Open d → old u ≡ Open d
  settle-open u d is = elim (cases_put put u) [
    | inl w ↦ absurd (open-settled (sym is ∙ w.reads))
    | inr k ↦ sym k.reads ∙ is
  ]

  pub settle-label : (u : ℕ) (d : L) → HasLabel (mid u) d → HasLabel (old u) d
  settle-label u d has = elim (cases_put put u) [
    | inl w ↦
        let own : HasLabel (mid u) e = label_settled (mid u) e w.reads in
        let same : e ≡ d = one_label (mid u) e d own has in
        subst (λ n. HasLabel (old n) d) (sym w.at) (subst (λ (l : L). HasLabel (old v) l) same (label_open (old v) e next.opens))
    | inr k ↦ subst (λ (m : Mark L). HasLabel m d) k.reads has
  ]

  pub settle-kept : (u : ℕ) (c : Cost) → IsAtMost cost (old u) c → IsAtMost cost (mid u) c
  settle-kept u c most = elim (cases_put put u) [
    | inl w ↦ at_most-from_label cost (mid u) e c (label_settled (mid u) e w.reads) (at_most-label cost (old v) e c (label_open (old v) e next.opens) (subst (λ n. IsAtMost cost (old n) c) w.at most))
    | inr k ↦ subst (λ (m : Mark L). IsAtMost cost m c) (sym k.reads) most
  ]

  -- no node was settled later
  pub settle-latest : ((c : Cost) (u : ℕ) → NoLater c u c u) → IsLatest cost NoLater old (cost e) v → IsLatest cost NoLater mid (cost e) v
  settle-latest same latest u d is = elim (settle-settled u d is) [
    | inl this ↦ subst (λ n. NoLater (cost d) n (cost e) v) (sym this.0) (subst (λ (l : L). NoLater (cost l) v (cost e) v) this.1 (same (cost e) v))
    | inr before ↦ latest u d before
  ]

-- A turn

module _ {L : Type 0} (cost : L → Cost) (NoLater : Order) (IsNew : ℕ → L → Type 0) {v : ℕ} {e : L} {old new : ℕ → Mark L} (turn : IsTurn cost NoLater IsNew v e old new) where
  -- the node is settled with its label
  pub turn-here : new v ≡ Settled e
  turn-here = turn.opened.stays v e turn.put.here

  pub turn-stays : (u : ℕ) (d : L) → old u ≡ Settled d → new u ≡ Settled d
  turn-stays u d is = turn.opened.stays u d (settle-stays cost NoLater turn.next turn.put u d is)

  pub turn-settled : (u : ℕ) (d : L) → new u ≡ Settled d → ((u ≡ v) × (e ≡ d)) ⊎ (old u ≡ Settled d)
  turn-settled u d is = settle-settled cost NoLater turn.next turn.put u d (turn.opened.settled u d is)

  pub turn-kept : (u : ℕ) (c : Cost) → IsAtMost cost (old u) c → IsAtMost cost (new u) c
  turn-kept u c most = turn.opened.kept u c (settle-kept cost NoLater turn.next turn.put u c most)

  -- a label was there, or it is new
  pub turn-label : (u : ℕ) (d : L) → HasLabel (new u) d → HasLabel (old u) d ⊎ IsNew u d
  turn-label u d has = elim (label_cases (new u) d has) [
    | inl opens ↦ elim (turn.opened.opened u d opens) [
      | inl there ↦ inl (label_open (old u) d (settle-open cost NoLater turn.next turn.put u d there))
      | inr is_new ↦ inr is_new
    ]
    | inr closed ↦ inl (settle-label cost NoLater turn.next turn.put u d (label_settled (turn.mid u) d (turn.opened.settled u d closed)))
  ]

-- Walks from where a search begins

module _ {Arc : Arcs} where
  -- from one node at no cost they are its walks
  pub only-walk : {s v : ℕ} {c : Cost} → StartedWalk Arc (Only s) v c → Walk Arc s v c
  only-walk {s} {v} {c} started =
      let same : started.rest ≡ c = sym (zero_cost-sum started.rest) ∙ (ap (λ (d : Cost). d ⊕ started.rest) (sym started.begins.1) ∙ started.sum) in
      subst (λ n. Walk Arc n v c) started.begins.0 (subst (λ (d : Cost). Walk Arc started.start v d) same started.walk)

  pub only-started : {s v : ℕ} {c : Cost} → Walk Arc s v c → StartedWalk Arc (Only s) v c
  only-started {s} {v} {c} w = record { start = s; first = zero_cost; begins = (refl, refl); rest = c; walk = w; sum = zero_cost-sum c }

  -- one goes on over an arc
  started-more : {Begins : Beginning} {v u : ℕ} {c d : Cost} → StartedWalk Arc Begins v c → LeadsTo Arc v c u d → StartedWalk Arc Begins u d
  started-more {d = d} started to = record {
    start = started.start;
    first = started.first;
    begins = started.begins;
    rest = started.rest ⊕ to.arc;
    walk = join started.walk (one_arc to.goes);
    sum = sym (sum_assoc started.first started.rest to.arc) ∙ (ap (λ (e : Cost). e ⊕ to.arc) started.sum ∙ to.sum);
  }

-- Between turns

module _ {L : Type 0} (cost : L → Cost) {Arc : Arcs} {NoLater : Order} where
  -- A search begins with nothing settled: where it may begin at a cost that counts there is a label of no more, and each
  -- label is the cost of a beginning.
  pub search-begin : {Counts : Cost → Type 0} {Begins : Beginning} {marks : ℕ → Mark L} → ((v : ℕ) (e : L) → marks v ≡ Settled e → ⊥)
      → ((v : ℕ) (c : Cost) → Begins v c → Counts c → IsAtMost cost (marks v) c) → ((v : ℕ) (e : L) → HasLabel (marks v) e → Begins v (cost e))
      → IsSearch cost NoLater Arc Counts Begins marks
  search-begin none starts begins = record {
    starts = starts;
    walks = λ v e has. record { start = v; first = cost e; begins = begins v e has; rest = zero_cost; walk = stay; sum = sum-zero_cost (cost e) };
    ordered = λ v e is u f closed. absurd (none u f closed);
    followed = λ v e closed. absurd (none v e closed);
  }

  -- at one node alone, which is open and costs nothing
  pub search-start : {Counts : Cost → Type 0} {old new : ℕ → Mark L} (s : ℕ) (e : L) → ((u : ℕ) → old u ≡ Unseen) → IsPut old s (Open e) new → cost e ≡ zero_cost → IsSearch cost NoLater Arc Counts (Only s) new
  search-start {Counts} {old} {new} s e unseen put free = search-begin none at_start of_start
    where
      none : (u : ℕ) (d : L) → new u ≡ Settled d → ⊥
      none u d is = elim (cases_put put u) [
        | inl w ↦ open-settled (sym w.reads ∙ is)
        | inr k ↦ unseen-settled (sym (unseen u) ∙ (sym k.reads ∙ is))
      ]

      at_start : (v : ℕ) (c : Cost) → Only s v c → Counts c → IsAtMost cost (new v) c
      at_start v c is counts =
          let own : cost e ≼ c = subst (λ (d : Cost). cost e ≼ d) (free ∙ sym is.1) (at_most_refl (cost e)) in
          subst (λ n. IsAtMost cost (new n) c) (sym is.0) (at_most-from_label cost (new s) e c (label_open (new s) e put.here) own)

      of_start : (v : ℕ) (d : L) → HasLabel (new v) d → Only s v (cost d)
      of_start v d has = elim (cases_put put v) [
        | inl w ↦
            let same : e ≡ d = one_label (new v) e d (label_open (new v) e w.reads) has in
            (w.at, ap cost (sym same) ∙ free)
        | inr k ↦ absurd (unseen-label (new v) d (k.reads ∙ unseen v) has)
      ]

  -- where fewer costs count it is one too
  pub search-fewer : {Counts Fewer : Cost → Type 0} {Begins : Beginning} {marks : ℕ → Mark L} → ((c : Cost) → Fewer c → Counts c) → IsSearch cost NoLater Arc Counts Begins marks → IsSearch cost NoLater Arc Fewer Begins marks
  search-fewer fewer search = record {
    starts = λ v c begins counts. search.starts v c begins (fewer c counts);
    walks = search.walks;
    ordered = search.ordered;
    followed = λ v e is u d leads counts. search.followed v e is u d leads (fewer d counts);
  }

  -- and it stays one by a turn whose new labels are those of arcs from its node, and that follows each of these arcs
  pub search-turn : IsOrder Arc NoLater → {Counts : Cost → Type 0} {IsNew : ℕ → L → Type 0} {Begins : Beginning} {v : ℕ} {e : L}
      {old new : ℕ → Mark L} → IsSearch cost NoLater Arc Counts Begins old → IsTurn cost NoLater IsNew v e old new
      → ((u : ℕ) (d : L) → IsNew u d → LeadsTo Arc v (cost e) u (cost d)) → IsFollowed cost Arc Counts new v (cost e)
      → IsSearch cost NoLater Arc Counts Begins new
  search-turn order {Counts} {IsNew} {Begins} {v} {e} {old} {new} search turn leads followed = record {
    starts = λ u c begins counts. turn-kept cost NoLater IsNew turn u c (search.starts u c begins counts);
    walks = λ u d has. elim (turn-label cost NoLater IsNew turn u d has) [
      | inl there ↦ search.walks u d there
      | inr is_new ↦ started-more (search.walks v e (label_open (old v) e turn.next.opens)) (leads u d is_new)
    ];
    ordered = λ u d is w f closed. order.chain (cost f) (cost e) (cost d) w v u (latest w f closed) (above u d is);
    followed = λ u d is. elim (turn-settled cost NoLater IsNew turn u d is) [
      | inl this ↦ subst (λ n. IsFollowed cost Arc Counts new n (cost d)) (sym this.0) (subst (λ (l : L). IsFollowed cost Arc Counts new v (cost l)) this.1 followed)
      | inr before ↦ λ w c to counts. turn-kept cost NoLater IsNew turn w c (search.followed u d before w c to counts)
    ];
  }
    where
      latest : IsLatest cost NoLater new (cost e) v
      latest w f closed = settle-latest cost NoLater turn.next turn.put order.same (search.ordered v e turn.next.opens) w f (turn.opened.settled w f closed)

      above : (u : ℕ) (d : L) → new u ≡ Open d → NoLater (cost e) v (cost d) u
      above u d is = elim (turn.opened.opened u d is) [
        | inl there ↦ turn.next.least u d (settle-open cost NoLater turn.next turn.put u d there)
        | inr is_new ↦ order.onward (cost e) (cost d) v u (leads u d is_new)
      ]

-- What walks are known to cost

module _ {Arc : Arcs} {NoLater : Order} (order : IsOrder Arc NoLater) where
  -- what comes no later than a node that a walk leads from costs no more
  back_along : (b c : Cost) {v y u : ℕ} {a w : Cost} → Arc v y a → Walk Arc y u w → NoLater b u c v → b ≼ c ⊕ (a ⊕ w)
  back_along b c {v = v} {a = a} arc (stay {x}) before = subst (λ (d : Cost). b ≼ c ⊕ d) (sym (sum-zero_cost a)) (order.back b c (c ⊕ a) v x (record { arc = a; goes = arc; sum = refl }) before)
  back_along b c {v = v} {a = a} arc (go {x = y} {z = u} {c = f} {d = g} next rest) before =
      let onward : NoLater c v (c ⊕ a) y = order.onward c (c ⊕ a) v y (record { arc = a; goes = arc; sum = refl }) in
      let later : NoLater b u (c ⊕ a) y = order.chain b c (c ⊕ a) u v y before onward in
      subst (λ (d : Cost). b ≼ d) (sum_assoc c a (f ⊕ g)) (back_along b (c ⊕ a) next rest later)

-- an open node that a walk to v of cost c, or one that costs no more, passes
pub record PassesOpen {L : Type 0} (cost : L → Cost) (Arc : Arcs) (marks : ℕ → Mark L) (v : ℕ) (c : Cost) : Type 0 where
  pub node : ℕ
  pub label : L
  pub opens : marks node ≡ Open label
  pub left : Cost
  pub rest : Walk Arc node v left
  pub at_most : cost label ⊕ left ≼ c

-- an open node whose label costs at most c
pub record HasOpen {L : Type 0} (cost : L → Cost) (marks : ℕ → Mark L) (c : Cost) : Type 0 where
  pub node : ℕ
  pub label : L
  pub opens : marks node ≡ Open label
  pub at_most : cost label ≼ c

module _ {L : Type 0} (cost : L → Cost) {Arc : Arcs} {marks : ℕ → Mark L} where
  pub open-from_passed : {v : ℕ} {c : Cost} → PassesOpen cost Arc marks v c → HasOpen cost marks c
  open-from_passed passed = record { node = passed.node; label = passed.label; opens = passed.opens; at_most = at_most_trans (at_most_sum_left (cost passed.label) passed.left) passed.at_most }

  passes-more : {v : ℕ} {c d : Cost} → c ≼ d → PassesOpen cost Arc marks v c → PassesOpen cost Arc marks v d
  passes-more h passed = record { node = passed.node; label = passed.label; opens = passed.opens; left = passed.left; rest = passed.rest; at_most = at_most_trans passed.at_most h }

  module _ {Counts : Cost → Type 0} {NoLater : Order} {Begins : Beginning} (down : IsDownward Counts) (search : IsSearch cost NoLater Arc Counts Begins marks) where
    -- the same from a node that has a label
    from_labelled : {x v : ℕ} (d : Cost) {w : Cost} (m : Mark L) → marks x ≡ m → IsAtMost cost m d → Walk Arc x v w → Counts (d ⊕ w) → IsAtMost cost (marks v) (d ⊕ w) ⊎ PassesOpen cost Arc marks v (d ⊕ w)
    from_labelled d Unseen is most walk counts = absurd most
    from_labelled {x = x} d {w = w} (Open e) is most walk counts = inr (record { node = x; label = e; opens = is; left = w; rest = walk; at_most = sum_at_most most (at_most_refl w) })
    from_labelled d (Settled e) is most (stay {x}) counts = inl (at_most-from_label cost (marks x) e (d ⊕ zero_cost) (label_settled (marks x) e is) (at_most_trans most (at_most_sum_left d zero_cost)))
    from_labelled {v = v} d (Settled e) is most (go {x = x} {y = y} {c = a} {d = b} arc rest) counts =
        let less : (cost e ⊕ a) ⊕ b ≼ d ⊕ (a ⊕ b) = subst (λ (f : Cost). f ≼ d ⊕ (a ⊕ b)) (sym (sum_assoc (cost e) a b)) (sum_at_most most (at_most_refl (a ⊕ b))) in
        let still : Counts ((cost e ⊕ a) ⊕ b) = down ((cost e ⊕ a) ⊕ b) (d ⊕ (a ⊕ b)) less counts in
        let here : IsAtMost cost (marks y) (cost e ⊕ a) = search.followed x e is y (cost e ⊕ a) (record { arc = a; goes = arc; sum = refl }) (down (cost e ⊕ a) ((cost e ⊕ a) ⊕ b) (at_most_sum_left (cost e ⊕ a) b) still) in
        elim (from_labelled (cost e ⊕ a) (marks y) refl here rest still) [
          | inl labelled ↦ inl (at_most-more cost (marks v) ((cost e ⊕ a) ⊕ b) (d ⊕ (a ⊕ b)) labelled less)
          | inr passed ↦ inr (passes-more less passed)
        ]

    -- a walk that counts ends at a label of at most its cost, or passes an open node whose label costs no more
    pub labelled_or_open : {v : ℕ} {c : Cost} → StartedWalk Arc Begins v c → Counts c → IsAtMost cost (marks v) c ⊎ PassesOpen cost Arc marks v c
    labelled_or_open {v} {c} started counts =
        let both : Counts (started.first ⊕ started.rest) = subst (λ (d : Cost). Counts d) (sym started.sum) counts in
        let first : Counts started.first = down started.first (started.first ⊕ started.rest) (at_most_sum_left started.first started.rest) both in
        let here : IsAtMost cost (marks started.start) started.first = search.starts started.start started.first started.begins first in
        subst (λ (d : Cost). IsAtMost cost (marks v) d ⊎ PassesOpen cost Arc marks v d) started.sum (from_labelled started.first (marks started.start) refl here started.walk both)

    -- where no node is open, no walk that counts leads to a node that isn't settled
    pub none_open-no_walk : NoneOpen marks → {v : ℕ} {c : Cost} → ((e : L) → marks v ≡ Settled e → ⊥) → StartedWalk Arc Begins v c → Counts c → ⊥
    none_open-no_walk none {v} {c} unsettled walk counts = elim (labelled_or_open walk counts) [
      | inl labelled ↦ never (marks v) refl labelled
      | inr passed ↦ none passed.node passed.label passed.opens
    ]
      where
        never : (m : Mark L) → marks v ≡ m → IsAtMost cost m c → ⊥
        never Unseen is most = most
        never (Open e) is most = none v e is
        never (Settled e) is most = unsettled e is

    module _ (order : IsOrder Arc NoLater) where
      -- a node that comes no later than all open ones has a label that no walk that counts is cheaper than
      first_is_least : (v : ℕ) (e : L) → HasLabel (marks v) e → ((u : ℕ) (f : L) → marks u ≡ Open f → NoLater (cost e) v (cost f) u) → (c : Cost) → StartedWalk Arc Begins v c → Counts c → cost e ≼ c
      first_is_least v e has first c walk counts = elim (labelled_or_open walk counts) [
        | inl labelled ↦ at_most-label cost (marks v) e c has labelled
        | inr passed ↦ at_most_trans (by_rest passed.label passed.opens (first passed.node passed.label passed.opens) passed.rest) passed.at_most
      ]
        where
          by_rest : {u : ℕ} {w : Cost} (f : L) → marks u ≡ Open f → NoLater (cost e) v (cost f) u → Walk Arc u v w → cost e ≼ cost f ⊕ w
          by_rest f opens before (stay {x}) =
              let same : e ≡ f = one_label (marks x) e f has (label_open (marks x) f opens) in
              subst (λ (l : L). cost e ≼ cost l ⊕ zero_cost) same (at_most_sum_left (cost e) zero_cost)
          by_rest f opens before (go arc rest) = back_along order (cost e) (cost f) arc rest before

      -- the label of a settled node is the least of the walks that count
      pub settled_is_least : (v : ℕ) (e : L) → marks v ≡ Settled e → (c : Cost) → StartedWalk Arc Begins v c → Counts c → cost e ≼ c
      settled_is_least v e is = first_is_least v e (label_settled (marks v) e is) (λ u f opens. search.ordered u f opens v e is)

      -- and so is that of the open node that comes first
      pub least_open_is_least : (v : ℕ) (e : L) → IsLeastOpen cost NoLater marks v e → (c : Cost) → StartedWalk Arc Begins v c → Counts c → cost e ≼ c
      least_open_is_least v e next = first_is_least v e (label_open (marks v) e next.opens) next.least

-- The law of the stop: a walk of one search and a walk of another, which count together, end at two labels that cost no
-- more, or one search has an open node whose label costs no more than both walks.
module _ {L : Type 0} (cost : L → Cost) {Arc Other : Arcs} {Counts : Cost → Type 0} {NoLater : Order} {Starts Ends : Beginning} {up down : ℕ → Mark L} (downward : IsDownward Counts) (rises : IsSearch cost NoLater Arc Counts Starts up) (falls : IsSearch cost NoLater Other Counts Ends down) where
  pub both_labelled_or_open : {x y : ℕ} {c d : Cost} → StartedWalk Arc Starts x c → StartedWalk Other Ends y d → Counts (c ⊕ d) → (IsAtMost cost (up x) c × IsAtMost cost (down y) d) ⊎ (HasOpen cost up (c ⊕ d) ⊎ HasOpen cost down (c ⊕ d))
  both_labelled_or_open {x} {y} {c} {d} rise fall counts = elim (labelled_or_open cost downward rises rise (downward c (c ⊕ d) (at_most_sum_left c d) counts)) [
    | inr passed ↦ inr (inl (more (at_most_sum_left c d) (open-from_passed cost passed)))
    | inl risen ↦ elim (labelled_or_open cost downward falls fall (downward d (c ⊕ d) (at_most_sum_right c d) counts)) [
      | inr passed ↦ inr (inr (more (at_most_sum_right c d) (open-from_passed cost passed)))
      | inl fallen ↦ inl (risen, fallen)
    ]
  ]
    where
      more : {marks : ℕ → Mark L} {a b : Cost} → a ≼ b → HasOpen cost marks a → HasOpen cost marks b
      more h is = record { node = is.node; label = is.label; opens = is.opens; at_most = at_most_trans is.at_most h }
