-- What a contraction does to rows.
use Rattle.std.proofs.Common.{ℕ, ◌≡◌, ◌≢◌, ◌<◌, ◌⊎◌, ◌↔◌, List, [], ◌∷◌, ◌++◌, length, get_or, Option, Some, Contains, refl, sym, ◌∙◌, ap, subst, inl, inr}
use Rattle.std.proofs.lemmas.Bool.{cases_eq}
use Rattle.std.proofs.lemmas.List.Elements.{All-push}
use Rattle.ch_cost.specs.declared.cost.Cost.{Cost}
use Rattle.ch_cost.specs.Cost.{zero_cost, ◌≺◌}
use Rattle.ch_cost.specs.Cost.Laws.{at_most_sum_left, below_trans_at_most}
use Rattle.ch_laws.specs.Contraction.{State, StateArc, Before, IsAlive, HasArc, Shortcut, IsFor, NoShortcut, IsPlan, IsNeighbour, contracted, or_else}
use Rattle.ch_laws.specs.Rows.{Entry, Row, arc_of, IsPlain, IsPlainArc, IsRow, IsOfShortcut, IsChanged, AreRows, AreUpdated, row_at}
use Rattle.ch_laws.specs.Theorems.{RowsGoOn}
use Rattle.ch_laws.proofs.ContractionOrder.{before-contains, before-push, before-last, before-back, place-kept, place-last}
use Rattle.ch_laws.proofs.OneContraction.{one_arc_there, find_shortcut}
use Rattle.ch_laws.proofs.LawfulRuns.{no_shortcut_arc, its_shortcut_arc}
use Rattle.ch_laws.proofs.NextStep.{cases_neighbour}

-- two equivalences, one after the other
chain_iff : {P Q R : Type 0} → P ↔ Q → Q ↔ R → P ↔ R
chain_iff f h = (λ p. h.0 (f.0 p), λ r. f.1 (h.1 r))

-- Lists of entries before and after one contraction

-- the entries of x for these arcs to or from others, but for those of nodes that come before it
abbrev Lists : List ℕ → ℕ → (ℕ → Option StateArc) → List Entry → Type 0
Lists order x arc es = (e : Entry) → Contains es e ↔ ((arc e.other ≡ arc_of e) × (Before order e.other x → ⊥))

-- a list stays right where no arc changes, and where an alive node has none to or from the contracted one
lists-kept : (order : List ℕ) (v x : ℕ) (arc new : ℕ → Option StateArc) (es : List Entry)
    → Lists order x arc es → ((y : ℕ) → new y ≡ arc y)
    → ((Contains order x → ⊥) → (e : Entry) → e.other ≡ v → arc e.other ≡ arc_of e → ⊥)
    → Lists (order ++ v ∷ []) x new es
lists-kept order v x arc new es old same far e = (
  λ h.
      let before = (old e).0 h in (
        same e.other ∙ before.0,
        λ b. elim (before-back order v b) [
          | inl earlier ↦ before.1 earlier
          | inr last ↦ far last.1 e last.0 before.0
        ],
      ),
  λ h. (old e).1 (sym (same e.other) ∙ h.0, λ b. h.1 (before-push v b)),
)

-- a changed list is right: it has the entries of shortcuts, and the old ones of other pairs and nodes
lists-changed : (order : List ℕ) (v x : ℕ) (arc new : ℕ → Option StateArc) (old_es new_es : List Entry) (Short : Entry → Type 0) (Without : ℕ → Type 0)
    → Lists order x arc old_es → (Contains order x → ⊥) → v ≢ x
    → ((e : Entry) → Short e → (new e.other ≡ arc_of e) × (Contains order e.other → ⊥) × (e.other ≢ v))
    → ((y : ℕ) → Without y → new y ≡ arc y)
    → ((e : Entry) → new e.other ≡ arc_of e → Short e ⊎ Without e.other)
    → ((e : Entry) → Contains new_es e ↔ (Short e ⊎ (Without e.other × (e.other ≢ v) × Contains old_es e)))
    → Lists (order ++ v ∷ []) x new new_es
lists-changed order v x arc new old_es new_es Short Without old alive apart short kept find changed e = (
  λ h. elim ((changed e).0 h) [
    | inl is ↦
        let facts = short e is in (
          facts.0,
          λ b. elim (before-back order v b) [
            | inl earlier ↦ facts.1 (before-contains earlier)
            | inr last ↦ facts.2 last.0
          ],
        )
    | inr is ↦
        let before = (old e).0 is.2 in (
          kept e.other is.0 ∙ before.0,
          λ b. elim (before-back order v b) [
            | inl earlier ↦ before.1 earlier
            | inr last ↦ is.1 last.0
          ],
        )
  ],
  λ h. (changed e).1 (elim (find e h.0) [
    | inl is ↦ inl is
    | inr none ↦ inr (
      none,
      λ same. h.1 (subst (λ y. Before (order ++ v ∷ []) y x) (sym same) (before-last order v x alive apart)),
      (old e).1 (sym (kept e.other none) ∙ h.0, λ b. h.1 (before-push v b)),
    )
  ]),
)

-- Ranks

-- what a row has at a rank
abbrev RankIs : List ℕ → ℕ → Option ℕ → Type 0
RankIs order x rank = (k : ℕ) → (rank ≡ Some k) ↔ ((k < length order) × (get_or order k 0 ≡ x))

-- the contracted node's rank is how many were contracted before it
rank-last : (order : List ℕ) (v : ℕ) → (Contains order v → ⊥) → RankIs (order ++ v ∷ []) v (Some (length order))
rank-last order v waits k = chain_iff (λ same. let place : length order ≡ k = cc in place, λ same. ap (λ n. Some n) same) (place-last order v k waits)

-- another node keeps its rank, or has none still
rank-kept : (order : List ℕ) (v x : ℕ) (rank : Option ℕ) → x ≢ v → RankIs order x rank → RankIs (order ++ v ∷ []) x rank
rank-kept order v x rank apart old k = chain_iff (old k) (place-kept order v x k apart)

-- Rows

-- the arc that an entry describes
has_arc : (s : State) (x y : ℕ) (e : Entry) → s.arc x y ≡ arc_of e → HasArc s x y e.cost
has_arc s x y e here = record { arc = record { cost = e.cost; middle = e.middle }; here = here; costs = refl }

module _ (bound : Cost) (s : State) (v : ℕ) (put : List Shortcut) (plain : IsPlain bound s) (plan : IsPlan bound s v put) where
  abbrev after : State
  after = contracted s v put

  -- the arc of a pair with a shortcut, and of one without
  put-arc : (u w : ℕ) (p : Shortcut) → Contains put p → IsFor p u w → after.arc u w ≡ Some (record { cost = p.cost; middle = Some v })
  put-arc u w p among joins =
      let here : after.arc p.from p.to ≡ Some (record { cost = p.cost; middle = Some v }) = ap (λ (o : Option StateArc). or_else o (s.arc p.from p.to)) (its_shortcut_arc put v p plan.once among) in
      subst (λ n. after.arc u n ≡ Some (record { cost = p.cost; middle = Some v })) joins.1
      (subst (λ n. after.arc n p.to ≡ Some (record { cost = p.cost; middle = Some v })) joins.0 here)

  kept-arc : (u w : ℕ) → NoShortcut put u w → after.arc u w ≡ s.arc u w
  kept-arc u w none = ap (λ (o : Option StateArc). or_else o (s.arc u w)) (no_shortcut_arc put v u w none)

  -- the ends of a shortcut are neighbours
  from_neighbour : (p : Shortcut) → Contains put p → IsNeighbour s v p.from
  from_neighbour p among =
      let first = (plan.allowed p among).through.first in
      record { alive = first.from_alive; joined = inr (_, first.arc) }

  to_neighbour : (p : Shortcut) → Contains put p → IsNeighbour s v p.to
  to_neighbour p among =
      let second = (plan.allowed p among).through.second in
      record { alive = second.to_alive; joined = inl (_, second.arc) }

  -- and these aren't v
  neighbour_apart : {x : ℕ} → IsNeighbour s v x → x ≢ v
  neighbour_apart {x} near same = elim near.joined [
    | inl has ↦ (plain.arcs v x has.1.arc has.1.here).apart (sym same)
    | inr has ↦ (plain.arcs x v has.1.arc has.1.here).apart same
  ]

  itself_far : IsNeighbour s v v → ⊥
  itself_far near = neighbour_apart near refl

  -- a node that isn't a neighbour gets no shortcut
  none_from : (x y : ℕ) → (IsNeighbour s v x → ⊥) → NoShortcut put x y
  none_from x y far p among joins = far (subst (λ z. IsNeighbour s v z) joins.0 (from_neighbour p among))

  none_to : (x y : ℕ) → (IsNeighbour s v y → ⊥) → NoShortcut put x y
  none_to x y far p among joins = far (subst (λ z. IsNeighbour s v z) joins.1 (to_neighbour p among))

  -- a row without shortcuts keeps its entries
  out-kept : {x : ℕ} {r : Row} → (IsNeighbour s v x → ⊥) → IsRow s x r → Lists (s.order ++ v ∷ []) x (λ y. after.arc x y) r.out
  out-kept {x} {r} far row = lists-kept s.order v x (λ y. s.arc x y) (λ y. after.arc x y) r.out row.out (λ y. kept-arc x y (none_from x y far)) (λ waits e same is.
      let arc = has_arc s x v e (subst (λ y. s.arc x y ≡ arc_of e) same is) in
      far (record { alive = record { in_range = (plain.arcs x v arc.arc arc.here).from_in; waits = waits }; joined = inr (e.cost, arc) }))

  inn-kept : {x : ℕ} {r : Row} → (IsNeighbour s v x → ⊥) → IsRow s x r → Lists (s.order ++ v ∷ []) x (λ y. after.arc y x) r.inn
  inn-kept {x} {r} far row = lists-kept s.order v x (λ y. s.arc y x) (λ y. after.arc y x) r.inn row.inn (λ y. kept-arc y x (none_to y x far)) (λ waits e same is.
      let arc = has_arc s v x e (subst (λ y. s.arc y x ≡ arc_of e) same is) in
      far (record { alive = record { in_range = (plain.arcs v x arc.arc arc.here).to_in; waits = waits }; joined = inl (e.cost, arc) }))

  -- The row of the contracted node keeps its entries and gets its rank.
  row-contracted : {r : Row} → IsRow s v r → IsRow after v (record r { rank = Some (length s.order) })
  row-contracted {r} row = record {
    rank = rank-last s.order v plan.alive.waits;
    out_rises = row.out_rises;
    inn_rises = row.inn_rises;
    out = out-kept itself_far row;
    inn = inn-kept itself_far row;
  }

  -- The row of a node that is neither the contracted one nor a neighbour stays.
  row-kept : {x : ℕ} {r : Row} → x ≢ v → (IsNeighbour s v x → ⊥) → IsRow s x r → IsRow after x r
  row-kept {x} {r} apart far row = record {
    rank = rank-kept s.order v x r.rank apart row.rank;
    out_rises = row.out_rises;
    inn_rises = row.inn_rises;
    out = out-kept far row;
    inn = inn-kept far row;
  }

  -- what the entry of a shortcut says, and which entries are those of shortcuts
  entry_arc : {u w : ℕ} {e : Entry} → IsOfShortcut put v u w e → after.arc u w ≡ arc_of e
  entry_arc {u} {w} {e} is =
      put-arc u w is.shortcut is.among is.joins
      ∙ ap (λ (c : Cost). Some (record { cost = c; middle = Some v })) (sym is.cost)
      ∙ ap (λ (m : Option ℕ). Some (record { cost = e.cost; middle = m })) (sym is.middle)

  find_entry : (u w : ℕ) (e : Entry) → after.arc u w ≡ arc_of e → IsOfShortcut put v u w e ⊎ NoShortcut put u w
  find_entry u w e is = elim (find_shortcut put u w) [
    | inr none ↦ inr none
    | inl found ↦
        let p : Shortcut = found.shortcut in
        let same = one_arc_there (record { cost = e.cost; middle = e.middle }) (record { cost = p.cost; middle = Some v }) is (put-arc u w p found.among found.joins) in
        inl (record { shortcut = p; among = found.among; joins = found.joins; cost = ap (λ (a : StateArc). a.cost) same; middle = ap (λ (a : StateArc). a.middle) same })
  ]

  -- The changed row of an alive node is its row.
  row-changed : {x : ℕ} {r q : Row} → IsAlive s x → x ≢ v → IsRow s x r → IsChanged put v x r q → IsRow after x q
  row-changed {x} {r} {q} alive other row change =
      let apart : v ≢ x = λ same. other (sym same) in
      record {
        rank = subst (λ (k : Option ℕ). RankIs (s.order ++ v ∷ []) x k) (sym change.rank) (rank-kept s.order v x r.rank other row.rank);
        out_rises = change.out_rises;
        inn_rises = change.inn_rises;
        out = lists-changed s.order v x (λ y. s.arc x y) (λ y. after.arc x y) r.out q.out (λ e. IsOfShortcut put v x e.other e) (λ y. NoShortcut put x y)
            row.out alive.waits apart
            (λ e is.
            let near = subst (λ y. IsNeighbour s v y) is.joins.1 (to_neighbour is.shortcut is.among) in
            (entry_arc is, near.alive.waits, neighbour_apart near))
            (λ y none. kept-arc x y none) (λ e is. find_entry x e.other e is) change.out;
        inn = lists-changed s.order v x (λ y. s.arc y x) (λ y. after.arc y x) r.inn q.inn (λ e. IsOfShortcut put v e.other x e) (λ y. NoShortcut put y x)
            row.inn alive.waits apart
            (λ e is.
            let near = subst (λ y. IsNeighbour s v y) is.joins.0 (from_neighbour is.shortcut is.among) in
            (entry_arc is, near.alive.waits, neighbour_apart near))
            (λ y none. kept-arc y x none) (λ e is. find_entry e.other x e is) change.inn;
      }

  -- The next state is plain.
  put-plain : (x y : ℕ) (p : Shortcut) → Contains put p → IsFor p x y → IsPlainArc s.nodes bound x y (record { cost = p.cost; middle = Some v })
  put-plain x y p among joins =
      let allowed = plan.allowed p among in
      let through = allowed.through in
      let first = plain.arcs p.from v through.first.arc.arc through.first.arc.here in
      let into_above = subst (λ (c : Cost). zero_cost ≺ c) through.first.arc.costs first.above in
      let above = subst (λ (c : Cost). zero_cost ≺ c) (sym through.adds) (below_trans_at_most into_above (at_most_sum_left through.into through.out)) in
      subst (λ z. IsPlainArc s.nodes bound z y (record { cost = p.cost; middle = Some v })) joins.0
      (subst (λ z. IsPlainArc s.nodes bound p.from z (record { cost = p.cost; middle = Some v })) joins.1
      (record { from_in = through.first.from_alive.in_range; to_in = through.second.to_alive.in_range; apart = through.apart; above = above; within = allowed.within }))

  after-plain : IsPlain bound after
  after-plain = record {
    in_range = All-push (λ x. x < s.nodes) s.order v plain.in_range plan.alive.in_range;
    arcs = λ x y arc is. elim (find_shortcut put x y) [
      | inr none ↦ plain.arcs x y arc (sym (kept-arc x y none) ∙ is)
      | inl found ↦ subst (λ (a : StateArc). IsPlainArc s.nodes bound x y a)
          (one_arc_there (record { cost = found.shortcut.cost; middle = Some v }) arc (put-arc x y found.shortcut found.among found.joins) is)
          (put-plain x y found.shortcut found.among found.joins)
    ];
  }

  -- All rows

  rows-next : {old new : List Row} → AreRows s old → AreUpdated s put v old new → AreRows after new
  rows-next {old} {new} are updated = record {
    many = updated.many ∙ are.many;
    each = λ x low.
        let was : IsRow s x (row_at old x) = are.each x low in
        elim (cases_eq x v) [
          | inl same ↦
              let row : IsRow after v (record (row_at old v) { rank = Some (length s.order) }) = row-contracted (are.each v plan.alive.in_range) in
              subst (λ n. IsRow after n (row_at new n)) (sym same) (subst (λ (r : Row). IsRow after v r) (sym updated.contracted) row)
          | inr apart ↦ elim (cases_neighbour s v x) [
            | inl near ↦ row-changed near.alive apart was (updated.neighbours x near)
            | inr far ↦ subst (λ (r : Row). IsRow after x r) (sym (updated.others x apart far)) (row-kept apart far was)
          ]
        ];
  }

-- and the law of all rows
pub rows_go_on : RowsGoOn
rows_go_on bound s v put old new plain plan are updated = (rows-next bound s v put plain plan are updated, after-plain bound s v put plain plan)
