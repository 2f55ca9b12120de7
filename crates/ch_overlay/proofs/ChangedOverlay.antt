-- An overlay after a change: its rows show the contracted state.
use Rattle.std.proofs.Common.{ℕ, ◌≡◌, ◌≢◌, ◌<◌, List, [], ◌∷◌, ◌++◌, length, get_or, set, Some, All, AllPairs, Contains, arith, refl, sym, ◌∙◌, ap, subst, inl, inr}
use Rattle.std.proofs.lemmas.List.{get_or-set_other}
use Rattle.std.proofs.lemmas.List.Elements.{All-cons, All-contains, Contains-get_or}
use Rattle.std.proofs.lemmas.List.Kept.{AllPairs-cons}
use Rattle.std.proofs.lemmas.List.Quantifiers.{all_pairs_push}
use Rattle.ch_laws.specs.declared.shortcut.Shortcut.{Shortcut}
use Rattle.ch_laws.specs.Contraction.{State, IsNeighbour, contracted}
use Rattle.ch_laws.specs.Rows.{Row, IsPlain, IsRow, IsChanged, AreRows, AreUpdated}
use Rattle.ch_laws.specs.Members.{contains_first, contains_later, contains_place, contains-map, contains-mapped}
use Rattle.ch_laws.specs.Theorems.{RowsGoOn, RowsAreState}
use Rattle.ch_overlay.specs.Overlay.{Overlay, IsOverlay, no_arcs, row_at, state_of}
use Rattle.ch_overlay.specs.Change.{Change, IsChange, puts, WritesItsRows, ChangesWriteTheirRows}
use Rattle.ch_overlay.proofs.SeveralWrites.{length-puts, puts-other, puts-here}
use Rattle.ch_overlay.proofs.EntriesOfArcs.{entries-sound}

-- the overlay after the change, with these versions
abbrev pub applied : Overlay → Change → List ℕ → Overlay
applied o c versions = record { bound = o.bound; rows = puts o.rows c.rows; versions = versions; order = o.order ++ c.node ∷ [] }

module _ (o : Overlay) (holds : IsOverlay o) (put : List Shortcut) (c : Change) (is : IsChange o put c) where
  -- the nodes of the other rows are the neighbours
  other_near : (p : ℕ × Row) → Contains is.others p → IsNeighbour (state_of o) c.node p.0
  other_near p h = (is.neighbours p.0).0 (contains-map (λ (a : ℕ × Row). a.0) is.others p h)

  other_apart : (p : ℕ × Row) → Contains is.others p → c.node ≢ p.0
  other_apart p h same = elim (other_near p h).joined [
    | inl has ↦ (holds.plain.arcs c.node p.0 has.1.arc has.1.here).apart same
    | inr has ↦ (holds.plain.arcs p.0 c.node has.1.arc has.1.here).apart (sym same)
  ]

  others_in : All (λ (a : ℕ × Row). a.0 < length o.rows) is.others
  others_in k d h = (other_near (get_or is.others k d) (Contains-get_or is.others k d h)).alive.in_range

  once : AllPairs (λ (a b : ℕ × Row). a.0 ≢ b.0) ((c.node, record (row_at o.rows c.node) { rank = Some (length o.order) }) ∷ is.others)
  once = AllPairs-cons (λ (a b : ℕ × Row). a.0 ≢ b.0) _ is.others (λ k d h. other_apart (get_or is.others k d) (Contains-get_or is.others k d h)) (λ i j d lt h. let below = is.rising i j d lt h in omega (arith, below))

  pub writes : WritesItsRows o c
  writes =
      let in_range = subst (λ (rows : List (ℕ × Row)). All (λ (a : ℕ × Row). a.0 < length o.rows) rows) (sym is.rows) (All-cons (λ (a : ℕ × Row). a.0 < length o.rows) _ is.others is.plan.alive.in_range others_in) in
      let apart = subst (λ (rows : List (ℕ × Row)). AllPairs (λ (a b : ℕ × Row). a.0 ≢ b.0) rows) (sym is.rows) once in
      record {
        in_range = in_range;
        once = apart;
        count = length-puts c.rows o.rows;
        written = λ a among. puts-here c.rows o.rows a no_arcs apart among (All-contains (λ (b : ℕ × Row). b.0 < length o.rows) c.rows a in_range among);
      }

  -- the row of a node that the change has none of stays
  unwritten : (x : ℕ) → x ≢ c.node → ((p : ℕ × Row) → Contains is.others p → p.0 ≢ x) → row_at (puts o.rows c.rows) x ≡ row_at o.rows x
  unwritten x apart none =
      ap (λ ps. row_at (puts o.rows ps) x) is.rows
      ∙ puts-other is.others (set o.rows c.node (record (row_at o.rows c.node) { rank = Some (length o.order) })) x no_arcs none
      ∙ get_or-set_other o.rows c.node x (record (row_at o.rows c.node) { rank = Some (length o.order) }) no_arcs apart

  -- the rows are updated as the contraction asks
  updated : AreUpdated (state_of o) put c.node o.rows (puts o.rows c.rows)
  updated = record {
    many = writes.count;
    contracted = writes.written (c.node, record (row_at o.rows c.node) { rank = Some (length o.order) }) (subst (λ (rows : List (ℕ × Row)). Contains rows (c.node, record (row_at o.rows c.node) { rank = Some (length o.order) })) (sym is.rows) (contains_first _ is.others));
    neighbours = λ x near.
        let found = contains-mapped (λ (a : ℕ × Row). a.0) is.others x ((is.neighbours x).1 near) in
        let p = found.0 in
        let among = subst (λ (rows : List (ℕ × Row)). Contains rows p) (sym is.rows) (contains_later _ is.others p found.1) in
        let changed = All-contains (λ (a : ℕ × Row). IsChanged put c.node a.0 (row_at o.rows a.0) a.1) is.others p is.changed found.1 in
        subst (λ n. IsChanged put c.node n (row_at o.rows n) (row_at (puts o.rows c.rows) n)) found.2
        (subst (λ (r : Row). IsChanged put c.node p.0 (row_at o.rows p.0) r) (sym (writes.written p among)) changed);
    others = λ x apart far. unwritten x apart (λ p among same. far (subst (λ n. IsNeighbour (state_of o) c.node n) same (other_near p among)));
  }

  module _ (rows_go_on : RowsGoOn) (rows_are_state : RowsAreState) where
    next : AreRows (contracted (state_of o) c.node put) (puts o.rows c.rows) × IsPlain o.bound (contracted (state_of o) c.node put)
    next = rows_go_on o.bound (state_of o) c.node put o.rows (puts o.rows c.rows) holds.plain is.plan (record { many = refl; each = holds.rows }) updated

    -- the new rows show the contracted state
    pub state-applied : (versions : List ℕ) → state_of (applied o c versions) ≡ contracted (state_of o) c.node put
    state-applied versions = rows_are_state o.bound (contracted (state_of o) c.node put) (puts o.rows c.rows) next.1 next.0

    -- and they are an overlay
    pub overlay-applied : (versions : List ℕ) → length versions ≡ length o.versions → IsOverlay (applied o c versions)
    overlay-applied versions long =
        let same = sym (state-applied versions) in
        let row = λ (x : ℕ) (inside : x < length (puts o.rows c.rows)). subst (λ (s : State). IsRow s x (row_at (puts o.rows c.rows) x)) same (next.0.each x (omega (arith, inside, writes.count))) in
        let plain = subst (λ (s : State). IsPlain o.bound s) same next.1 in
        record {
          few_nodes = omega (arith, writes.count, holds.few_nodes);
          versions = long ∙ holds.versions ∙ sym writes.count;
          once = all_pairs_push (λ x y. x ≢ y) o.order c.node holds.once (λ k d h same. is.plan.alive.waits (contains_place o.order k d c.node h same));
          plain = plain;
          rows = row;
          entries = λ x inside. entries-sound o.bound (state_of (applied o c versions)) x (row_at (puts o.rows c.rows) x) plain (row x inside);
        }

-- the law of the rows of a change
pub changes_write : ChangesWriteTheirRows
changes_write o c holds of = writes o holds of.0 c of.1
