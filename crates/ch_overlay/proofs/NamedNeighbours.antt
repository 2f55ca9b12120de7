-- The neighbours of a node, by its row, and the change that new rows which fit make.
use Rattle.std.proofs.Common.{ℕ, ◌≡◌, ◌<◌, ◌↔◌, List, ◌∷◌, Bor, length, get_or, map, Some, All, Contains, AllPairs, refl, sym, ◌∙◌, ap, subst, inl, inr}
use Rattle.std.proofs.lemmas.List.Elements.{All-contains, All-map, Contains-get_or}
use Rattle.ch_laws.specs.declared.entry.Entry.{Entry}
use Rattle.ch_laws.specs.declared.shortcut.Shortcut.{Shortcut}
use Rattle.ch_laws.specs.Contraction.{IsPlan, IsNeighbour}
use Rattle.ch_laws.specs.Rows.{Row, Rises, Lists, IsChanged, ShowsRemaining}
use Rattle.ch_laws.specs.Members.{find_by, contains-map, contains-mapped, map-map}
use Rattle.ch_laws.specs.Theorems.{RowOfAlive}
use Rattle.ch_overlay.specs.Merging.{merged}
use Rattle.ch_overlay.specs.Overlay.{Overlay, IsOverlay, IsEntry, row_at, state_of}
use Rattle.ch_overlay.specs.Prepared.{Names, AreNamed, Prepared, IsMadeBy, IsPrepared, LeaveOut, Fits}
use Rattle.ch_overlay.specs.Change.{IsChange}
use Rattle.ch_overlay.proofs.MergedEntries.{IsMerged, merged_is}
use Rattle.ch_overlay.proofs.EntriesByNode.{pairs-mapped}
use Rattle.ch_overlay.proofs.SeveralWrites.{all-mapped}
use Rattle.ch_overlay.specs.declared.row.Row as declared
use Rattle.ch_overlay.specs.Ranges.{pairs-map}

-- the nodes that a row names
abbrev pub others_of : Row → List ℕ
others_of r = map (λ e. e.other) (merged r.out r.inn)

module _ (r : Row) (outs : Rises r.out) (inns : Rises r.inn) where
  both : IsMerged r.out r.inn (merged r.out r.inn)
  both = merged_is r.out r.inn outs inns

  other_named : (x : ℕ) → Contains (others_of r) x → Names r x
  other_named x h =
      let found = contains-mapped (λ (e : Entry). e.other) (merged r.out r.inn) x h in
      elim (both.sound found.0 found.1) [ inl is ↦ (found.0, inr is, found.2) | inr is ↦ (found.0, inl is.0, found.2) ]

  listed : (x : ℕ) (e : Entry) → e.other ≡ x → Contains (merged r.out r.inn) e → Contains (others_of r) x
  listed x e same h = subst (λ z. Contains (others_of r) z) same (contains-map (λ (f : Entry). f.other) (merged r.out r.inn) e h)

  named_other : (x : ℕ) → Names r x → Contains (others_of r) x
  named_other x names = elim names.1 [
    | inr into ↦ listed x names.0 names.2 (both.has_new names.0 into)
    | inl out ↦ elim (find_by (λ (e : Entry). e.other) r.inn x) [
      | inl found ↦ listed x found.0 found.2 (both.has_new found.0 found.1)
      | inr none ↦ listed x names.0 names.2 (both.has_old names.0 out (λ f h same. none f h (same ∙ names.2)))
    ]
  ]

  pub others_named : AreNamed r (others_of r)
  others_named = record {
    rising = pairs-map (λ x y. x < y) (λ (e : Entry). e.other) (merged r.out r.inn) both.rises;
    named = λ x. (other_named x, named_other x);
  }

-- rows of an overlay rise
pub row_rises : (o : Overlay) → IsOverlay o → (x : ℕ) → x < length o.rows → Rises (row_at o.rows x).out × Rises (row_at o.rows x).inn
row_rises o holds x inside = let row = holds.rows x inside in (row.out_rises, row.inn_rises)

abbrev view : ℕ × Bor declared.Row → ℕ × Row
view a = (a.0, a.1.now)

module _ (o : Overlay) (holds : IsOverlay o) (v : ℕ) (inside : v < length o.rows) (nodes : List ℕ) (named : AreNamed (row_at o.rows v) nodes) where
  -- the nodes that they name are nodes of it
  pub named_in : All (λ x. x < length o.rows) nodes
  named_in k d h =
      let names = (named.named (get_or nodes k d)).0 (Contains-get_or nodes k d h) in
      let entries = holds.entries v inside in
      subst (λ n. n < length o.rows) names.2 (elim names.1 [
        | inl out ↦ (All-contains (IsEntry (length o.rows) o.bound v) (row_at o.rows v).out names.0 entries.out out).in_range
        | inr into ↦ (All-contains (IsEntry (length o.rows) o.bound v) (row_at o.rows v).inn names.0 entries.inn into).in_range
      ])

  module _ (near : List (ℕ × Bor declared.Row)) (are : map (λ (a : ℕ × Bor declared.Row). a.0) near ≡ nodes) (rows : All (λ (a : ℕ × Bor declared.Row). a.1.now ≡ row_at o.rows a.0) near) where
    -- the rows of these nodes rise
    pub near_rise : All (λ (a : ℕ × Bor declared.Row). Rises a.1.now.out × Rises a.1.now.inn) near
    near_rise k d h =
        let within = all-mapped (λ x. x < length o.rows) (λ (a : ℕ × Bor declared.Row). a.0) near (subst (λ xs. All (λ x. x < length o.rows) xs) (sym are) named_in) k d h in
        subst (λ (r : Row). Rises r.out × Rises r.inn) (sym (rows k d h)) (row_rises o holds (get_or near k d).0 within)

    -- and what is prepared by them fits
    pub near_fit : (put : List Shortcut) (p : Prepared) → IsPlan o.bound (state_of o) v put → IsPrepared v (row_at o.rows v) (map view near) put p → Fits o put p
    near_fit put p plan made = record {
      plan = subst (λ n. IsPlan o.bound (state_of o) n put) (sym made.of_node) plan;
      near = map view near;
      made = subst (λ n. IsPrepared n (row_at o.rows n) (map view near) put p) (sym made.of_node) made;
      rows = All-map (λ (a : ℕ × Row). a.1 ≡ row_at o.rows a.0) view near rows;
      named = subst (λ n. AreNamed (row_at o.rows n) (map (λ (a : ℕ × Row). a.0) (map view near))) (sym made.of_node)
          (subst (λ xs. AreNamed (row_at o.rows v) xs) (sym (map-map view (λ (a : ℕ × Row). a.0) near ∙ are)) named);
    }

module _ (row_of_alive : RowOfAlive) (o : Overlay) (holds : IsOverlay o) (put : List Shortcut) (p : Prepared) (fits : Fits o put p) where
  shows : ShowsRemaining (state_of o) p.node (row_at o.rows p.node)
  shows = row_of_alive o.bound (state_of o) p.node (row_at o.rows p.node) holds.plain (holds.rows p.node fits.plan.alive.in_range) fits.plan.alive

  listing : {es : List Entry} (x : ℕ) (e : Entry) → Contains es e → e.other ≡ x → Lists es x e.cost
  listing x e h same = record { entry = e; among = h; other = same; costs = refl }

  -- the nodes that the row names are the neighbours
  near_named : (x : ℕ) → IsNeighbour (state_of o) p.node x ↔ Names (row_at o.rows p.node) x
  near_named x = (
    λ near. elim ((shows.neighbours x).0 near) [
      | inl out ↦ (out.1.entry, inl out.1.among, out.1.other)
      | inr into ↦ (into.1.entry, inr into.1.among, into.1.other)
    ],
    λ names. (shows.neighbours x).1 (elim names.1 [
      | inl out ↦ inl (names.0.cost, listing x names.0 out names.2)
      | inr into ↦ inr (names.0.cost, listing x names.0 into names.2)
    ]),
  )

  -- the shortcuts join other nodes
  apart : LeaveOut p.node put
  apart q among =
      let through = (fits.plan.allowed q among).through in (
        (holds.plain.arcs q.from p.node through.first.arc.arc through.first.arc.here).apart,
        λ same. (holds.plain.arcs p.node q.to through.second.arc.arc through.second.arc.here).apart (sym same),
      )

  changed : (a : ℕ × Row) → IsMadeBy fits.near put p.node a → IsChanged put p.node a.0 (row_at o.rows a.0) a.1
  changed a is =
      subst (λ (old : Row). IsChanged put p.node a.0 old a.1) (All-contains (λ (b : ℕ × Row). b.1 ≡ row_at o.rows b.0) fits.near (a.0, is.old) fits.rows is.among) is.changed

  pub change_is : IsChange o put (record { node = p.node; rows = (p.node, record p.row { rank = Some (length o.order) }) ∷ p.others })
  change_is = record {
    plan = fits.plan;
    others = p.others;
    rows = ap (λ (r : Row). (p.node, record r { rank = Some (length o.order) }) ∷ p.others) fits.made.same;
    rising = pairs-mapped (λ x y. x < y) (λ (a : ℕ × Row). a.0) 0 p.others (subst (λ xs. AllPairs (λ x y. x < y) xs) (sym fits.made.nodes) fits.named.rising);
    neighbours = λ x. (
      λ h. (near_named x).1 ((fits.named.named x).0 (subst (λ xs. Contains xs x) fits.made.nodes h)),
      λ near. subst (λ xs. Contains xs x) (sym fits.made.nodes) ((fits.named.named x).1 ((near_named x).0 near)),
    );
    changed = λ k d h. changed _ (fits.made.made apart k d h);
  }
